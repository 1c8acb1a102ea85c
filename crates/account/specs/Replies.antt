-- Number and values of each answer.
use Rattle.std.specs.Prelude.{ℕ, List, [], ◌∷◌, map, ℤ, pos}
use Rattle.book.specs.declared.held.Word.{Word}
use Rattle.book.specs.declared.held.Word.TheVariants.{Closed, Back}
use Rattle.account.specs.Account.{Opinion, a_model, undecided, none_is, Answer, decides, refutes, cubes, models, cuts, lends, settles, keeps, says, refused}

abbrev pub Reply : Type 0
Reply = ℕ × List ℤ

abbrev pub opinion_number : Opinion → ℕ
opinion_number a_model = 1
opinion_number undecided = 2
opinion_number none_is = 3

abbrev pub word_number : Word → ℕ
word_number Closed = 1
word_number Back = 2

-- accepted calls have numbers below 10, refusals their own number
abbrev pub reply_of : Answer → Reply
reply_of (decides l) = (1, l ∷ [])
reply_of refutes = (2, [])
reply_of (cubes k) = (3, pos k ∷ [])
reply_of models = (4, [])
reply_of (cuts k) = (5, pos k ∷ [])
reply_of (lends k) = (6, pos k ∷ [])
reply_of (settles w k) = (7, pos (word_number w) ∷ pos k ∷ [])
reply_of keeps = (8, [])
reply_of (says o ks) = (9, pos (opinion_number o) ∷ map pos ks)
reply_of (refused k place) = (k, pos place ∷ [])
