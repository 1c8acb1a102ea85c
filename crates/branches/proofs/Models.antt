-- The literals of a model, one more at a time.
use Rattle.std.proofs.Common.{◌≡◌, ℕ, suc, ◌+◌, ◌<◌, eqb, List, [], ◌∷◌, ◌++◌, length, get_or, take, sym, ap, ◌∙◌, add-zero, arith}
use Rattle.std.proofs.lemmas.Int.{to_z-of_z}
use Rattle.std.proofs.lemmas.List.{take_more, length-take-le}
use Rattle.lookahead.specs.Trials.{literal_of}
use Rattle.branches.specs.Spelled.{literals_of}

literals_push : (k : ℕ) (xs : List ℕ) (b : ℕ) → literals_of k (xs ++ (b ∷ [])) ≡ literals_of k xs ++ (literal_of (k + length xs) (eqb b 1) ∷ [])
literals_push k [] b = ap (λ j. literal_of j (eqb b 1) ∷ []) (sym (add-zero k))
literals_push k (x ∷ xs) b =
    let e : suc k + length xs ≡ k + suc (length xs) = omega arith in
    ap (λ l. literal_of k (eqb x 1) ∷ l) (literals_push (suc k) xs b ∙ ap (λ j. literals_of (suc k) xs ++ (literal_of j (eqb b 1) ∷ [])) e)

pub literals_more : (bs : List ℕ) (i : ℕ) → i < length bs → literals_of 0 (take (i + 1) bs) ≡ literals_of 0 (take i bs) ++ (literal_of i (eqb (get_or bs i 0) 1) ∷ [])
literals_more bs i h =
    let long : length (take i bs) ≡ i = length-take-le i bs (omega arith) in
    let e : 0 + length (take i bs) ≡ i = omega arith in
    ap (literals_of 0) (take_more bs i 0 h) ∙ literals_push 0 (take i bs) (get_or bs i 0) ∙ ap (λ j. literals_of 0 (take i bs) ++ (literal_of j (eqb (get_or bs i 0) 1) ∷ [])) e

pub ruleset one_more = (literals_more, to_z-of_z)
