-- A loan taken out of a list by its cube.
use Rattle.std.proofs.Common.{◌≡◌, ℕ, ◌+◌, ◌<◌, ◌≤◌, Bool, cond, List, [], ◌∷◌, ◌++◌, length, get_or, take, drop, None, refl, arith}
use Rattle.std.specs.Prelude.{position, count_by, ◌==◌}
use Rattle.std.specs.List.{position_or_len}
use Rattle.std.proofs.lemmas.Bool.Decides.{nat_tests}
use Rattle.std.proofs.lemmas.List.Sums.{sum_by-take-drop, sum_by-drop_more, sum_by-append}
use Rattle.book.specs.declared.held.Loan.{Loan}
use Rattle.holder.specs.Tokens.{count_of}

none_passes : (p : Loan → Bool) (ls : List Loan) → length ls ≤ position_or_len p ls → count_by p ls ≡ 0
none_passes p [] h = refl
none_passes p (l ∷ ls) h = grind (arith, nat_tests, none_passes p ls)

pub none_found : (k : ℕ) (ls : List Loan) → position (λ l. l.cube == k) ls ≡ None → count_of k ls ≡ 0
none_found k ls e = none_passes (λ l. l.cube == k) ls (grind (arith, nat_tests))

pub one_less : (k : ℕ) (ls : List Loan) (i : ℕ) (d : Loan) → i < length ls → count_of k ls ≡ cond ((get_or ls i d).cube == k) 1 0 + count_of k (take i ls ++ drop (i + 1) ls)
one_less k ls i d h =
    let f : Loan → ℕ = λ l. cond {A = ℕ} (l.cube == k) 1 0 in
    omega (arith, sum_by-take-drop f ls i, sum_by-drop_more f ls i d h, sum_by-append f (take i ls) (drop (i + 1) ls))
