-- How many variables are free is a count by a test.
use Rattle.std.proofs.Common.{◌≡◌, ℕ, zero, suc, ◌+◌, cond, eqb, List, ◌∷◌, sym, refl, ap, arith}
use Rattle.std.specs.List.{count_by}
use Rattle.std.proofs.lemmas.List.Recursion.{is_count_by}
use Rattle.std.proofs.lemmas.Bool.{ne_eqb}
use Rattle.rules.specs.Literals.{free}

free_by : (b : ℕ) (p : List ℕ) → free (b ∷ p) ≡ cond (eqb b 0) (1 + free p) (free p)
free_by zero p = omega arith
free_by (suc b) p = ap (λ t. cond t (1 + free p) (free p)) (sym (ne_eqb (suc b) 0 (λ z. omega arith)))

pub free_counts : (p : List ℕ) → free p ≡ count_by (λ b. eqb b 0) p
free_counts = is_count_by free (λ b. eqb b 0) refl free_by
