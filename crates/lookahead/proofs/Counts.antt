-- How many variables are set is a count by a test.
use Rattle.std.proofs.Common.{◌≡◌, ℕ, zero, suc, ◌+◌, ◌≤◌, cond, eqb, not, List, [], ◌∷◌, length, sym, refl, ap, ◌∙◌, arith}
use Rattle.std.specs.List.{count_by}
use Rattle.std.proofs.lemmas.List.Recursion.{is_count_by}
use Rattle.std.proofs.lemmas.Bool.{ne_eqb}
use Rattle.rules.specs.Literals.{free}
use Rattle.lookahead.specs.Nodes.{set_in}

free_few : (p : List ℕ) → free p ≤ length p
free_few [] = omega arith
free_few (zero ∷ p) = omega (arith, free_few p)
free_few (suc b ∷ p) = omega (arith, free_few p)

set_by : (b : ℕ) (p : List ℕ) → set_in (b ∷ p) ≡ cond (not (eqb b 0)) (1 + set_in p) (set_in p)
set_by zero p = omega arith
set_by (suc b) p =
    let e : set_in (suc b ∷ p) ≡ 1 + set_in p = omega (arith, free_few p) in
    e ∙ ap (λ t. cond (not t) (1 + set_in p) (set_in p)) (sym (ne_eqb (suc b) 0 (λ z. omega arith)))

pub set_counts : (p : List ℕ) → set_in p ≡ count_by (λ b. not (eqb b 0)) p
set_counts = is_count_by set_in (λ b. not (eqb b 0)) refl set_by
