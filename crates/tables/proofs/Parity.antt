-- An odd number leaves 1 when it is halved.
use Rattle.std.proofs.Common.{◌≡◌, ℕ, zero, suc, ◌%◌, Bool, true, false, not, eqb, sym, refl, ap, ◌∙◌, arith}
use Rattle.rules.specs.Rules.{is_odd}

not_not : (b : Bool) → not (not b) ≡ b
not_not true = refl
not_not false = refl

pub odd_rest : (k : ℕ) → eqb (k % 2) 1 ≡ is_odd k
odd_rest zero = refl
odd_rest (suc zero) = refl
odd_rest (suc (suc k)) = ap (λ u. eqb u 1) (let e : suc (suc k) % 2 ≡ k % 2 = omega arith in e) ∙ odd_rest k ∙ sym (not_not (is_odd k))
