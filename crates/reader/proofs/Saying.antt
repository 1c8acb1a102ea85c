-- What a literal says inside a rule, by the stamps of its variables.
use Rattle.std.proofs.Common.{◌≡◌, ℕ, ◌-◌, ◌<◌, ◌≤◌, true, false, cond, eqb, ltb, List, [], ◌∷◌, ◌++◌, length, get_or, set, ℤ, nat_abs, Some, sym, ap, ◌∙◌, subst, arith}
use Rattle.std.proofs.lemmas.Bool.{cond-true, cond-false, ne_eqb, le-ltb}
use Rattle.rules.specs.declared.fault.Reason.TheVariants.{Variable, Repeated}
use Rattle.rules.specs.Literals.{place}
use Rattle.reader.specs.Reading.{wrong, gives, ends, literal_says}
use Rattle.reader.specs.Marks.{Marked}
use Rattle.reader.proofs.Stamps.{named_is, place_is, marked_more}

module _ {ss : List ℕ} {top : ℕ} (n : ℕ) {ls : List ℤ} (z : ℤ) (m : Marked ss top ls) (some : 0 < nat_abs z) (low : nat_abs z ≤ n) (few : n ≤ 2048) where
  at_place : place z ≡ nat_abs z - 1
  at_place = omega (arith, place_is z some)

  within : place z < 2048
  within = omega (arith, at_place)

  says_by : literal_says n ls (Some z) ≡ cond (eqb (get_or ss (nat_abs z - 1) 0) top) (wrong Repeated) (gives z)
  says_by =
      cond-false (eqb (nat_abs z) 0) ends _ (ne_eqb (nat_abs z) 0 (λ e. omega arith))
      ∙ (cond-false (ltb n (nat_abs z)) (wrong Variable) _ (le-ltb n (nat_abs z) low)
      ∙ ap (λ b. cond b (wrong Repeated) (gives z)) (named_is z ls ∙ (sym (m.told (place z) within) ∙ ap (λ i. eqb (get_or ss i 0) top) at_place)))

  pub says_repeated : eqb (get_or ss (nat_abs z - 1) 0) top ≡ true → wrong Repeated ≡ literal_says n ls (Some z)
  says_repeated e = sym (says_by ∙ cond-true _ (wrong Repeated) (gives z) e)

  pub says_given : eqb (get_or ss (nat_abs z - 1) 0) top ≡ false → gives z ≡ literal_says n ls (Some z)
  says_given e = sym (says_by ∙ cond-false _ (wrong Repeated) (gives z) e)

  pub marked_grown : length ss ≡ 2048 → Marked (set ss (nat_abs z - 1) top) top (ls ++ (z ∷ []))
  marked_grown long = subst (λ i. Marked (set ss i top) top (ls ++ (z ∷ []))) at_place (marked_more z long within m)
