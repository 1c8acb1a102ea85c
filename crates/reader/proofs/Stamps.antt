-- The stamps of the variables of a rule.
use Rattle.std.proofs.Common.{◌≡◌, ℕ, zero, suc, ◌+◌, ◌<◌, ◌≤◌, true, ◌||◌, eqb, leb, List, [], ◌∷◌, ◌++◌, length, get_or, set, ℤ, pos, negsuc, nat_abs, sym, refl, ap, ◌∙◌, ⊎_elim, arith}
use Rattle.std.proofs.Math.Bool.{or-false}
use Rattle.std.proofs.lemmas.List.Recursion.{or_push}
use Rattle.std.proofs.lemmas.List.{get_or-set_same, get_or-set_other}
use Rattle.std.proofs.lemmas.Bool.{and_parts, and_from, leb-true, le-leb, eq-eqb, ne_eqb, cases_eq, or_right}
use Rattle.rules.specs.Literals.{place}
use Rattle.reader.specs.Reading.{named}
use Rattle.reader.specs.Marks.{none_above, has_place, Marked}

pub raised : (top : ℕ) (ss : List ℕ) → none_above top ss ≡ true → none_above (top + 1) ss ≡ true
raised top [] h = refl
raised top (s ∷ ss) h =
    let p = and_parts (leb s top) (none_above top ss) h in
    and_from (leb s (top + 1)) (none_above (top + 1) ss) (le-leb s (top + 1) (omega (arith, leb-true s top p.0))) (raised top ss p.1)

pub stamped : (top i : ℕ) (ss : List ℕ) → none_above top ss ≡ true → none_above top (set ss i top) ≡ true
stamped top i [] h = refl
stamped top zero (s ∷ ss) h = and_from (leb top top) (none_above top ss) (le-leb top top (omega arith)) (and_parts (leb s top) (none_above top ss) h).1
stamped top (suc i) (s ∷ ss) h =
    let p = and_parts (leb s top) (none_above top ss) h in
    and_from (leb s top) (none_above top (set ss i top)) p.0 (stamped top i ss p.1)

at_most : (top : ℕ) (ss : List ℕ) (i : ℕ) → none_above top ss ≡ true → get_or ss i 0 ≤ top
at_most top [] i h = omega arith
at_most top (s ∷ ss) zero h = leb-true s top (and_parts (leb s top) (none_above top ss) h).0
at_most top (s ∷ ss) (suc i) h = at_most top ss i (and_parts (leb s top) (none_above top ss) h).1

-- a new stamp marks none
pub marked_none : (top : ℕ) (ss : List ℕ) → none_above top ss ≡ true → Marked ss (top + 1) []
marked_none top ss h = record { told = λ i lt. ne_eqb (get_or ss i 0) (top + 1) (λ e. omega (arith, at_most top ss i h)) }

has_place_push : (i : ℕ) (ls : List ℤ) (z : ℤ) → has_place i (ls ++ (z ∷ [])) ≡ (has_place i ls || eqb (place z) i)
has_place_push i = or_push (has_place i) (λ l. eqb (place l) i) refl (λ l ls. refl)

-- one literal more
pub marked_more : {ss : List ℕ} {top : ℕ} {ls : List ℤ} (z : ℤ) → length ss ≡ 2048 → place z < 2048 → Marked ss top ls → Marked (set ss (place z) top) top (ls ++ (z ∷ []))
marked_more {ss} {top} {ls} z long fits old = record {
  told = λ i lt.
      ⊎_elim
      (λ e.
      let within : place z < length ss = omega arith in
      let one : get_or (set ss (place z) top) i 0 ≡ top = ap (λ j. get_or (set ss (place z) top) j 0) e ∙ get_or-set_same ss (place z) top 0 within in
      eq-eqb _ top one ∙ sym (has_place_push i ls z ∙ or_right (has_place i ls) (eqb (place z) i) (eq-eqb (place z) i (sym e))))
      (λ n.
      ap (λ s. eqb s top) (get_or-set_other ss (place z) i top 0 n)
      ∙ (old.told i lt
      ∙ sym (has_place_push i ls z ∙ (ap (λ b. has_place i ls || b) (ne_eqb (place z) i (λ e. n (sym e))) ∙ or-false (has_place i ls)))))
      (cases_eq i (place z));
}

pub named_is : (z : ℤ) (ls : List ℤ) → named z ls ≡ has_place (place z) ls
named_is z [] = refl
named_is z (l ∷ ls) = ap (λ b. eqb (place l) (place z) || b) (named_is z ls)

pub place_is : (z : ℤ) → 0 < nat_abs z → place z + 1 ≡ nat_abs z
place_is (pos zero) h = absurd (omega arith)
place_is (pos (suc i)) h = omega arith
place_is (negsuc i) h = omega arith
