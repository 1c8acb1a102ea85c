-- A full assignment that is offered: a rule is settled under it if and only if it satisfies the rule.
use Rattle.std.proofs.Common.{◌≡◌, ℕ, zero, suc, ◌+◌, ◌<◌, ◌≤◌, Bool, true, false, cond, eqb, ◌⊎◌, List, [], ◌∷◌, length, get_or, Some, sym, refl, ap, ◌∙◌, inl, inr, ⊎_elim, arith}
use Rattle.std.proofs.lemmas.Bool.{and_parts, or_cases, eqb-true}
use Rattle.std.specs.Option.{unwrap_or}
use Rattle.rules.specs.Literals.{Partial, Full, Extends, place, free}
use Rattle.stores.specs.declared.look.Look.{Look}
use Rattle.stores.specs.declared.look.Look.TheVariants.{Settled, Broken, Forces, Open}
use Rattle.stores.specs.Stores.{Store, Means, Keeps}
use Rattle.stores.specs.Walks.{is_settled, unsettled_from, first_unsettled}
use Rattle.meaning.proofs.Keeps.{literal_place}
use Rattle.account.specs.Calls.{is_side, all_sides, broken_by, first_broken}

-- ---- bytes that are all sides
byte_side : (b : ℕ) → is_side b ≡ true → (b ≡ 1) ⊎ (b ≡ 2)
byte_side b e = ⊎_elim (λ u. inl (eqb-true b 1 u)) (λ u. inr (eqb-true b 2 u)) (or_cases (eqb b 1) (eqb b 2) e)

sides_set : (a : List ℕ) → all_sides a ≡ true → (i : ℕ) → i < length a → (get_or a i 0 ≡ 1) ⊎ (get_or a i 0 ≡ 2)
sides_set [] e i h = absurd (omega arith)
sides_set (x ∷ a) e zero h = byte_side x (and_parts (is_side x) (all_sides a) e).0
sides_set (x ∷ a) e (suc i) h = sides_set a (and_parts (is_side x) (all_sides a) e).1 i (omega arith)

sides_low : (a : List ℕ) → all_sides a ≡ true → (i : ℕ) → get_or a i 0 ≤ 2
sides_low [] e i = omega arith
sides_low (x ∷ a) e zero = ⊎_elim (λ (u : x ≡ 1). omega arith) (λ (u : x ≡ 2). omega arith) (byte_side x (and_parts (is_side x) (all_sides a) e).0)
sides_low (x ∷ a) e (suc i) = sides_low a (and_parts (is_side x) (all_sides a) e).1 i

none_free : (a : List ℕ) → all_sides a ≡ true → free a ≡ 0
none_free [] e = refl
none_free (zero ∷ a) e = absurd (⊎_elim (λ (u : ◌≡◌ {A = ℕ} 0 1). omega arith) (λ (u : ◌≡◌ {A = ℕ} 0 2). omega arith) (byte_side 0 (and_parts (is_side 0) (all_sides a) e).0))
none_free (suc b ∷ a) e = none_free a (and_parts (is_side (suc b)) (all_sides a) e).1

pub full_fits : (n : ℕ) (a : List ℕ) → all_sides a ≡ true → length a ≡ n → Full n a
full_fits n a e long = record { long = long; set_all = λ i h. sides_set a e i (omega arith) }

pub full_partial : (n : ℕ) (a : List ℕ) → all_sides a ≡ true → length a ≡ n → Partial n a
full_partial n a e long = record { long = long; bytes = sides_low a e }

-- ---- a look under them
module _ (s : Store) (keep : Keeps s) (a : List ℕ) (long : length a ≡ s.n) (e : all_sides a ≡ true) where
  itself : Extends a a
  itself i = inr refl

  -- no variable is free, so no look forces or is open
  settled_means : (r : ℕ) (v : Look) → Means s r a v → is_settled v ≡ s.satisfied r a
  settled_means r Settled h = sym (h a (full_fits s.n a e long) itself)
  settled_means r Broken h = sym (h a (full_fits s.n a e long) itself)
  settled_means r (Forces l) h =
      let low = literal_place s.n l h.0 in
      let is_free = h.1 in
      absurd (⊎_elim (λ (u : get_or a (place l) 0 ≡ 1). omega arith) (λ (u : get_or a (place l) 0 ≡ 2). omega arith) (sides_set a e (place l) (omega arith)))
  settled_means r (Open k) h = let none = none_free a e in absurd (omega (arith, h.0, h.1))

  broken_from : (k r : ℕ) → 1 ≤ r → r + k ≡ suc s.m → unwrap_or (unsettled_from s a k r) 0 ≡ first_broken s a k r
  unfolding unsettled_from first_broken
  broken_from zero r low all = refl
  broken_from (suc k) r low all =
      ap (λ b. unwrap_or (cond b (unsettled_from s a k (suc r)) (Some r)) 0) (settled_means r (s.look r a) (keep r a low (omega arith) (full_partial s.n a e long)))
      ∙ by (s.satisfied r a) (broken_from k (suc r) (omega arith) (omega arith))
    where
      by : (b : Bool) → unwrap_or (unsettled_from s a k (suc r)) 0 ≡ first_broken s a k (suc r) → unwrap_or (cond b (unsettled_from s a k (suc r)) (Some r)) 0 ≡ broken_by (first_broken s a k) r b
      by true f = f
      by false f = refl

  -- what the walk finds is the lowest rule that is broken, and 0 stands where there is none
  pub offered_broken : unwrap_or (first_unsettled s a) 0 ≡ first_broken s a s.m 1
  offered_broken = broken_from s.m 1 (omega arith) (omega arith)
