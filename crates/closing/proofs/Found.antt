-- What the lowest rule that is broken or forces says is so, and it is the lowest.
use Rattle.std.proofs.Common.{◌≡◌, ℕ, zero, suc, ◌+◌, ◌<◌, ◌≤◌, true, List, Some, None, Option, get_or, sym, refl, subst, ⊎_elim, arith}
use Rattle.std.proofs.lemmas.Bool.{both_ways, cases_eq}
use Rattle.std.specs.Option.{option_or}
use Rattle.rules.specs.Literals.{Partial, Extends, Literal, place, is_true}
use Rattle.stores.specs.declared.look.Look.{Look}
use Rattle.stores.specs.declared.look.Look.TheVariants.{Settled, Broken, Forces, Open}
use Rattle.stores.specs.declared.look.Find.{Find}
use Rattle.stores.specs.declared.look.Find.TheVariants.{Clash, Force}
use Rattle.stores.specs.Stores.{Store, Satisfies, Means, Keeps}
use Rattle.stores.specs.Walks.{find_of, found, lowest_of}
use Rattle.closing.specs.Laws.{Quiet, Lowest}

-- no satisfying assignment extends p
abbrev pub Dead : Store → List ℕ → Type 0
Dead s p = (a : List ℕ) → Satisfies s a → Extends a p → ⊥

abbrev pub Says : Store → List ℕ → Option Find → Type 0
Says s p None = Unit {0}
Says s p (Some Clash) = Dead s p
Says s p (Some (Force l)) =
    Literal s.n l × (get_or p (place l) 0 ≡ 0) × ((a : List ℕ) → Satisfies s a → Extends a p → is_true a l ≡ true)

module _ (s : Store) (p : List ℕ) where
  module _ (keep : Keeps s) (fit : Partial s.n p) where
    says_by : (k r : ℕ) → 1 ≤ r → r ≤ s.m → (v : Look) → Means s r p v → Says s p (found s p k (suc r)) → Says s p (option_or (find_of v) (found s p k (suc r)))
    says_by k r low high Settled h rest = rest
    says_by k r low high Broken h rest = λ a sat e. both_ways (s.satisfied r a) (h a sat.full e) (sat.rules r low high)
    says_by k r low high (Forces l) h rest = (h.0, h.1, λ a sat e. h.2 a sat.full e (sat.rules r low high))
    says_by k r low high (Open j) h rest = rest

    says_from : (k r : ℕ) → 1 ≤ r → r + k ≤ suc s.m → Says s p (found s p k r)
    unfolding found
    says_from zero r low high = tt
    says_from (suc k) r low high =
        says_by k r low (omega arith) (s.look r p) (keep r p low (omega arith) fit) (says_from k (suc r) (omega arith) (omega arith))

    pub says : Says s p (lowest_of s p)
    says = says_from s.m 1 (omega arith) (omega arith)

    -- the same of an answer that equals it
    pub said : (f : Option Find) → f ≡ lowest_of s p → Says s p f
    said f e = subst (Says s p) (sym e) says

  -- the rules before r are quiet
  abbrev Before : ℕ → Type 0
  Before r = (j : ℕ) → 1 ≤ j → j < r → Quiet (s.look j p)

  one_more : (r : ℕ) → Before r → Quiet (s.look r p) → Before (suc r)
  one_more r h q j low high = ⊎_elim (λ e. subst (λ u. Quiet (s.look u p)) (sym e) q) (λ e. h j low (omega arith)) (cases_eq j r)

  lowest_by : (k r : ℕ) → 1 ≤ r → r ≤ s.m → Before r → (v : Look) → s.look r p ≡ v → (Before (suc r) → Lowest s p (found s p k (suc r))) → Lowest s p (option_or (find_of v) (found s p k (suc r)))
  lowest_by k r low high h Settled e rest = rest (one_more r h (subst Quiet (sym e) tt))
  lowest_by k r low high h Broken e rest = record { rule = r; low = low; high = high; says = e; lower = h }
  lowest_by k r low high h (Forces l) e rest = record { rule = r; low = low; high = high; says = e; lower = h }
  lowest_by k r low high h (Open j) e rest = rest (one_more r h (subst Quiet (sym e) tt))

  lowest_from : (k r : ℕ) → 1 ≤ r → r + k ≡ suc s.m → Before r → Lowest s p (found s p k r)
  unfolding found
  lowest_from zero r low e h = λ j l u. h j l (omega arith)
  lowest_from (suc k) r low e h =
      lowest_by k r low (omega arith) h (s.look r p) refl (lowest_from k (suc r) (omega arith) (omega arith))

  pub lowest_is : Lowest s p (lowest_of s p)
  lowest_is = lowest_from s.m 1 (omega arith) (omega arith) (λ j l u. absurd (omega arith))
