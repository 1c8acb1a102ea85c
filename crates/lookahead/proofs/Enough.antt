-- A closed partial with a rule that is not settled has a free variable, so a node that must decide finds one.
use Rattle.std.proofs.Common.{◌≡◌, ℕ, zero, suc, ◌+◌, ◌<◌, ◌≤◌, false, ◌&&◌, None, List, [], ◌∷◌, length, get_or, sym, refl, subst, inl, inr, arith}
use mathlib.Core.Option.{Option, none, some}
use Rattle.std.specs.Option.{option_or}
use Rattle.std.proofs.lemmas.Bool.{true≢false}
use Rattle.rules.specs.Literals.{place, free, Partial, Each}
use Rattle.stores.specs.declared.look.Look.{Look}
use Rattle.stores.specs.declared.look.Look.TheVariants.{Settled, Broken, Forces, Open}
use Rattle.stores.specs.Stores.{Store, Means, Keeps}
use Rattle.stores.specs.Walks.{find_of, found, is_settled, settled_from, all_settled}
use Rattle.lookahead.specs.Trials.{Scored}
use Rattle.lookahead.specs.Nodes.{best}
use Rattle.lookahead.proofs.Scores.{Listed}
use Rattle.lookahead.proofs.Chosen.{BestMeans, best_means}
use Rattle.lookahead.proofs.Passes.{Stands}

free_one : (p : List ℕ) → 1 ≤ free p → (j : ℕ) × (j < length p) × (get_or p j 0 ≡ 0)
free_one [] h = absurd (omega arith)
free_one (zero ∷ p) h = (0, omega arith, refl)
free_one (suc b ∷ p) h = let k = free_one p h in (suc k.0, (let i = k.1 in omega arith), k.2)

-- a list with a free variable does not have only set ones
not_all_set : (q : List ℕ) (j : ℕ) → get_or q j 0 ≡ 0 → (xs : List Scored) → Listed j xs → Each (λ (y : Scored). get_or q (place y.literal) 0 ≡ 0 → ⊥) xs → ⊥
not_all_set q j e [] h k = h
not_all_set q j e (x ∷ xs) (inl h) k = k.0 (subst (λ u. get_or q u 0 ≡ 0) (sym h) e)
not_all_set q j e (x ∷ xs) (inr h) k = not_all_set q j e xs h k.1

some_best : (n : ℕ) (q : List ℕ) (xs : List Scored) (j : ℕ) → get_or q j 0 ≡ 0 → Listed j xs → (o : Option Scored) → BestMeans n q xs o → (x : Scored) × (o ≡ some x)
some_best n q xs j e h none k = absurd (not_all_set q j e xs h k)
some_best n q xs j e h (some x) k = (x, refl)

module _ (s : Store) (keep : Keeps s) where
  -- nothing is broken or forces and not all is settled: a rule is open
  open_by : (q : List ℕ) (k r : ℕ) (v : Look) → Means s r q v → option_or (find_of v) (found s q k (suc r)) ≡ None → (is_settled v && settled_from s q k (suc r)) ≡ false → (found s q k (suc r) ≡ None → settled_from s q k (suc r) ≡ false → 2 ≤ free q) → 2 ≤ free q
  open_by q k r Settled m e f rest = rest e f
  open_by q k r Broken m e f rest = absurd (let z : ◌≡◌ {A = ℕ} 0 1 = cc e in omega arith)
  open_by q k r (Forces l) m e f rest = absurd (let z : ◌≡◌ {A = ℕ} 0 1 = cc e in omega arith)
  open_by q k r (Open j) m e f rest = omega arith

  open_left : (q : List ℕ) → Partial s.n q → (k r : ℕ) → 1 ≤ r → r + k ≤ suc s.m → found s q k r ≡ None → settled_from s q k r ≡ false → 2 ≤ free q
  unfolding found settled_from
  open_left q fit zero r low high e f = absurd (true≢false f)
  open_left q fit (suc k) r low high e f =
      open_by q k r (s.look r q) (keep r q low (omega arith) fit) e f (open_left q fit k (suc r) (omega arith) (omega arith))

  -- a pass that leaves a rule unsettled leaves a score to decide by
  pub decides : (p q : List ℕ) (xs : List Scored) → Stands s p s.n q xs → all_settled s q ≡ false → (x : Scored) × (best q xs ≡ some x)
  decides p q xs now f =
      let fit = now.grown.fits in
      let two = open_left q fit s.m 1 (omega arith) (omega arith) now.quiet f in
      let j = free_one q (omega arith) in
      let long = fit.long in
      let low = j.1 in
      some_best s.n q xs j.0 j.2 (now.listed j.0 (omega arith) j.2) (best q xs) (best_means s.n q s.n xs now.literals now.rises)
