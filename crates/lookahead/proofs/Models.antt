-- Where every rule is settled, the partial with its free variables false satisfies the store.
use Rattle.std.proofs.Common.{◌≡◌, ℕ, zero, suc, ◌+◌, ◌<◌, ◌≤◌, true, List, subst, ⊎_elim, arith}
use Rattle.std.proofs.lemmas.Bool.{false≢true, and_parts, cases_eq}
use Rattle.rules.specs.Literals.{Partial, Full, Extends}
use Rattle.stores.specs.declared.look.Look.{Look}
use Rattle.stores.specs.declared.look.Look.TheVariants.{Settled, Broken, Forces, Open}
use Rattle.stores.specs.Stores.{Store, Satisfies, Means, Keeps}
use Rattle.stores.specs.Walks.{is_settled, settled_from, all_settled}
use Rattle.lookahead.specs.Nodes.{filled}
use Rattle.lookahead.proofs.Partials.{filled_full, filled_extends}

module _ (s : Store) where
  settled_at : (p : List ℕ) (k r : ℕ) → settled_from s p k r ≡ true → (j : ℕ) → r ≤ j → j < r + k → is_settled (s.look j p) ≡ true
  unfolding settled_from
  settled_at p zero r e j low high = absurd (omega arith)
  settled_at p (suc k) r e j low high =
      let parts = and_parts (is_settled (s.look r p)) (settled_from s p k (suc r)) e in
      ⊎_elim
      (λ u. subst (λ v. is_settled (s.look v p) ≡ true) u parts.0)
      (λ u. settled_at p k (suc r) parts.1 j (omega arith) (omega arith))
      (cases_eq r j)

  settled_means : (r : ℕ) (p : List ℕ) (v : Look) → is_settled v ≡ true → Means s r p v → (a : List ℕ) → Full s.n a → Extends a p → s.satisfied r a ≡ true
  settled_means r p Settled e h = h
  settled_means r p Broken e h = absurd (false≢true e)
  settled_means r p (Forces l) e h = absurd (false≢true e)
  settled_means r p (Open k) e h = absurd (false≢true e)

  pub model_means : Keeps s → (p : List ℕ) → Partial s.n p → all_settled s p ≡ true → Satisfies s (filled p)
  model_means keep p fit e =
      let full = filled_full s.n p fit in
      record {
        full = full;
        rules =
            λ r low high.
            settled_means r p (s.look r p) (settled_at p s.m 1 e r low (omega arith)) (keep r p low high fit) (filled p) full (filled_extends p);
      }
