-- What a node comes to after its pass.
use Rattle.std.proofs.Common.{◌≡◌, ℕ, zero, suc, ◌≤◌, Bool, true, List, [], ◌∷◌, map, get_or, ℤ, Option as Maybe, sym, refl, ap, ◌∙◌, arith}
use mathlib.Core.Option.{Option, none, some}
use Rattle.lookahead.specs.Answers.{literal_in, decided_as, node_of}
use Rattle.rules.specs.Literals.{Partial, Each}
use Rattle.stores.specs.Stores.{Store}
use Rattle.stores.specs.Walks.{all_settled}
use Rattle.cutoff.specs.declared.kinds.Cutoff.{Cutoff}
use Rattle.cutoff.specs.Theta.{grow, shrink}
use Rattle.cutoff.specs.Cutoffs.{eased, cuts_at}
use Rattle.lookahead.specs.Trials.{Ranking, Scored, dead, alive, lookahead}
use Rattle.lookahead.specs.Nodes.{Node, refuted, model, decide, filled, set_in, deepened, outcome, finish, node, Worked}
use Rattle.lookahead.proofs.Partials.{length_filled}

abbrev came_to : Cutoff → Node → Worked
came_to c r = record { cutoff = c; result = r }

module _ (s : Store) (rank : Ranking) (c : Cutoff) (d : ℕ) (p : List ℕ) where
  pub node_dead : (e : Cutoff) → lookahead s rank p ≡ dead → e ≡ eased shrink (eased grow c) → node s rank c d p ≡ record { cutoff = e; result = refuted }
  unfolding node
  node_dead e h k = ap (finish s (eased grow c) d) h ∙ ap (λ u. came_to u refuted) (sym k)

  pub node_alive :
      (e : Cutoff) (q : List ℕ) (xs : List Scored) (settled cut : Bool) → lookahead s rank p ≡ alive q xs → e ≡ deepened d (eased grow c) → all_settled s q ≡ settled →
      cuts_at e s.n d (set_in q) ≡ cut → node s rank c d p ≡ record { cutoff = e; result = outcome q xs settled cut }
  unfolding node
  node_alive e q xs settled cut h k a b =
      ap (finish s (eased grow c) d) h
      ∙ ap (λ u. came_to u (outcome q xs (all_settled s q) (cuts_at u s.n d (set_in q)))) (sym k)
      ∙ ap (λ u. came_to e (outcome q xs u (cuts_at e s.n d (set_in q)))) a
      ∙ ap (λ u. came_to e (outcome q xs settled u)) b

  -- a settled node is a model whatever the cutoff says
  pub node_settled :
      (e : Cutoff) (q : List ℕ) (xs : List Scored) → lookahead s rank p ≡ alive q xs → e ≡ deepened d (eased grow c) → all_settled s q ≡ true →
      node s rank c d p ≡ record { cutoff = e; result = model (filled q) }
  node_settled e q xs h k a = node_alive e q xs true (cuts_at e s.n d (set_in q)) h k a refl

filled_low : (p : List ℕ) (i : ℕ) → get_or p i 0 ≤ 2 → get_or (filled p) i 0 ≤ 2
filled_low [] i h = h
filled_low (zero ∷ p) zero h = omega arith
filled_low (suc b ∷ p) zero h = h
filled_low (zero ∷ p) (suc i) h = filled_low p i h
filled_low (suc b ∷ p) (suc i) h = filled_low p i h

pub filled_fits : (n : ℕ) (p : List ℕ) → Partial n p → Partial n (filled p)
filled_fits n p fit = record { long = length_filled p ∙ fit.long; bytes = λ i. filled_low p i (fit.bytes i) }

pub each_of : {A B : Type 0} (P : B → Type 0) (f : A → B) (xs : List A) → Each P (map f xs) → Each (λ x. P (f x)) xs
each_of P f [] e = tt
each_of P f (x ∷ xs) e = (e.0, each_of P f xs e.1)

-- the literal that the code chose is the best one's
pub decided_by : (q : List ℕ) (o : Option Scored) (m : Maybe ℤ) → literal_in o ≡ m → decide q o ≡ node_of (decided_as m) q
decided_by q none m e = ap (λ u. node_of (decided_as u) q) e
decided_by q (some x) m e = ap (λ u. node_of (decided_as u) q) e
