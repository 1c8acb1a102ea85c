-- The laws of a node, over every store that keeps its meaning and for every ranking.
use Rattle.std.proofs.Common.{◌≡◌, ℕ, Bool, true, false, List, get_or, sym, refl, ap, subst}
use mathlib.Core.Option.{Option, none, some}
use Rattle.rules.specs.Literals.{place, Literal, Partial, Extends}
use Rattle.stores.specs.Stores.{Store, Satisfies, Keeps}
use Rattle.stores.specs.Walks.{all_settled}
use Rattle.closing.proofs.Partials.{extends_on}
use Rattle.closing.proofs.Found.{Dead}
use Rattle.cutoff.specs.declared.kinds.Cutoff.{Cutoff}
use Rattle.cutoff.specs.Theta.{grow}
use Rattle.cutoff.specs.Cutoffs.{eased, cuts_at}
use Rattle.lookahead.specs.Trials.{Ranking, Scored, Pass, dead, alive, lookahead}
use Rattle.lookahead.specs.Nodes.{Node, refuted, model, cube, decided, filled, set_in, best, decide, outcome, deepened, finish, node}
use Rattle.lookahead.specs.Laws.{NodeSound, NodeChooses, NodeRight}
use Rattle.lookahead.proofs.Partials.{filled_extends}
use Rattle.lookahead.proofs.Scores.{listed_somewhere}
use Rattle.lookahead.proofs.Passes.{Grown, Stands, PassMeans, lookahead_means, alive_means}
use Rattle.lookahead.proofs.Chosen.{BeatsAll, BestMeans, best_means}
use Rattle.lookahead.proofs.Enough.{decides}
use Rattle.lookahead.proofs.Models.{model_means}

-- what is so of the node of a branch with the partial p, by what it comes to
abbrev pub NodeMeans : Store → List ℕ → Node → Type 0
NodeMeans s p refuted = Dead s p
NodeMeans s p (model a) = Satisfies s a × Extends a p
NodeMeans s p cube = Unit {0}
NodeMeans s p (decided l q) = Grown s p q × Literal s.n l × (get_or q (place l) 0 ≡ 0)

-- what is so of a node whose pass left q and the scores xs, where cut is what the cutoff said
abbrev pub Picks : List ℕ → List Scored → Bool → Node → Type 0
Picks q xs cut refuted = Unit {0}
Picks q xs cut (model a) = Unit {0}
Picks q xs cut cube = cut ≡ true
Picks q xs cut (decided l r) = (x : Scored) × (x.literal ≡ l) × BeatsAll q x xs

module _ (s : Store) (keep : Keeps s) where
  module _ (p q : List ℕ) (xs : List Scored) (now : Stands s p s.n q xs) where
    best_now : BestMeans s.n q xs (best q xs)
    best_now = best_means s.n q s.n xs now.literals now.rises

    decide_means : (o : Option Scored) → BestMeans s.n q xs o → NodeMeans s p (decide q o)
    decide_means none h = tt
    decide_means (some x) h = (now.grown, h.0.literal, h.0.free)

    outcome_means : (settled cut : Bool) → all_settled s q ≡ settled → NodeMeans s p (outcome q xs settled cut)
    outcome_means true cut e =
        (model_means s keep q now.grown.fits e, extends_on (filled q) q p (filled_extends q) now.grown.adds)
    outcome_means false true e = tt
    outcome_means false false e = decide_means (best q xs) best_now

    decide_picks : (x : Scored) → BestMeans s.n q xs (some x) → (cut : Bool) → Picks q xs cut (decide q (some x))
    decide_picks x h cut = (x, refl, h.1)

    outcome_picks : (settled cut : Bool) → all_settled s q ≡ settled → Picks q xs cut (outcome q xs settled cut)
    outcome_picks true cut e = tt
    outcome_picks false true e = refl
    outcome_picks false false e =
        let found = decides s keep p q xs now e in
        let h = subst (BestMeans s.n q xs) found.1 best_now in
        subst (λ o. Picks q xs false (decide q o)) (sym found.1) (decide_picks found.0 h false)

  finish_means : (c : Cutoff) (d : ℕ) (p : List ℕ) (r : Pass) → PassMeans s p r → NodeMeans s p (finish s c d r).result
  finish_means c d p dead h = h
  finish_means c d p (alive q xs) h =
      outcome_means p q xs h (all_settled s q) (cuts_at (deepened d c) s.n d (set_in q)) refl

  module _ (rank : Ranking) (c : Cutoff) (d : ℕ) (p : List ℕ) (fit : Partial s.n p) where
    pub node_means : NodeMeans s p (node s rank c d p).result
    unfolding node
    node_means = finish_means (eased grow c) d p (lookahead s rank p) (lookahead_means s keep rank p fit)

    -- the same of what it is known to come to
    means_at : (r : Node) → (node s rank c d p).result ≡ r → NodeMeans s p r
    means_at r e = subst (NodeMeans s p) e node_means

    -- what the node does after a pass that refutes nothing
    node_after : (q : List ℕ) (xs : List Scored) → lookahead s rank p ≡ alive q xs → node s rank c d p ≡ finish s (eased grow c) d (alive q xs)
    unfolding node
    node_after q xs e = ap (finish s (eased grow c) d) e

    pub node_picks : (q : List ℕ) (xs : List Scored) → lookahead s rank p ≡ alive q xs → Picks q xs (cuts_at (node s rank c d p).cutoff s.n d (set_in q)) (node s rank c d p).result
    node_picks q xs e =
        subst (λ w. Picks q xs (cuts_at w.cutoff s.n d (set_in q)) w.result) (sym (node_after q xs e))
        (outcome_picks p q xs (alive_means s keep rank p fit q xs e) (all_settled s q) (cuts_at (deepened d (eased grow c)) s.n d (set_in q)) refl)

    picks_at : (q : List ℕ) (xs : List Scored) → lookahead s rank p ≡ alive q xs → (r : Node) → (node s rank c d p).result ≡ r → Picks q xs (cuts_at (node s rank c d p).cutoff s.n d (set_in q)) r
    picks_at q xs e r f = subst (Picks q xs (cuts_at (node s rank c d p).cutoff s.n d (set_in q))) f (node_picks q xs e)

    pub sound : NodeSound s rank c d p
    sound =
        record {
          refuted_none = means_at refuted;
          model_holds = λ a. means_at (model a);
          decided_fits = λ l q e. let m = means_at (decided l q) e in (m.0.fits, m.0.adds);
          decided_keeps = λ l q e. (means_at (decided l q) e).0.keeps;
          decided_free = λ l q e. let m = means_at (decided l q) e in (m.1, m.2);
        }

    pub chooses : NodeChooses s rank c d p
    chooses =
        record {
          decided_best = λ l q f xs e. picks_at q xs e (decided l q) f;
          all_scored = λ q xs e i h u k. listed_somewhere i xs ((alive_means s keep rank p fit q xs e).listed i h u) k;
          cube_cut = λ f q xs e. picks_at q xs e cube f;
        }

pub right : (s : Store) → Keeps s → NodeRight s
right s keep = record { sound = sound s keep; chooses = chooses s keep }
