-- What is so of a node, over every store that keeps its meaning.
use Rattle.std.specs.Prelude.{◌≡◌, ℕ, ◌<◌, ◌≤◌, true, List, ℤ, ◌≢◌, slice_index}
use Rattle.rules.specs.Literals.{place, Literal, Partial, Extends, Each}
use Rattle.stores.specs.Stores.{Store, Satisfies}
use Rattle.cutoff.specs.declared.kinds.Cutoff.{Cutoff}
use Rattle.cutoff.specs.Cutoffs.{cuts_at}
use Rattle.lookahead.specs.Trials.{Ranking, Scored, alive, lookahead}
use Rattle.lookahead.specs.Nodes.{refuted, model, cube, decided, node, set_in}

-- y is not better than x: its score is not greater, and at a tie its variable is not lower
abbrev pub Beats : Scored → Scored → Type 0
Beats x y = (y.score ≤ x.score) × (y.score ≡ x.score → place x.literal ≤ place y.literal)

-- Soundness. Nothing in it depends on the ranking: it holds of every one.
pub record NodeSound (s : Store) (rank : Ranking) (c : Cutoff) (d : ℕ) (p : List ℕ) : Type 0 where
  -- refuted only if no satisfying assignment extends the branch's partial
  pub refuted_none : (node s rank c d p).result ≡ refuted → (a : List ℕ) → Satisfies s a → Extends a p → ⊥
  -- a model satisfies every rule, and has what the branch set
  pub model_holds : (a : List ℕ) → (node s rank c d p).result ≡ model a → Satisfies s a × Extends a p
  -- a decided node's last partial has what the branch set and loses no satisfying assignment
  pub decided_fits : (l : ℤ) (q : List ℕ) → (node s rank c d p).result ≡ decided l q → Partial s.n q × Extends q p
  pub decided_keeps : (l : ℤ) (q : List ℕ) → (node s rank c d p).result ≡ decided l q → (a : List ℕ) → Satisfies s a → Extends a p → Extends a q
  -- the decided variable is one of the store's, and free
  pub decided_free : (l : ℤ) (q : List ℕ) → (node s rank c d p).result ≡ decided l q → Literal s.n l × (slice_index q (place l) ≡ 0)

-- What is decided, and when: again whatever the ranking is.
pub record NodeChooses (s : Store) (rank : Ranking) (c : Cutoff) (d : ℕ) (p : List ℕ) : Type 0 where
  -- the decided literal is one that the pass scored; no score of a free variable is greater, and at a tie it is the lowest variable
  pub decided_best :
      (l : ℤ) (q : List ℕ) → (node s rank c d p).result ≡ decided l q → (xs : List Scored) → lookahead s rank p ≡ alive q xs →
      (x : Scored) × (x.literal ≡ l) × Each (λ y. slice_index q (place y.literal) ≡ 0 → Beats x y) xs
  -- every variable that is free after the pass has a score
  pub all_scored :
      (q : List ℕ) (xs : List Scored) → lookahead s rank p ≡ alive q xs → (i : ℕ) → i < s.n → slice_index q i ≡ 0 →
      Each (λ y. place y.literal ≢ i) xs → ⊥
  -- a branch is a cube only if the cutoff says so
  pub cube_cut :
      (node s rank c d p).result ≡ cube → (q : List ℕ) (xs : List Scored) → lookahead s rank p ≡ alive q xs →
      cuts_at (node s rank c d p).cutoff s.n d (set_in q) ≡ true

pub record NodeRight (s : Store) : Type 0 where
  pub sound : (rank : Ranking) (c : Cutoff) (d : ℕ) (p : List ℕ) → Partial s.n p → NodeSound s rank c d p
  pub chooses : (rank : Ranking) (c : Cutoff) (d : ℕ) (p : List ℕ) → Partial s.n p → NodeChooses s rank c d p
