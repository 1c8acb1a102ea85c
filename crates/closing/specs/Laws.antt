-- What is so of closing, over every store that keeps its meaning.
use Rattle.std.specs.Prelude.{◌≡◌, ℕ, ◌<◌, ◌≤◌, List, Some, None, Option}
use Rattle.rules.specs.Literals.{Partial, Extends}
use Rattle.stores.specs.declared.look.Look.{Look}
use Rattle.stores.specs.declared.look.Look.TheVariants.{Settled, Broken, Forces, Open}
use Rattle.stores.specs.declared.look.Find.{Find}
use Rattle.stores.specs.declared.look.Find.TheVariants.{Clash, Force}
use Rattle.stores.specs.Stores.{Store, Satisfies}
use Rattle.stores.specs.Walks.{lowest_of}
use Rattle.closing.specs.Closing.{clash, closes, close_by, close, left_by, left}

-- neither broken nor forcing
abbrev pub Quiet : Look → Type 0
Quiet Settled = Unit {0}
Quiet Broken = ⊥
Quiet (Forces l) = ⊥
Quiet (Open k) = Unit {0}

-- a rule has this look under p, and every lower one is quiet
pub record First (s : Store) (p : List ℕ) (v : Look) : Type 0 where
  pub rule : ℕ
  pub low : 1 ≤ rule
  pub high : rule ≤ s.m
  pub says : s.look rule p ≡ v
  pub lower : (r : ℕ) → 1 ≤ r → r < rule → Quiet (s.look r p)

-- what it is to be the answer of the lowest rule that is broken or forces
abbrev pub Lowest : Store → List ℕ → Option Find → Type 0
Lowest s p None = (r : ℕ) → 1 ≤ r → r ≤ s.m → Quiet (s.look r p)
Lowest s p (Some Clash) = First s p Broken
Lowest s p (Some (Force l)) = First s p (Forces l)

-- the laws
pub record ClosingRight (s : Store) : Type 0 where
  -- each round goes by the lowest rule that is broken or forces
  pub lowest : (p : List ℕ) → Lowest s p (lowest_of s p)
  -- the number of rounds does not matter: closing is its own first round, then closing
  pub step : (p : List ℕ) → Partial s.n p → close s p ≡ close_by (close s) p (lowest_of s p)
  -- closing only sets free variables
  pub fits : (p q : List ℕ) → Partial s.n p → close s p ≡ closes q → Partial s.n q
  pub sets_free : (p q : List ℕ) → Partial s.n p → close s p ≡ closes q → Extends q p
  -- every satisfying assignment that extends the partial before extends it after
  pub keeps : (p q : List ℕ) → Partial s.n p → close s p ≡ closes q → (a : List ℕ) → Satisfies s a → Extends a p → Extends a q
  -- a clash means that there is none
  pub none_left : (p : List ℕ) → Partial s.n p → close s p ≡ clash → (a : List ℕ) → Satisfies s a → Extends a p → ⊥
  -- in a closed partial no rule is broken or forces
  pub quiet : (p q : List ℕ) → Partial s.n p → close s p ≡ closes q → (r : ℕ) → 1 ≤ r → r ≤ s.m → Quiet (s.look r q)
  pub nothing : (p q : List ℕ) → Partial s.n p → close s p ≡ closes q → lowest_of s q ≡ None
  -- closing a closed partial changes nothing
  pub again : (p q : List ℕ) → Partial s.n p → close s p ≡ closes q → close s q ≡ closes q
  -- what is left is the closed partial, or the one in which the clash was met; in either case only free variables are set
  pub left_step : (p : List ℕ) → Partial s.n p → left s p ≡ left_by (left s) p (lowest_of s p)
  pub left_fits : (p : List ℕ) → Partial s.n p → Partial s.n (left s p)
  pub left_sets_free : (p : List ℕ) → Partial s.n p → Extends (left s p) p
  pub left_closed : (p q : List ℕ) → Partial s.n p → close s p ≡ closes q → left s p ≡ q
  pub left_clash : (p : List ℕ) → Partial s.n p → close s p ≡ clash → lowest_of s (left s p) ≡ Some Clash
