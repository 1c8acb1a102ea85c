-- What is so after any list of calls: no case is left out, nothing learnt is false, and "none" means none.
use Rattle.std.specs.Prelude.{◌≡◌, ℕ, ◌+◌, Bool, true, false, cond, ◌≢◌, ◌↔◌, List, [], ◌∷◌, map, ℤ, neg_ℤ}
use Rattle.std.proofs.Math.Option.{Option, some}
use Rattle.rules.specs.Literals.{Full, Each, agrees}
use Rattle.rules.specs.Rules.{clause_true}
use Rattle.stores.specs.Stores.{Store, Satisfies}
use Rattle.cutoff.specs.declared.kinds.Cutoff.{Cutoff}
use Rattle.book.specs.declared.held.Mark.{Mark}
use Rattle.book.specs.declared.held.Mark.TheVariants.{Waiting, Out, Closed}
use Rattle.book.specs.Marks.{same_mark}
use Rattle.account.specs.Account.{Branch, Account, Fitting, Call, undecided, none_is, first}
use Rattle.account.specs.Calls.{cubes_of, clauses_of, opinion, run}

-- the decisions of the open branches
abbrev pub open_branches : Account → List (List ℤ)
open_branches t = map (λ (b : Branch). b.decisions) t.pile

-- the decisions of the refuted branches: each is the negation of a learnt clause
abbrev pub refuted_branches : Account → List (List ℤ)
refuted_branches t = map (map neg_ℤ) (clauses_of t.entries)

-- the cubes in a state: cube 1 has the first state, and so on
abbrev pub among : Bool → List ℤ → List (List ℤ) → List (List ℤ)
among true d ds = d ∷ ds
among false d ds = ds

abbrev pub cubes_in : Mark → List (List ℤ) → List Mark → List (List ℤ)
cubes_in y [] xs = []
cubes_in y (d ∷ ds) [] = []
cubes_in y (d ∷ ds) (x ∷ xs) = among (same_mark x y) d (cubes_in y ds xs)

abbrev pub cubes_now : Mark → Account → List (List ℤ)
cubes_now y t = cubes_in y (cubes_of t.entries) t.states

-- with how many of these branches an assignment agrees
abbrev pub count : List ℕ → List (List ℤ) → ℕ
count a [] = 0
count a (d ∷ ds) = cond (agrees a d) 1 0 + count a ds

-- no satisfying assignment agrees with the branch
abbrev pub NoneAgrees : Store → List ℤ → Type 0
NoneAgrees s d = (a : List ℕ) → Satisfies s a → agrees a d ≡ false

abbrev pub KeptRight : Store → Option (List ℕ) → Type 0
KeptRight s k = (a : List ℕ) → k ≡ some a → Satisfies s a

pub record Holds (s : Store) (t : Account) : Type 0 where
  -- each full assignment agrees with exactly one of: a refuted branch, an open branch, a cube waiting, out or closed
  pub cover :
      (a : List ℕ) → Full s.n a →
      count a (refuted_branches t) + count a (open_branches t) + count a (cubes_now Waiting t) + count a (cubes_now Out t) + count a (cubes_now Closed t) ≡ 1
  -- every learnt clause is true in every satisfying assignment, and none agrees with a refuted branch
  pub learnt_true : Each (λ c. (a : List ℕ) → Satisfies s a → clause_true a c ≡ true) (clauses_of t.entries)
  pub refuted_none : Each (NoneAgrees s) (refuted_branches t)
  -- a model that is kept satisfies every rule
  pub kept_right : KeptRight s t.kept
  -- If no satisfying assignment agrees with a closed cube, a verdict other than undecided is "none" exactly when
  -- the store has no satisfying assignment.
  pub verdict_right : Each (NoneAgrees s) (cubes_now Closed t) → opinion t ≢ undecided → (opinion t ≡ none_is) ↔ ((a : List ℕ) → Satisfies s a → ⊥)

-- the theorem at one store: every list of calls, whatever the outlet and the cutoff
abbrev pub TreeHolds : Store → Type 0
TreeHolds s = (fit : Fitting) (c : Cutoff) (cs : List Call) → Holds s (run s fit (first s.n c) cs)
