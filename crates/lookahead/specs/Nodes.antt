-- One node: what becomes of a branch.
use Rattle.std.specs.Prelude.{ℕ, zero, suc, ◌-◌, Bool, true, false, cond, List, [], ◌∷◌, length, ℤ, nat_lt, slice_index}
use Rattle.std.proofs.Math.Option.{Option, none, some}
use Rattle.rules.specs.Literals.{place, free}
use Rattle.stores.specs.Stores.{Store}
use Rattle.stores.specs.Walks.{all_settled}
use Rattle.cutoff.specs.declared.kinds.Cutoff.{Cutoff}
use Rattle.cutoff.specs.Theta.{grow, shrink}
use Rattle.cutoff.specs.Cutoffs.{eased, cuts_at}
use Rattle.lookahead.specs.Trials.{Ranking, Scored, Pass, dead, alive, lookahead}

-- a branch is refuted, has a model, is cut to a cube, or is decided by a literal on the partial beside it
pub data Node : Type 0 where
  refuted : Node
  model : List ℕ → Node
  cube : Node
  decided : ℤ → List ℕ → Node

-- P with its free variables false
abbrev pub filled : List ℕ → List ℕ
filled [] = []
filled (zero ∷ p) = 2 ∷ filled p
filled (suc b ∷ p) = suc b ∷ filled p

-- how many variables are set
abbrev pub set_in : List ℕ → ℕ
set_in p = length p - free p

-- the better of two scores: the later one only if it is greater, so that the lowest variable wins a tie
abbrev pub better : Option Scored → Scored → Option Scored
better none x = some x
better (some y) x = cond (nat_lt y.score x.score) (some x) (some y)

-- a score counts if its variable is still free: its byte in P is 0
abbrev pub better_if : ℕ → Option Scored → Scored → Option Scored
better_if zero o x = better o x
better_if (suc b) o x = o

-- the greatest score of a variable that is free in P, where o is the best so far
abbrev pub best_from : List ℕ → Option Scored → List Scored → Option Scored
best_from p o [] = o
best_from p o (x ∷ xs) = best_from p (better_if (slice_index p (place x.literal)) o x) xs

abbrev pub best : List ℕ → List Scored → Option Scored
best p xs = best_from p none xs

-- the best one is decided. There always is one where this is asked, as the laws say
abbrev pub decide : List ℕ → Option Scored → Node
decide p none = cube
decide p (some x) = decided x.literal p

-- by whether every rule is settled, and whether the cutoff says so
abbrev pub outcome : List ℕ → List Scored → Bool → Bool → Node
outcome p xs true cut = model (filled p)
outcome p xs false true = cube
outcome p xs false false = decide p (best p xs)

-- what a node comes to: the next cutoff and what becomes of the branch
pub record Worked : Type 0 where
  pub cutoff : Cutoff
  pub result : Node

-- with more than 20 decisions the cutoff falls
abbrev pub deepened : ℕ → Cutoff → Cutoff
deepened d c = cond (nat_lt 20 d) (eased shrink c) c

-- after the pass: refuted, the cutoff falls; otherwise it falls where the branch is deep, and then it is asked
abbrev pub finish : Store → Cutoff → ℕ → Pass → Worked
finish s c d dead = record { cutoff = eased shrink c; result = refuted }
finish s c d (alive p xs) =
    record { cutoff = deepened d c; result = outcome p xs (all_settled s p) (cuts_at (deepened d c) s.n d (set_in p)) }

-- the node of a branch with d decisions and the partial p: the cutoff rises, then the pass
unfoldable pub node : Store → Ranking → Cutoff → ℕ → List ℕ → Worked
node s rank c d p = finish s (eased grow c) d (lookahead s rank p)
