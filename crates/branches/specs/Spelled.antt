-- What a branch is written as, and the literals of a model.
use Rattle.std.specs.Prelude.{ℕ, suc, ◌+◌, Bool, true, false, cond, List, [], ◌∷◌, map, reverse, ℤ, neg_ℤ, ◌==◌}
use Rattle.std.proofs.Math.Option.{Option, none, some}
use Rattle.stack.specs.declared.kinds.Record.{Record}
use Rattle.outlet.specs.declared.kinds.Kind.{Kind}
use Rattle.outlet.specs.declared.kinds.Kind.TheVariants.{Cube, Learnt}
use Rattle.outlet.specs.Entries.{Entry, cube, learnt}
use Rattle.lookahead.specs.Trials.{literal_of}
use Rattle.account.specs.Piles.{path, Place}

-- a stack holds the records oldest first; the pile is told from the newest on
abbrev pub newest_first : List Record → List Record
newest_first rs = reverse rs

-- a cube has the branch's decisions, a learnt clause their negations
abbrev pub entry_with : Kind → List ℤ → Entry
entry_with Cube d = cube d
entry_with Learnt d = learnt (map neg_ℤ d)

abbrev pub branch_entry : Kind → List Record → Entry
branch_entry kind rs = entry_with kind (path (newest_first rs))

-- the literals of a full assignment, from place i on
abbrev pub literals_of : ℕ → List ℕ → List ℤ
literals_of i [] = []
literals_of i (b ∷ a) = literal_of i (b == 1) ∷ literals_of (suc i) a

-- how many second sides have still to be searched
abbrev pub unsearched : List Record → ℕ
unsearched [] = 0
unsearched (r ∷ rs) = cond r.second 0 1 + unsearched rs

-- where trail and records stand, by the answer whether a branch is left
abbrev pub place_by : Bool → List ℤ → List Record → Option Place
place_by false trail rs = none
place_by true trail rs = some (record { trail = trail; records = rs })
