use Rattle.std.proofs.Common.{◌≡◌}
use Rattle.stack.specs.Items.{items}
use Rattle.branches.proofs.Backs.{Retreating}
use Rattle.branches.proofs.going.retreat.Given as goal

-- the trail waits while records are taken off
abbrev pub invariant-loop-r : goal.invariant-loop-r
invariant-loop-r l = (l.trail ≡ l.initial.trail) × Retreating (items l.initial.trail) l.initial.records l.records

abbrev pub decreases-loop-r : goal.decreases-loop-r
decreases-loop-r l = l.records.len
