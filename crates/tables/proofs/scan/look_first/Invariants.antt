use Rattle.std.proofs.Common.{length}
use Rattle.tables.proofs.Tallies.{Scanning}
use Rattle.tables.proofs.scan.look_first.Given as goal

abbrev pub invariant-loop-literal : goal.invariant-loop-literal
invariant-loop-literal l = Scanning l.partial l.table l.rest l.tally.trues l.tally.free l.tally.last

abbrev pub decreases-loop-literal : goal.decreases-loop-literal
decreases-loop-literal l = length l.rest
