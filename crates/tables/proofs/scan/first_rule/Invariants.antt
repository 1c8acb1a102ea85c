use Rattle.tables.proofs.Places.{Passing}
use Rattle.tables.proofs.scan.first_rule.Given as goal
use Rattle.std.proofs.Common.{length}

abbrev pub invariant-loop-number : goal.invariant-loop-number
invariant-loop-number l = Passing l.table l.rest

abbrev pub decreases-loop-number : goal.decreases-loop-number
decreases-loop-number l = length l.rest
