use Rattle.tables.proofs.Checking.{Counting}
use Rattle.tables.proofs.opening.count_rules.Given as goal

abbrev pub invariant-loop-z : goal.invariant-loop-z
invariant-loop-z l = Counting l.table l.z-index l.rules
