use Rattle.tables.proofs.Checking.{Checked}
use Rattle.tables.proofs.opening.check_rules.Given as goal

abbrev pub invariant-loop-i : goal.invariant-loop-i
invariant-loop-i l = Checked l.vars l.table l.start l.i
