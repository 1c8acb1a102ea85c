use Rattle.std.proofs.Common.{◌≡◌, drop}
use Rattle.meaning.specs.Tables.{has_var}
use Rattle.tables.proofs.opening.has_var.Given as goal

-- none of the literals before is of that variable
abbrev pub invariant-loop-y : goal.invariant-loop-y
invariant-loop-y l = has_var (drop l.y-index l.literals) l.literal ≡ has_var l.literals l.literal
