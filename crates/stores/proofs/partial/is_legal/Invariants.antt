use Rattle.std.proofs.Common.{◌≡◌, drop}
use Rattle.stores.specs.Stores.{legal}
use Rattle.stores.proofs.partial.is_legal.Given as goal

-- the bytes before are 0, 1 or 2
abbrev pub invariant-loop-b : goal.invariant-loop-b
invariant-loop-b l = legal (drop l.b-index l.bytes) ≡ legal l.bytes
