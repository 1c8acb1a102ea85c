use Rattle.stack.specs.Items.{sound}
use Rattle.branch_tests.proofs.decisions.pile.Given as goal

-- the trail lies within its memory
abbrev pub invariant-loop-l : goal.invariant-loop-l
invariant-loop-l l = sound l.trail
