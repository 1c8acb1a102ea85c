use Rattle.lookahead.proofs.Asked.{Filling}
use Rattle.lookahead.proofs.choosing.fill.Given as goal

abbrev pub invariant-loop-b : goal.invariant-loop-b
invariant-loop-b l = Filling l.initial.partial l.partial l.b-index
