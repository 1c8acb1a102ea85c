use Rattle.std.proofs.Common.{length}
use Rattle.lookahead.specs.Trials.{by_gains}
use Rattle.lookahead.proofs.Passing.{Passing}
use Rattle.lookahead.proofs.looking.look_ahead.Given as goal

abbrev pub invariant-loop-i : goal.invariant-loop-i
invariant-loop-i g l =
    let s = g.S.Rules.means l.store in
    Passing s (by_gains s) l.initial.partial (length l.initial.places) l.partial l.notes l.i l.k
