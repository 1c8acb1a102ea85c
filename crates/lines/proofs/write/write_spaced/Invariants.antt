use Rattle.std.proofs.Common.{take}
use Rattle.std.specs.List.{AllByRecursion}
use Rattle.lines.specs.Lines.{spaced, Narrow}
use Rattle.lines.proofs.write.write_spaced.Given as goal

abbrev pub invariant-loop-lit : goal.invariant-loop-lit
invariant-loop-lit g l =
    record { text : g.S.Sink.took l.initial.out (spaced (take l.lit-index l.lits)) l.out; narrow : AllByRecursion Narrow (take l.lit-index l.lits) }
