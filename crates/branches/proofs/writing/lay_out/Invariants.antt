use Rattle.std.proofs.Common.{◌≡◌, drop}
use Rattle.branches.specs.Laying.{laid}
use Rattle.branches.proofs.writing.lay_out.Given as goal

-- what is left to lay gives the whole
abbrev pub invariant-loop-i : goal.invariant-loop-i
invariant-loop-i l = laid l.kind l.i (drop l.i l.records) l.cells ≡ laid l.kind 0 l.records l.initial.cells
