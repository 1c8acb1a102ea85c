use Rattle.std.proofs.Common.{◌≡◌}
use Rattle.std.specs.Slice.Iter.{iter_rest}
use Rattle.std.specs.Iterator.Adapters.{rev_source, enumerate_source, enumerate_count}
use Rattle.branches.specs.Laying.{moved_back}
use Rattle.branches.proofs.writing.take_back.Given as goal

-- what is left to move back gives the whole
abbrev pub invariant-loop-i : goal.invariant-loop-i
invariant-loop-i l =
    (enumerate_count (rev_source l.i-iterator) ≡ 0)
    × (moved_back 0 (iter_rest (enumerate_source (rev_source l.i-iterator))) l.cells ≡ moved_back 0 l.records l.initial.cells)
