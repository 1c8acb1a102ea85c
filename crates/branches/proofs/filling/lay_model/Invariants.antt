use Rattle.std.proofs.Common.{◌≡◌, ◌≤◌, length, take}
use Rattle.stack.specs.Items.{items, sound, size}
use Rattle.branches.specs.Spelled.{literals_of}
use Rattle.branches.proofs.filling.lay_model.Given as goal

-- the trail has the literals so far
abbrev pub invariant-loop-i : goal.invariant-loop-i
invariant-loop-i l =
    (length l.bytes ≤ size l.initial.trail → (l.trail.len ≡ l.i) × (items l.trail ≡ literals_of 0 (take l.i l.bytes)))
    × sound l.trail
    × (size l.trail ≡ size l.initial.trail)
