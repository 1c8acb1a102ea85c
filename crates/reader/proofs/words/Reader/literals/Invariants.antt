use Rattle.std.proofs.Common.{◌≡◌, ◌+◌, ◌-◌, ◌≤◌, List, length, ℤ}
use Rattle.reader.specs.Left.{left}
use Rattle.reader.specs.Marks.{Marked}
use Rattle.reader.proofs.Rounds.{Counting}
use Rattle.reader.proofs.words.Reader.literals.Given as goal

abbrev pub invariant-loop-word : goal.invariant-loop-word
invariant-loop-word l =
    (l.self.text ≡ l.initial.self.text)
    × (l.initial.self.at + l.count ≤ l.self.at)
    × (l.marks.top ≡ l.initial.marks.top)
    × ((ls : List ℤ) → Marked l.initial.marks.stamps l.initial.marks.top ls → Counting l.header.variables (length l.initial.self.text.now) ls (left l.initial.self) (left l.self) l.marks.stamps l.marks.top l.count)

abbrev pub decreases-loop-word : goal.decreases-loop-word
decreases-loop-word l = length l.self.text.now - l.self.at
