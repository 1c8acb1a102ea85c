use Rattle.std.proofs.Common.{◌≡◌, ◌-◌, length, drop}
use Rattle.reader.specs.Lines.{lines}
use Rattle.reader.specs.Reading.{find_header}
use Rattle.reader.proofs.words.Reader.header.Given as goal

abbrev pub invariant-loop-self : goal.invariant-loop-self
invariant-loop-self l =
    (l.self.text ≡ l.initial.self.text)
    × (find_header (length l.initial.self.text.now) l.self.at (lines (drop l.self.at l.initial.self.text.now)) ≡ find_header (length l.initial.self.text.now) l.initial.self.at (lines (drop l.initial.self.at l.initial.self.text.now)))

abbrev pub decreases-loop-self : goal.decreases-loop-self
decreases-loop-self l = l.end - l.self.at
