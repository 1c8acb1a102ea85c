use Rattle.std.proofs.Common.{◌≡◌, ◌-◌, length}
use Rattle.reader.proofs.Walks.{Skipped}
use Rattle.reader.proofs.words.Reader.skip_gap.Given as goal

abbrev pub invariant-loop-self : goal.invariant-loop-self
invariant-loop-self l = (l.self.text ≡ l.initial.self.text) × Skipped l.self.text.now l.initial.self.at l.initial.self.mode l.self.at l.self.mode

abbrev pub decreases-loop-self : goal.decreases-loop-self
decreases-loop-self l = length l.self.text.now - l.self.at
