use Rattle.std.proofs.Common.{◌≡◌, ◌+◌, ◌-◌, ◌≤◌, length}
use Rattle.reader.specs.Left.{left}
use Rattle.reader.proofs.Tallies.{Gathered}
use Rattle.reader.proofs.words.Reader.rules.Given as goal

abbrev pub invariant-loop-rule : goal.invariant-loop-rule
invariant-loop-rule l =
    (l.reader.text ≡ l.self.text)
    × (l.marks.top ≤ l.reader.at)
    × (l.counts.clauses.rules + l.counts.odds.rules ≤ l.reader.at)
    × (l.counts.clauses.numbers + l.counts.odds.numbers ≤ l.reader.at)
    × Gathered l.header.variables (length l.self.text.now) (left l.self) (left l.reader) l.counts

abbrev pub decreases-loop-rule : goal.decreases-loop-rule
decreases-loop-rule l = length l.reader.text.now - l.reader.at
