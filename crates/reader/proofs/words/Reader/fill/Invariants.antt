use Rattle.std.proofs.Common.{◌≡◌, ◌-◌, length}
use Rattle.rules.specs.declared.kind.Kind.TheVariants.{Clause, Odd}
use Rattle.reader.specs.Left.{left}
use Rattle.reader.specs.Filling.{sent_by}
use Rattle.reader.proofs.Laying.{Laying}
use Rattle.reader.proofs.words.Reader.fill.Given as goal

abbrev pub invariant-loop-word : goal.invariant-loop-word
invariant-loop-word l =
    (l.reader.text ≡ l.self.text)
    × Laying l.initial.clauses l.clauses l.c (sent_by Clause Clause (left l.self)) (sent_by Clause l.kind (left l.reader))
    × Laying l.initial.odds l.odds l.o (sent_by Odd Clause (left l.self)) (sent_by Odd l.kind (left l.reader))

abbrev pub decreases-loop-word : goal.decreases-loop-word
decreases-loop-word l = length l.reader.text.now - l.reader.at
