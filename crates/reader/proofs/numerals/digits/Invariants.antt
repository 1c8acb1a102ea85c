use Rattle.reader.proofs.Digits.{Reading}
use Rattle.reader.proofs.numerals.digits.Given as goal

abbrev pub invariant-loop-b : goal.invariant-loop-b
invariant-loop-b l = Reading l.word l.b-index l.value
