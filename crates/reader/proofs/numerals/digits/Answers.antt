use Rattle.std.proofs.Common.{arith}
use Rattle.reader.proofs.Digits.{reading_fits}
use Rattle.reader.proofs.numerals.digits.Goals as goal

pub overflow_mul-value : goal.overflow_mul-value
overflow_mul-value c = omega (arith, reading_fits c.loop-b.invariant (omega arith))

pub overflow_add-value : goal.overflow_add-value
overflow_add-value c = omega (arith, reading_fits c.loop-b.invariant (omega arith), c.type_inv.word c.loop-b.b-index)
