use lib.Ieee.{binary64, of_bits}
use lib.Ieee.Bits.{nan_bits_is}
use Rattle.cutoff.proofs.Ranges.{range_number}
use Rattle.cutoff.proofs.theta.from_bits.Goals as goal

pub float_from_bits-result : goal.float_from_bits-result
float_from_bits-result c = rw (nan_bits_is binary64 c.args.bits) (range_number (of_bits binary64 c.args.bits) c.requires)
