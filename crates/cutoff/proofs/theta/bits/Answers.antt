use Rattle.std.proofs.Common.{refl}
use lib.Ieee.{binary64, fits}
use lib.Ieee.Bits.{of_bits-to_bits}
use Rattle.std.proofs.lemmas.Float.{T_from_true}
use Rattle.cutoff.proofs.theta.bits.Goals as goal

pub returns : goal.returns
returns c = record {
  value = refl;
  same = of_bits-to_bits binary64 c.args.theta (T_from_true (fits binary64 c.args.theta) c.well_formed.0.1);
}
