-- The threshold θ of a cutoff: where it may lie, and what it becomes when it eases.
use Rattle.std.specs.Prelude.{◌≡◌, Bool, false, cond, ◌&&◌, from_bits, Float}
use Rattle.std.specs.Float.{binary64}
use Rattle.std.specs.Float.Ieee.{round, mul, lt, le}

-- 0.001 and 1,000,000,000, the ends of the range, and 1.05 and 0.7, the factors, by the bits of the doubles
abbrev pub least : Float
least = from_bits binary64 4562254508917369340

abbrev pub most : Float
most = from_bits binary64 4741671816366391296

abbrev pub grow : Float
grow = from_bits binary64 4607407598781385933

abbrev pub shrink : Float
shrink = from_bits binary64 4604480259023595110

-- these are the doubles nearest to the fractions 1/1000, 1000000000/1, 21/20 and 7/10
pub record Nearest : Type 0 where
  pub least_is : least ≡ round binary64 false 1 1000
  pub most_is : most ≡ round binary64 false 1000000000 1
  pub grow_is : grow ≡ round binary64 false 21 20
  pub shrink_is : shrink ≡ round binary64 false 7 10

-- a NaN is not in range: it compares with nothing
abbrev pub in_range : Float → Bool
in_range θ = le least θ && le θ most

-- a value that lies outside is moved to the nearer end
abbrev pub held : Float → Float
held x = cond (lt x least) least (cond (lt most x) most x)

-- one product, rounded once, and held at once
abbrev pub scaled : Float → Float → Float
scaled by θ = held (mul binary64 θ by)
