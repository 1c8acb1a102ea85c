-- What easing and cutting come to in plain numbers, for a cutoff that is allowed.
use Rattle.std.specs.Prelude.{◌≡◌, ℕ, ◌*◌, Bool, true, false, T, is_nan, nat_le, nat_lt, Float}
use Rattle.std.specs.Float.{binary64}
use Rattle.std.specs.Float.Ieee.{round, lt}
use Rattle.std.specs.Float.Ieee.Scale.{finite}
use Rattle.std.specs.Float.Ieee.Positive.{num, den}
use Rattle.cutoff.specs.declared.kinds.Cutoff.{Cutoff}
use Rattle.cutoff.specs.declared.kinds.Cutoff.TheVariants.{Never, Depth, Share, Easing}
use Rattle.cutoff.specs.Theta.{least, most, in_range}

-- the fraction num θ / den θ is the number that θ is, and this is the double nearest to its product with a / c
abbrev pub times : Float → ℕ → ℕ → Float
times θ a c = round binary64 false (num θ * a) (den θ * c)

-- t is the product of θ and the factor, rounded once, where that is in range, and otherwise the end that is nearer to it
pub record Eases (by θ t : Float) : Type 0 where
  pub within : in_range (times θ (num by) (den by)) ≡ true → t ≡ times θ (num by) (den by)
  pub below : lt (times θ (num by) (den by)) least ≡ true → t ≡ least
  pub above : lt most (times θ (num by) (den by)) ≡ true → t ≡ most
  pub range : in_range t ≡ true
  pub number : is_nan t ≡ false

-- an easing threshold is moved, and nothing else is
abbrev pub Moved : Float → Cutoff → Cutoff → Type 0
Moved by Never c = c ≡ Never
Moved by (Depth d) c = c ≡ Depth d
Moved by (Share θ) c = c ≡ Share θ
Moved by (Easing θ) c = (t : Float) × (c ≡ Easing t) × Eases by θ t

-- θ·n, rounded once, is finite, and the answer is whether the whole number is greater than it
pub record Exceeds (n : ℕ) (θ : Float) (product : ℕ) (answer : Bool) : Type 0 where
  pub number : T (finite (times θ n 1))
  pub greater : answer ≡ nat_lt (num (times θ n 1)) (product * den (times θ n 1))

abbrev pub Cuts : Cutoff → ℕ → ℕ → ℕ → Bool → Type 0
Cuts Never n decisions set answer = answer ≡ false
Cuts (Depth d) n decisions set answer = answer ≡ nat_le d decisions
Cuts (Share θ) n decisions set answer = Exceeds n θ (decisions * set) answer
Cuts (Easing θ) n decisions set answer = Exceeds n θ (decisions * set) answer
