-- A threshold in range is a finite number above zero, and so is no NaN.
use Rattle.std.proofs.Common.{◌≡◌, Bool, true, false, cond, ◌||◌, T, Some, None, Less, Equal, Greater, refl}
use Rattle.std.specs.Ordering.{is_some_and, is_le, partial_le, float_partial_cmp}
use lib.Ieee.{Float, round, lt, le, eq, of_bits}
use lib.Ieee.Fits.{and_l, and_r}
use lib.Ieee.Positive.{positive, between}
use Rattle.std.specs.Float.{NotNan}
use Rattle.std.proofs.lemmas.Float.{T_from_true, le_right}
use Rattle.cutoff.specs.Theta.{least, most, in_range, grow, shrink, Nearest}

pub nearest : Nearest
unfolding round of_bits
nearest = record { least_is = refl; most_is = refl; grow_is = refl; shrink_is = refl }

pub least_positive : T (positive least)
unfolding of_bits
least_positive = tt

pub most_positive : T (positive most)
unfolding of_bits
most_positive = tt

pub grow_positive : T (positive grow)
unfolding of_bits
grow_positive = tt

pub shrink_positive : T (positive shrink)
unfolding of_bits
shrink_positive = tt

pub low_end : (θ : Float) → in_range θ ≡ true → T (le least θ)
low_end θ h = and_l (le least θ) (le θ most) (T_from_true (in_range θ) h)

pub high_end : (θ : Float) → in_range θ ≡ true → T (le θ most)
high_end θ h = and_r (le least θ) (le θ most) (T_from_true (in_range θ) h)

pub range_positive : (θ : Float) → in_range θ ≡ true → T (positive θ)
range_positive θ h = between least θ most least_positive most_positive (low_end θ h) (high_end θ h)

pub range_number : (θ : Float) → in_range θ ≡ true → NotNan θ
range_number θ h = le_right least θ (low_end θ h)

-- what a range's `contains` asks of each end
told : (a b c : Bool) → is_some_and is_le (cond a (Some Less) (cond b (Some Equal) (cond c (Some Greater) None))) ≡ (a || b)
told true b c = refl
told false true c = refl
told false false true = refl
told false false false = refl

pub at_most : (x y : Float) → partial_le float_partial_cmp x y ≡ le x y
unfolding le
at_most x y = told (lt x y) (eq x y) (lt y x)
