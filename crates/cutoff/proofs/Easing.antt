-- A threshold in range, scaled by a factor above zero and held, is in range again.
use Rattle.std.proofs.Common.{◌<◌, mul-pos, arith, ◌≡◌, ℕ, ◌*◌, true, false, not, T, sym, refl, ap, ◌∙◌, subst}
use lib.Ieee.{Float, binary64, round, mul, lt, le, is_nan, of_bits}
use lib.Ieee.Bits.{is_false}
use lib.Ieee.Positive.{positive, num, den, own_value, den_pos, mul_at}
use Rattle.cutoff.specs.declared.kinds.Cutoff.{Cutoff}
use Rattle.cutoff.specs.declared.kinds.Cutoff.TheVariants.{Easing}
use Rattle.cutoff.specs.Theta.{least, most, in_range, held, scaled}
use Rattle.cutoff.specs.Cutoffs.{allowed}
use Rattle.cutoff.specs.Laws.{times, Eases, Moved}
use Rattle.cutoff.proofs.Ranges.{low_end, high_end, range_positive, range_number}
use Rattle.std.specs.Float.{NotNan}
use Rattle.std.proofs.lemmas.Bool.{false_from_ne_true}
use Rattle.std.proofs.lemmas.Float.{T_from_true, le_left, le_of_lt, lt_irrefl, lt_of_lt_of_le, lt_of_le_of_lt}
use lib.Ieee.Order.{round_mono}

-- what is rounded is at most itself, and so no NaN
round_number : (a c : ℕ) → 0 < c → NotNan (round binary64 false a c)
round_number a c h = le_left (round binary64 false a c) (round binary64 false a c) (round_mono binary64 a c a c h h (omega arith))

-- where x is at most y, y is not below x
not_below : (x y : Float) → T (le x y) → lt y x ≡ false
not_below x y h = false_from_ne_true (lt y x) (λ e. lt_irrefl y (lt_of_lt_of_le y x y (T_from_true (lt y x) e) h))

ends_in_order : T (le least most)
unfolding le of_bits
ends_in_order = tt

-- what is above the upper end is not below the lower one
above_not_below : (x : Float) → lt most x ≡ true → lt x least ≡ false
above_not_below x h = not_below least x (le_of_lt least x (lt_of_le_of_lt least most x ends_in_order (T_from_true (lt most x) h)))

held_within : (x : Float) → in_range x ≡ true → held x ≡ x
held_within x h = rw (not_below least x (low_end x h), not_below x most (high_end x h))

held_below : (x : Float) → lt x least ≡ true → held x ≡ least
held_below x h = rw h

held_above : (x : Float) → lt most x ≡ true → held x ≡ most
held_above x h = rw (above_not_below x h, h)

-- the product of two doubles above zero is their exact product, rounded once
mul_times : (θ by : Float) → T (positive θ) → T (positive by) → mul binary64 θ by ≡ times θ (num by) (den by)
mul_times θ by p q = mul_at binary64 θ by (num θ) (den θ) (num by) (den by) p q (den_pos θ) (den_pos by) (own_value θ p) (own_value by q)

-- a product that is no NaN is held in range, and this one is none
pub eases : (by θ t : Float) → T (positive by) → in_range θ ≡ true → t ≡ scaled by θ → (T (not (is_nan (mul binary64 θ by))) → in_range t ≡ true) → Eases by θ t
eases by θ t q h e g =
    let x = times θ (num by) (den by) in
    let is = mul_times θ by (range_positive θ h) q in
    let to : t ≡ held x = e ∙ ap held is in
    let r = g (rw is (round_number (num θ * num by) (den θ * den by) (mul-pos (den_pos θ) (den_pos by)))) in
    record {
      within = λ k. to ∙ held_within x k;
      below = λ k. to ∙ held_below x k;
      above = λ k. to ∙ held_above x k;
      range = r;
      number = is_false (is_nan t) (range_number t r);
    }

pub easing_range : (c : Cutoff) (θ : Float) → c ≡ Easing θ → allowed c ≡ true → in_range θ ≡ true
easing_range c θ is h = sym (ap allowed is) ∙ h

pub moves : (by : Float) (c : Cutoff) (θ t : Float) → c ≡ Easing θ → Eases by θ t → Moved by c (Easing t)
moves by c θ t is e = subst (λ (x : Cutoff). Moved by x (Easing t)) (sym is) (t, refl, e)
