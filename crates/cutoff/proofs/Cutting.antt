-- Whole numbers of a few digits are doubles, so the comparison that cuts is one of exact numbers.
use Rattle.std.proofs.Common.{◌≡◌, ℕ, zero, suc, ◌+◌, ◌*◌, ◌^◌, ◌<◌, ◌≤◌, true, false, T, ltb, pos, sym, refl, ap, ◌∙◌, subst, lt_of_lt_of_le, mul-le-mul, mul-pos, mul-zero, zero-mul, mul-one, arith, lit<, lit≤, pow_mono, shl_lt}
use lib.Ieee.{Float, nan, inf, fin, binary64, round, mul, lt, le, of_int, of_bits}
use lib.Ieee.Exact.{HasValue, round_exact}
use lib.Ieee.Order.{le_of_values}
use lib.Ieee.Scale.{finite}
use Rattle.std.specs.Float.Order.{lt_at}
use lib.Ieee.Positive.{positive, num, den, den_pos, own_value, positive_of_value, mul_at, mul_mono, between}
use Rattle.cutoff.specs.declared.kinds.Cutoff.{Cutoff}
use Rattle.cutoff.specs.declared.kinds.Cutoff.TheVariants.{Never, Depth, Share, Easing}
use Rattle.cutoff.specs.Theta.{least, most, in_range}
use Rattle.cutoff.specs.Cutoffs.{allowed, exceeds, cuts_at}
use Rattle.cutoff.specs.Laws.{times, Exceeds, Cuts}
use Rattle.cutoff.proofs.Ranges.{low_end, high_end, range_positive, least_positive, most_positive}

abbrev whole : ℕ → Float
whole k = of_int binary64 (pos k)

-- a whole number below 2^53 is a double, and is not rounded
whole_value : (k : ℕ) → k < 2 ^ 53 → HasValue (whole k) false k 1
unfolding of_int
whole_value k h =
    round_exact binary64 false k 1 k 1074 (lit< tt) h
    (lt_of_lt_of_le (shl_lt 53 1074 h) (pow_mono {i = 53 + 1074} {j = 1074 + suc 1023} (lit≤ tt)))
    (sym (mul-one (k * 2 ^ 1074)))

whole_positive : (k : ℕ) → 0 < k → k < 2 ^ 53 → T (positive (whole k))
whole_positive k p h = positive_of_value (whole k) k 1 (whole_value k h) p

whole_le : (j k : ℕ) → j ≤ k → j < 2 ^ 53 → k < 2 ^ 53 → T (le (whole j) (whole k))
whole_le j k l h i = le_of_values (whole j) (whole k) j 1 k 1 (lit< tt) (lit< tt) (whole_value j h) (whole_value k i) (omega arith)

-- θ·n for a threshold in range: no variables at all, or some
times_none : (θ : Float) → HasValue (times θ 0 1) false (num θ * 0) (den θ * 1)
times_none θ = round_exact binary64 false (num θ * 0) (den θ * 1) 0 0 (mul-pos (den_pos θ) (lit< tt)) (lit< tt) (lit< tt) (simp (mul-zero, zero-mul))

mul_none : (θ : Float) → T (positive θ) → mul binary64 θ (whole 0) ≡ times θ 0 1
unfolding mul of_int round
mul_none nan p = absurd p
mul_none (inf s) p = absurd p
mul_none (fin true m e) p = absurd p
mul_none (fin false m e) p = refl

mul_some : (θ : Float) (n : ℕ) → T (positive θ) → 0 < n → n < 2 ^ 53 → mul binary64 θ (whole n) ≡ times θ n 1
mul_some θ n p l h = mul_at binary64 θ (whole n) (num θ) (den θ) n 1 p (whole_positive n l h) (den_pos θ) (lit< tt) (own_value θ p) (whole_value n h)

least_product : T (positive (mul binary64 least (whole 1)))
unfolding mul of_int round of_bits
least_product = tt

most_product : T (positive (mul binary64 most (whole 65536)))
unfolding mul of_int round of_bits
most_product = tt

some_positive : (θ : Float) (n : ℕ) → in_range θ ≡ true → 0 < n → n < 65536 → T (positive (mul binary64 θ (whole n)))
some_positive θ n r l h =
    let p = range_positive θ r in
    let i : n < 2 ^ 53 = omega arith in
    let q = whole_positive n l i in
    let one = whole_positive 1 (lit< tt) (lit< tt) in
    let many = whole_positive 65536 (lit< tt) (lit< tt) in
    between (mul binary64 least (whole 1)) (mul binary64 θ (whole n)) (mul binary64 most (whole 65536)) least_product most_product
    (mul_mono binary64 least θ (whole 1) (whole n) least_positive p one q (low_end θ r) (whole_le 1 n (omega arith) (lit< tt) i))
    (mul_mono binary64 θ most (whole n) (whole 65536) p most_positive q many (high_end θ r) (whole_le n 65536 (omega arith) i (lit< tt)))

-- so θ·n is the exact product, rounded once, and a finite number that is not negative
pub record Product (θ : Float) (n : ℕ) : Type 0 where
  pub rounded : mul binary64 θ (whole n) ≡ times θ n 1
  pub value : HasValue (times θ n 1) false (num (times θ n 1)) (den (times θ n 1))

own_fraction : (x : Float) (a c : ℕ) → HasValue x false a c → HasValue x false (num x) (den x)
own_fraction nan a c h = h
own_fraction (inf s) a c h = h
own_fraction (fin s m e) a c h = (h.0, refl)

product : (θ : Float) (n : ℕ) → in_range θ ≡ true → n < 65536 → Product θ n
product θ zero r h = record { rounded = mul_none θ (range_positive θ r); value = own_fraction (times θ 0 1) (num θ * 0) (den θ * 1) (times_none θ) }
product θ (suc n) r h =
    let l : 0 < suc n = omega arith in
    let e = mul_some θ (suc n) (range_positive θ r) l (omega arith) in
    record { rounded = e; value = own_value (times θ (suc n) 1) (subst (λ (x : Float). T (positive x)) e (some_positive θ (suc n) r l h)) }

value_finite : (x : Float) (a c : ℕ) → HasValue x false a c → T (finite x)
value_finite nan a c h = absurd h
value_finite (inf s) a c h = absurd h
value_finite (fin s m e) a c h = tt

pub exceeding : (n : ℕ) (θ : Float) (k : ℕ) → in_range θ ≡ true → n < 65536 → k < 2 ^ 53 → Exceeds n θ k (exceeds n θ k)
exceeding n θ k r h i =
    let x = product θ n r h in
    let t = times θ n 1 in
    record {
      number = value_finite t (num t) (den t) x.value;
      greater =
          ap (λ (z : Float). lt z (whole k)) x.rounded
          ∙ lt_at t (whole k) (num t) (den t) k 1 (den_pos t) (lit< tt) x.value (whole_value k i)
          ∙ ap (λ (z : ℕ). ltb z (k * den t)) (mul-one (num t));
    }

-- decisions and set variables that 16 bits hold have a product that a double holds
few : (a b : ℕ) → a < 65536 → b < 65536 → a * b < 2 ^ 53
few a b h k = let p : a * b ≤ 65535 * 65535 = mul-le-mul {n₂ = 65535} {m₂ = 65535} (omega arith) (omega arith) in omega arith

-- the law for each kind
pub cutting : (c : Cutoff) (n decisions set : ℕ) → n < 65536 → decisions < 65536 → set < 65536 → allowed c ≡ true → Cuts c n decisions set (cuts_at c n decisions set)
cutting Never n d s h i j r = refl
cutting (Depth k) n d s h i j r = refl
cutting (Share θ) n d s h i j r = exceeding n θ (d * s) r h (few d s i j)
cutting (Easing θ) n d s h i j r = exceeding n θ (d * s) r h (few d s i j)
