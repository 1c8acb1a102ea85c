-- What a loop over digits keeps.
use Rattle.std.proofs.Common.{◌≡◌, ℕ, ◌^◌, ◌<◌, ◌≤◌, List, drop, arith}
use native.Mathlib.Nat.{pow-le-pow_right}
use Rattle.std.specs.Str.{all_ascii_digits}
use Rattle.reader.specs.Numerals.{read_on}

-- after i digits of ds, which write v
pub record Reading (ds : List ℕ) (i v : ℕ) : Type 0 where
  pub digits : all_ascii_digits (drop i ds) ≡ all_ascii_digits ds
  pub value : read_on v (drop i ds) ≡ read_on 0 ds
  pub small : v < 10 ^ i

-- room for one digit more
pub reading_fits : {ds : List ℕ} {i v : ℕ} → Reading ds i v → i < 9 → v < 100000000
reading_fits {ds} {i} {v} r h =
    let le : i ≤ 8 = omega arith in
    let p : 10 ^ i ≤ 10 ^ 8 = pow-le-pow_right (omega arith) le in
    omega (arith, r.small)
