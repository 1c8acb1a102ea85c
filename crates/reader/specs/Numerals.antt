-- Words that write numbers.
use Rattle.std.specs.Prelude.{ℕ, zero, suc, ◌+◌, ◌-◌, ◌*◌, cond, ◌&&◌, List, [], ◌∷◌, length, ℤ, pos, negsuc, Some, None, Option, ◌==◌, nat_le}
use Rattle.std.specs.Str.{all_ascii_digits}

-- the number that digits write after the number v
abbrev pub read_on : ℕ → List ℕ → ℕ
read_on v [] = v
read_on v (d ∷ ds) = read_on (v * 10 + (d - 48)) ds

-- at most nine digits
abbrev pub digits_value : List ℕ → Option ℕ
digits_value ds = cond (nat_le (length ds) 9 && all_ascii_digits ds) (Some (read_on 0 ds)) None

-- a number is 0, or digits without a leading zero
abbrev pub numeral : List ℕ → Option ℕ
numeral [] = None
numeral (d ∷ []) = digits_value (d ∷ [])
numeral (d ∷ e ∷ ds) = cond (d == 48) None (digits_value (d ∷ e ∷ ds))

abbrev pub plain : Option ℕ → Option ℤ
plain None = None
plain (Some v) = Some (pos v)

-- there is no -0
abbrev pub negated : Option ℕ → Option ℤ
negated None = None
negated (Some zero) = None
negated (Some (suc v)) = Some (negsuc v)

-- a number, or a negative one after `-`
abbrev pub signed_numeral : List ℕ → Option ℤ
signed_numeral [] = None
signed_numeral (b ∷ bs) = cond (b == 45) (negated (numeral bs)) (plain (numeral (b ∷ bs)))
