-- Numerals and the decimal spelling of numbers are one.
use Rattle.std.proofs.Common.{◌≡◌, ℕ, zero, suc, ◌^◌, ◌<◌, ◌≤◌, Bool, true, false, cond, ◌&&◌, eqb, leb, List, [], ◌∷◌, length, get_or, ℤ, pos, negsuc, nat_abs, Some, None, codes, decimal, Option, sym, refl, ap, ◌∙◌, arith, rules}
use Rattle.std.specs.Fmt.{signed_decimal}
use Rattle.std.specs.Char.{is_ascii_digit}
use Rattle.std.specs.Str.{all_ascii_digits, bytes_eq}
use Rattle.std.proofs.lemmas.Bool.{and_parts, and_from, leb-true, le-leb, eqb-true, eqb-false, ne_eqb, cond-true, cond-false}
use Rattle.std.proofs.lemmas.Bool.Decides.{nat_tests}
use Rattle.std.proofs.lemmas.Slice.Eq.{bytes_eq-Decides}
use Rattle.std.proofs.lemmas.Str.Parse.{IsNumeralModel, numerals_by_fold, tells_all_ascii_digits, digits_value_short}
use Rattle.std.proofs.lemmas.Fmt.{decimal_digit, decimal_nonempty, first_decimal, length-decimal-le, digits_decimal, digits_value-decimal, decimal-digits_value}
use Rattle.reader.specs.Numerals.{read_on, digits_value, numeral, plain, negated, signed_numeral}

own : IsNumeralModel (λ ds. all_ascii_digits ds ≡ true) (read_on 0)
own = numerals_by_fold _ tells_all_ascii_digits read_on (search rules)

-- digits without a leading zero, or just `0`
pub record DigitsOf (ds : List ℕ) (k : ℕ) : Type 0 where
  pub digits : all_ascii_digits ds ≡ true
  pub few : length ds ≤ 9
  pub some : 0 < length ds
  pub first : get_or ds 0 0 ≡ 48 → length ds ≡ 1
  pub value : read_on 0 ds ≡ k

digits_value_from : (ds : List ℕ) (k : ℕ) → DigitsOf ds k → digits_value ds ≡ Some k
digits_value_from ds k h =
    cond-true (leb (length ds) 9 && all_ascii_digits ds) (Some (read_on 0 ds)) None (and_from _ _ (le-leb _ _ h.few) h.digits) ∙ ap Some h.value

numeral_from : (ds : List ℕ) (k : ℕ) → DigitsOf ds k → numeral ds ≡ Some k
numeral_from [] k h = absurd (omega (arith, h.some))
numeral_from (d ∷ []) k h = digits_value_from (d ∷ []) k h
numeral_from (d ∷ e ∷ ds) k h =
    cond-false (eqb d 48) None (digits_value (d ∷ e ∷ ds)) (ne_eqb d 48 (λ p. omega (arith, h.first p))) ∙ digits_value_from (d ∷ e ∷ ds) k h

pub no_some : {A : Type 0} (a : A) → None ≡ Some a → ⊥
no_some a e = let z : ◌≡◌ {A = ℕ} 0 1 = cc in omega arith

digits_value_is : (ds : List ℕ) (k : ℕ) → digits_value ds ≡ Some k → 0 < length ds → (get_or ds 0 0 ≡ 48 → length ds ≡ 1) → DigitsOf ds k
digits_value_is ds k h some first = by (leb (length ds) 9 && all_ascii_digits ds) refl h
  where
    by : (b : Bool) → (leb (length ds) 9 && all_ascii_digits ds) ≡ b → cond b (Some (read_on 0 ds)) None ≡ Some k → DigitsOf ds k
    by true e g =
        let parts = and_parts _ _ e in
        record { digits = parts.1; few = leb-true _ _ parts.0; some = some; first = first; value = cc }
    by false e g = absurd (no_some k g)

numeral_digits : (ds : List ℕ) (k : ℕ) → numeral ds ≡ Some k → DigitsOf ds k
numeral_digits [] k h = absurd (no_some k h)
numeral_digits (d ∷ []) k h = digits_value_is (d ∷ []) k h (omega arith) (λ _. refl)
numeral_digits (d ∷ e ∷ ds) k h = by (eqb d 48) refl h
  where
    by : (b : Bool) → eqb d 48 ≡ b → cond b None (digits_value (d ∷ e ∷ ds)) ≡ Some k → DigitsOf (d ∷ e ∷ ds) k
    by true p g = absurd (no_some k g)
    by false p g = digits_value_is (d ∷ e ∷ ds) k g (omega arith) (λ q. absurd (eqb-false d 48 p q))

decimal_digits : (k : ℕ) → k < 10 ^ 9 → DigitsOf (decimal k) k
decimal_digits zero h = rw (decimal_digit 0 (omega arith)) (record { digits = refl; few = omega arith; some = omega arith; first = λ _. refl; value = refl })
decimal_digits (suc j) h =
    let p : suc j < 2 ^ 64 = omega arith in
    record {
      digits = digits_decimal own (suc j) p;
      few = length-decimal-le 9 (suc j) (omega arith) h p;
      some = decimal_nonempty (suc j) p;
      first = λ e. absurd (omega (arith, first_decimal (suc j) (omega arith) p));
      value = digits_value-decimal own (suc j) p;
    }

-- ---- numbers
pub numeral_decimal : (k : ℕ) → k < 10 ^ 9 → numeral (decimal k) ≡ Some k
numeral_decimal k h = numeral_from (decimal k) k (decimal_digits k h)

pub numeral_is : (ds : List ℕ) (k : ℕ) → numeral ds ≡ Some k → ds ≡ decimal k
numeral_is ds k h =
    let g = numeral_digits ds k h in
    let short = digits_value_short own ds 9 g.digits g.few in
    sym (decimal-digits_value own ds g.digits g.some g.first (omega arith)) ∙ ap decimal g.value

-- ---- numbers with a sign
not_minus : (b : ℕ) (bs : List ℕ) (k : ℕ) → numeral (b ∷ bs) ≡ Some k → eqb b 45 ≡ false
not_minus b bs k h =
    let g = (and_parts (is_ascii_digit b) (all_ascii_digits bs) (numeral_digits (b ∷ bs) k h).digits).0 in
    grind (arith, nat_tests)

plain_signed : (w : List ℕ) (k : ℕ) → numeral w ≡ Some k → signed_numeral w ≡ Some (pos k)
plain_signed [] k h = absurd (no_some k h)
plain_signed (b ∷ bs) k h = cond-false (eqb b 45) _ _ (not_minus b bs k h) ∙ ap plain h

pub numeral_signed : (z : ℤ) → nat_abs z < 10 ^ 9 → signed_numeral (signed_decimal z) ≡ Some z
numeral_signed (pos n) h = plain_signed (decimal n) n (numeral_decimal n h)
numeral_signed (negsuc n) h = ap negated (numeral_decimal (suc n) h)

negated_is : (bs : List ℕ) (z : ℤ) (o : Option ℕ) → numeral bs ≡ o → negated o ≡ Some z → 45 ∷ bs ≡ signed_decimal z
negated_is bs z None p h = absurd (no_some z h)
negated_is bs z (Some zero) p h = absurd (no_some z h)
negated_is bs z (Some (suc v)) p h =
    let e : negsuc v ≡ z = cc in
    ap (λ u. 45 ∷ u) (numeral_is bs (suc v) p) ∙ ap signed_decimal e

plain_is : (w : List ℕ) (z : ℤ) (o : Option ℕ) → numeral w ≡ o → plain o ≡ Some z → w ≡ signed_decimal z
plain_is w z None p h = absurd (no_some z h)
plain_is w z (Some v) p h =
    let e : pos v ≡ z = cc in
    numeral_is w v p ∙ ap signed_decimal e

pub signed_is : (w : List ℕ) (z : ℤ) → signed_numeral w ≡ Some z → w ≡ signed_decimal z
signed_is [] z h = absurd (no_some z h)
signed_is (b ∷ bs) z h = by (eqb b 45) refl h
  where
    by : (t : Bool) → eqb b 45 ≡ t → cond t (negated (numeral bs)) (plain (numeral (b ∷ bs))) ≡ Some z → b ∷ bs ≡ signed_decimal z
    by true e g = ap (λ c. c ∷ bs) (eqb-true b 45 e) ∙ negated_is bs z (numeral bs) refl g
    by false e g = plain_is (b ∷ bs) z (numeral (b ∷ bs)) refl g

pub zero_word : signed_decimal (pos 0) ≡ codes "0"
zero_word = decimal_digit 0 (omega arith)

-- no number is written as the word that begins an odd rule
pub signed_not_odd : (z : ℤ) → nat_abs z < 10 ^ 9 → bytes_eq (signed_decimal z) (codes "odd") ≡ false
signed_not_odd z h = by (bytes_eq (signed_decimal z) (codes "odd")) refl
  where
    by : (b : Bool) → bytes_eq (signed_decimal z) (codes "odd") ≡ b → b ≡ false
    by false e = refl
    by true e = absurd (no_some z (ap signed_numeral (sym ((bytes_eq-Decides (signed_decimal z) (codes "odd")).0 e)) ∙ numeral_signed z h))
