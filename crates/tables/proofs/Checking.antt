-- A table gone over number by number, up to its first fault.
use Rattle.std.proofs.Common.{◌≡◌, ℕ, suc, ◌+◌, ◌-◌, ◌<◌, ◌≤◌, Bool, true, false, cond, ◌||◌, eqb, ltb, List, [], ◌∷◌, ◌++◌, length, get_or, take, drop, ℤ, pos, nat_abs, sym, refl, ap, ◌∙◌, arith}
use mathlib.Core.Option.{Option, none, some}
use Rattle.std.specs.List.{between}
use Rattle.std.proofs.lemmas.List.{at_drop_more, at_drop_all, length-take, length-drop}
use Rattle.std.proofs.lemmas.List.Edits.{between_more}
use Rattle.std.proofs.lemmas.Bool.{eq-eqb, ne_eqb, or_left, lt-ltb, le-ltb, cond-true, cond-false}
use Rattle.meaning.specs.Tables.{is_end, ends, has_var, is_empty, fault_from, rule_fault}

module _ (ls : List ℤ) (z : ℤ) (i : ℕ) (l : i < length ls) where
  pub has_yes : nat_abs (get_or ls i (pos 0)) ≡ nat_abs z → has_var (drop i ls) z ≡ true
  has_yes h = at_drop_more (λ xs. has_var xs z) ls i (pos 0) l ∙ or_left (eqb (nat_abs (get_or ls i (pos 0))) (nat_abs z)) (has_var (drop (i + 1) ls) z) (eq-eqb (nat_abs (get_or ls i (pos 0))) (nat_abs z) h)

  pub has_no : (nat_abs (get_or ls i (pos 0)) ≡ nat_abs z → ⊥) → has_var (drop i ls) z ≡ has_var (drop (i + 1) ls) z
  has_no h = at_drop_more (λ xs. has_var xs z) ls i (pos 0) l ∙ ap (λ b. b || has_var (drop (i + 1) ls) z) (ne_eqb (nat_abs (get_or ls i (pos 0))) (nat_abs z) h)

-- ---- the rules counted up to i
pub record Counting (t : List ℤ) (i m : ℕ) : Type 0 where
  pub same : m + ends (drop i t) ≡ ends t
  pub few : m ≤ i

module _ {t : List ℤ} {i m : ℕ} (w : Counting t i m) (l : i < length t) where
  pub count_more : (b : Bool) → is_end (get_or t i (pos 0)) ≡ b → (m' : ℕ) → m' ≡ cond b (suc m) m → Counting t (i + 1) m'
  count_more b h m' e = by b h m' e
    where
      step : (b : Bool) → is_end (get_or t i (pos 0)) ≡ b → ends (drop i t) ≡ cond b (suc (ends (drop (i + 1) t))) (ends (drop (i + 1) t))
      step b h = at_drop_more ends t i (pos 0) l ∙ ap (λ u. cond u (suc (ends (drop (i + 1) t))) (ends (drop (i + 1) t))) h

      by : (b : Bool) → is_end (get_or t i (pos 0)) ≡ b → (m' : ℕ) → m' ≡ cond b (suc m) m → Counting t (i + 1) m'
      by true h m' e = let s = step true h in let a = w.same in let f = w.few in record { same = omega arith; few = omega arith }
      by false h m' e = let s = step false h in let a = w.same in let f = w.few in record { same = omega arith; few = omega arith }

pub count_all : {t : List ℤ} {i m : ℕ} → Counting t i m → length t ≤ i → m ≡ ends t
count_all {t} {i} w l = let e = at_drop_all ends t i l in let s = w.same in omega arith

-- ---- no fault before the index i, whose rule begins at `start`
pub record Checked (n : ℕ) (t : List ℤ) (start i : ℕ) : Type 0 where
  pub same : fault_from n (between start i t) i (drop i t) ≡ rule_fault n t
  pub low : start ≤ i

pub checked_starts : (n : ℕ) (t : List ℤ) → Checked n t 0 0
checked_starts n t = record { same = refl; low = omega arith }

module _ {n : ℕ} {t : List ℤ} {start i : ℕ} (k : Checked n t start i) where
  fault_step : (z : ℤ) → i < length t → z ≡ get_or t i (pos 0) → fault_from n (between start i t) i (z ∷ drop (i + 1) t) ≡ rule_fault n t
  fault_step z l r = ap (λ y. fault_from n (between start i t) i (y ∷ drop (i + 1) t)) r ∙ sym (at_drop_more (fault_from n (between start i t) i) t i (pos 0) l) ∙ k.same

  -- what a literal's tests lead to
  repeated : ℤ → Option (ℕ × ℕ)
  repeated z = cond (has_var (between start i t) z) (some (14, i)) (fault_from n (between start i t ++ (z ∷ [])) (i + 1) (drop (i + 1) t))

  above : ℤ → Option (ℕ × ℕ)
  unfolding repeated
  above z = cond (ltb n (nat_abs z)) (some (13, i)) (repeated z)

  pub checked_end : (z : ℤ) → i < length t → z ≡ get_or t i (pos 0) → is_end z ≡ true → (start' : ℕ) → start' ≡ i + 1 → Checked n t start' (i + 1)
  unfolding repeated above
  checked_end z l r h start' e =
      let none_yet : between start' (i + 1) t ≡ [] = ap (λ m. take m (drop start' t)) (let d : (i + 1) - start' ≡ 0 = omega arith in d) in
      record {
        same = ap (λ seen. fault_from n seen (i + 1) (drop (i + 1) t)) none_yet ∙ sym (cond-true (is_end z) (fault_from n [] (i + 1) (drop (i + 1) t)) (above z) h) ∙ fault_step z l r;
        low = omega arith;
      }

  module _ (z : ℤ) (l : i < length t) (r : z ≡ get_or t i (pos 0)) (h : is_end z ≡ false) where
    lit_step : above z ≡ rule_fault n t
    unfolding repeated above
    lit_step = sym (cond-false (is_end z) (fault_from n [] (i + 1) (drop (i + 1) t)) (above z) h) ∙ fault_step z l r

    pub checked_above : n < nat_abs z → some (13, i) ≡ rule_fault n t
    unfolding repeated above
    checked_above a = sym (cond-true (ltb n (nat_abs z)) (some (13, i)) (repeated z) (lt-ltb n (nat_abs z) a)) ∙ lit_step

    var_step : nat_abs z ≤ n → repeated z ≡ rule_fault n t
    unfolding repeated above
    var_step a = sym (cond-false (ltb n (nat_abs z)) (some (13, i)) (repeated z) (le-ltb n (nat_abs z) a)) ∙ lit_step

    pub checked_twice : nat_abs z ≤ n → has_var (between start i t) z ≡ true → some (14, i) ≡ rule_fault n t
    unfolding repeated
    checked_twice a v = sym (cond-true (has_var (between start i t) z) (some (14, i)) (fault_from n (between start i t ++ (z ∷ [])) (i + 1) (drop (i + 1) t)) v) ∙ var_step a

    pub checked_lit : nat_abs z ≤ n → has_var (between start i t) z ≡ false → (start' : ℕ) → start' ≡ start → Checked n t start' (i + 1)
    unfolding repeated
    checked_lit a v start' e =
        let more : between start' (i + 1) t ≡ between start i t ++ (z ∷ []) = ap (λ a. between a (i + 1) t) e ∙ between_more t start i (pos 0) k.low l ∙ ap (λ y. between start i t ++ (y ∷ [])) (sym r) in
        record {
          same = ap (λ seen. fault_from n seen (i + 1) (drop (i + 1) t)) more ∙ sym (cond-false (has_var (between start i t) z) (some (14, i)) (fault_from n (between start i t ++ (z ∷ [])) (i + 1) (drop (i + 1) t)) v) ∙ var_step a;
          low = omega (arith, k.low, e);
        }

  seen_length : i ≤ length t → length (between start i t) ≡ i - start
  seen_length h = simp (length-take, length-drop) (omega arith)

  empty_by : (ls : List ℤ) (m : ℕ) → length ls ≡ m → is_empty ls ≡ eqb m 0
  empty_by [] m e = sym (eq-eqb m 0 (sym e))
  empty_by (z ∷ ls) m e = sym (ne_eqb m 0 (λ u. omega arith))

  at_end : i ≡ length t → cond (is_empty (between start i t)) none (some (15, i)) ≡ rule_fault n t
  at_end e = sym (at_drop_all (fault_from n (between start i t) i) t i (omega arith)) ∙ k.same

  pub checked_unended : i ≡ length t → start < i → some (15, i) ≡ rule_fault n t
  checked_unended e h =
      sym (cond-false (is_empty (between start i t)) none (some (15, i)) (empty_by (between start i t) (i - start) (seen_length (omega arith)) ∙ ne_eqb (i - start) 0 (λ z. omega arith)))
      ∙ at_end e

  pub checked_none : i ≡ length t → i ≤ start → none ≡ rule_fault n t
  checked_none e h =
      sym (cond-true (is_empty (between start i t)) none (some (15, i)) (empty_by (between start i t) (i - start) (seen_length (omega arith)) ∙ eq-eqb (i - start) 0 (omega arith)))
      ∙ at_end e
