-- Walks over all rules, as chains have them and as loops do.
use Rattle.std.proofs.Common.{◌≡◌, ℕ, zero, suc, ◌+◌, ◌-◌, ◌*◌, ◌<◌, ◌≤◌, Bool, true, false, not, cond, ◌&&◌, eqb, ltb, List, Some, sym, refl, ap, ◌∙◌, arith}
use Rattle.std.proofs.lemmas.List.Sums.{sum_by-cons}
use Rattle.std.specs.Option.{is_some, option_or}
use Rattle.std.specs.List.{find, sum_by, range_with_len}
use Rattle.stores.specs.declared.look.Look.{Look}
use Rattle.stores.specs.declared.look.Look.TheVariants.{Settled, Broken, Forces, Open}
use Rattle.stores.specs.Stores.{Store}
use Rattle.stores.specs.Walks.{find_of, found, is_settled, settled_from, all_settled, unsettled_from, first_unsettled, weight, gain_of, gain_from, gained}
use Rattle.stores.proofs.Chains.{first_some}

-- ---- over the numbers of the rules
module _ (s : Store) (p : List ℕ) where
  pub found_list : (k r : ℕ) → first_some (λ j. find_of (s.look j p)) (range_with_len r k) ≡ found s p k r
  unfolding found
  found_list zero r = refl
  found_list (suc k) r = ap (option_or (find_of (s.look r p))) (found_list k (r + 1) ∙ ap (found s p k) (let e : r + 1 ≡ suc r = omega arith in e))

  pub unsettled_list : (k r : ℕ) → find (λ j. not (is_settled (s.look j p))) (range_with_len r k) ≡ unsettled_from s p k r
  unfolding unsettled_from
  unsettled_list zero r = refl
  unsettled_list (suc k) r = by (is_settled (s.look r p)) (unsettled_list k (r + 1) ∙ ap (unsettled_from s p k) (let e : r + 1 ≡ suc r = omega arith in e))
    where
      by : (b : Bool) → find (λ j. not (is_settled (s.look j p))) (range_with_len (r + 1) k) ≡ unsettled_from s p k (suc r) → cond (not b) (Some r) (find (λ j. not (is_settled (s.look j p))) (range_with_len (r + 1) k)) ≡ cond b (unsettled_from s p k (suc r)) (Some r)
      by true e = e
      by false e = refl

  pub gain_list : (q : List ℕ) (k r : ℕ) → sum_by (λ j. gain_of (s.look j p) (s.look j q)) (range_with_len r k) ≡ gain_from s p q k r
  unfolding gain_from
  gain_list q zero r = refl
  gain_list q (suc k) r =
      sum_by-cons (λ j. gain_of (s.look j p) (s.look j q)) r (range_with_len (r + 1) k)
      ∙ ap (λ u. gain_of (s.look r p) (s.look r q) + u) (gain_list q k (r + 1) ∙ ap (gain_from s p q k) (let e : r + 1 ≡ suc r = omega arith in e))

  -- rule r of m
  pub gain_more : (q : List ℕ) (m r : ℕ) → r ≤ m → gain_from s p q (suc m - r) r ≡ gain_of (s.look r p) (s.look r q) + gain_from s p q (suc m - (r + 1)) (r + 1)
  unfolding gain_from
  gain_more q m r h =
      ap (λ k. gain_from s p q k r) (let e : suc m - r ≡ suc (suc m - (r + 1)) = omega arith in e)
      ∙ ap (λ u. gain_of (s.look r p) (s.look r q) + gain_from s p q (suc m - (r + 1)) u) (let e : suc r ≡ r + 1 = omega arith in e)

  pub gain_end : (q : List ℕ) (k r : ℕ) → k ≡ 0 → gain_from s p q k r ≡ 0
  unfolding gain_from
  gain_end q k r h = ap (λ u. gain_from s p q u r) h

  -- ---- all are settled where none is found that is not
  settled_none : (k r : ℕ) → is_some (unsettled_from s p k r) ≡ not (settled_from s p k r)
  unfolding unsettled_from settled_from
  settled_none zero r = refl
  settled_none (suc k) r = by (is_settled (s.look r p)) (settled_none k (suc r))
    where
      by : (b : Bool) → is_some (unsettled_from s p k (suc r)) ≡ not (settled_from s p k (suc r)) → is_some (cond b (unsettled_from s p k (suc r)) (Some r)) ≡ not (b && settled_from s p k (suc r))
      by true e = e
      by false e = refl

  pub all_settled_is : all_settled s p ≡ not (is_some (first_unsettled s p))
  all_settled_is = by (all_settled s p) ∙ ap not (sym (settled_none s.m 1))
    where
      by : (b : Bool) → b ≡ not (not b)
      by true = refl
      by false = refl

-- ---- a walk answers with one of its rules
pub unsettled_below : (s : Store) (p : List ℕ) (k r j : ℕ) → unsettled_from s p k r ≡ Some j → j < r + k
unfolding unsettled_from
unsettled_below s p zero r j e = absurd (cc e)
unsettled_below s p (suc k) r j e = by (is_settled (s.look r p)) e (unsettled_below s p k (suc r) j)
  where
    by : (b : Bool) → cond b (unsettled_from s p k (suc r)) (Some r) ≡ Some j → (unsettled_from s p k (suc r) ≡ Some j → j < suc r + k) → j < r + suc k
    by true e f = let h = f e in omega arith
    by false e f = let h : r ≡ j = cc e in omega arith

pub unsettled_few : (s : Store) (p : List ℕ) (j : ℕ) → first_unsettled s p ≡ Some j → j ≤ s.m
unsettled_few s p j e = let h = unsettled_below s p s.m 1 j e in omega arith

-- ---- a gain is small
weight_by : (a b c d e : Bool) → cond a 1000 (cond b 200 (cond c 50 (cond d 10 (cond e 3 1)))) ≤ 1000
weight_by true b c d e = omega arith
weight_by false true c d e = omega arith
weight_by false false true d e = omega arith
weight_by false false false true e = omega arith
weight_by false false false false true = omega arith
weight_by false false false false false = omega arith

open_few : (b : Bool) (k : ℕ) → cond b (weight k) 0 ≤ 1000
open_few true k = weight_by (eqb k 2) (eqb k 3) (eqb k 4) (eqb k 5) (eqb k 6)
open_few false k = omega arith

gain_one : (v w : Look) → gain_of v w ≤ 1000
gain_one Settled w = omega arith
gain_one Broken w = omega arith
gain_one (Forces l) w = omega arith
gain_one (Open j) Settled = omega arith
gain_one (Open j) Broken = omega arith
gain_one (Open j) (Forces l) = omega arith
gain_one (Open j) (Open k) = open_few (ltb k j) k

pub gain_small : (s : Store) (p q : List ℕ) (k r : ℕ) → gain_from s p q k r ≤ 1000 * k
unfolding gain_from
gain_small s p q zero r = omega arith
gain_small s p q (suc k) r = let one = gain_one (s.look r p) (s.look r q) in let rest = gain_small s p q k (suc r) in omega arith

pub gain_few : (s : Store) (p q : List ℕ) → gained s p q ≤ 1000 * s.m
gain_few s p q = gain_small s p q s.m 1
