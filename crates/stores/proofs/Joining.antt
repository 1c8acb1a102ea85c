-- A walk over two stores joined is a walk over the first and then over the second.
use Rattle.std.proofs.Common.{◌≡◌, ℕ, zero, suc, ◌+◌, ◌-◌, ◌<◌, ◌≤◌, Bool, true, false, cond, ◌&&◌, eqb, leb, List, length, pos, None, Some, Option, sym, refl, ap, ◌∙◌, arith}
use Rattle.std.proofs.Math.Option.{none, some}
use Rattle.std.proofs.lemmas.Bool.{le-leb, lt-leb, leb-true, leb-false, eqb-true, and_parts}
use Rattle.std.specs.Option.{option_or, option_map}
use Rattle.stores.specs.Numbers.{answer_of}
use Rattle.stores.specs.Stores.{Store, legal, look_reply}
use Rattle.stores.specs.Walks.{find_of, found, lowest_of, is_settled, settled_from, all_settled, unsettled_from, first_unsettled, gain_of, gain_from, gained}
use Rattle.stores.specs.Joins.{joinable, join_fault, joins}

or_later : {A : Type 0} (x y z : Option A) → option_or x (option_or y z) ≡ option_or (option_or x y) z
or_later None y z = refl
or_later (Some a) y z = refl

module _ (s t : Store) where
  low_look : (r : ℕ) (p : List ℕ) → r ≤ s.m → (joins s t).look r p ≡ s.look r p
  low_look r p h = ap (λ b. cond b (s.look r p) (t.look (r - s.m) p)) (le-leb r s.m h)

  high_look : (r : ℕ) (p : List ℕ) → 1 ≤ r → (joins s t).look (s.m + r) p ≡ t.look r p
  high_look r p h =
      ap (λ b. cond b (s.look (s.m + r) p) (t.look ((s.m + r) - s.m) p)) (lt-leb (s.m + r) s.m (omega arith))
      ∙ ap (λ u. t.look u p) (let e : (s.m + r) - s.m ≡ r = omega arith in e)

  -- ---- a look
  pub reply_first : (r : ℕ) (p : List ℕ) → r ≤ s.m → look_reply s r p ≡ look_reply (joins s t) r p
  reply_first r p h =
      ap (λ b. cond (leb 1 r && (b && (eqb (length p) s.n && legal p))) (answer_of (s.look r p)) (18, pos 0)) (le-leb r s.m h ∙ sym (le-leb r (joins s t).m (omega arith)))
      ∙ ap (λ v. cond (leb 1 r && (leb r (joins s t).m && (eqb (length p) s.n && legal p))) (answer_of v) (18, pos 0)) (sym (low_look r p h))

  next_high : (r : ℕ) → suc (s.m + r) ≡ s.m + suc r
  next_high r = omega arith

  -- ---- the lowest that is broken or forces
  found_high : (p : List ℕ) (k r : ℕ) → 1 ≤ r → found (joins s t) p k (s.m + r) ≡ found t p k r
  unfolding found
  found_high p zero r h = refl
  found_high p (suc k) r h =
      ap (λ v. option_or (find_of v) (found (joins s t) p k (suc (s.m + r)))) (high_look r p h)
      ∙ ap (option_or (find_of (t.look r p))) (ap (found (joins s t) p k) (next_high r) ∙ found_high p k (suc r) (omega arith))

  found_low : (p : List ℕ) (a k r : ℕ) → 1 ≤ r → r + k ≡ suc s.m → found (joins s t) p (k + a) r ≡ option_or (found s p k r) (found t p a 1)
  unfolding found
  found_low p a zero r h e =
      ap (λ u. found (joins s t) p u r) (let f : 0 + a ≡ a = omega arith in f) ∙ ap (found (joins s t) p a) (let f : r ≡ s.m + 1 = omega arith in f) ∙ found_high p a 1 (omega arith)
  found_low p a (suc k) r h e =
      ap (λ u. found (joins s t) p u r) (let f : suc k + a ≡ suc (k + a) = omega arith in f)
      ∙ ap (λ v. option_or (find_of v) (found (joins s t) p (k + a) (suc r))) (low_look r p (omega arith))
      ∙ ap (option_or (find_of (s.look r p))) (found_low p a k (suc r) (omega arith) (omega arith))
      ∙ or_later (find_of (s.look r p)) (found s p k (suc r)) (found t p a 1)

  -- ---- all settled
  settled_high : (p : List ℕ) (k r : ℕ) → 1 ≤ r → settled_from (joins s t) p k (s.m + r) ≡ settled_from t p k r
  unfolding settled_from
  settled_high p zero r h = refl
  settled_high p (suc k) r h =
      ap (λ v. is_settled v && settled_from (joins s t) p k (suc (s.m + r))) (high_look r p h)
      ∙ ap (λ u. is_settled (t.look r p) && u) (ap (settled_from (joins s t) p k) (next_high r) ∙ settled_high p k (suc r) (omega arith))

  and_same : (b c d : Bool) → (b && (c && d)) ≡ ((b && c) && d)
  and_same true c d = refl
  and_same false c d = refl

  settled_low : (p : List ℕ) (a k r : ℕ) → 1 ≤ r → r + k ≡ suc s.m → settled_from (joins s t) p (k + a) r ≡ (settled_from s p k r && settled_from t p a 1)
  unfolding settled_from
  settled_low p a zero r h e =
      ap (λ u. settled_from (joins s t) p u r) (let f : 0 + a ≡ a = omega arith in f) ∙ ap (settled_from (joins s t) p a) (let f : r ≡ s.m + 1 = omega arith in f) ∙ settled_high p a 1 (omega arith)
  settled_low p a (suc k) r h e =
      ap (λ u. settled_from (joins s t) p u r) (let f : suc k + a ≡ suc (k + a) = omega arith in f)
      ∙ ap (λ v. is_settled v && settled_from (joins s t) p (k + a) (suc r)) (low_look r p (omega arith))
      ∙ ap (λ u. is_settled (s.look r p) && u) (settled_low p a k (suc r) (omega arith) (omega arith))
      ∙ and_same (is_settled (s.look r p)) (settled_from s p k (suc r)) (settled_from t p a 1)

  -- ---- the lowest that is not settled
  unsettled_high : (p : List ℕ) (k r : ℕ) → 1 ≤ r → unsettled_from (joins s t) p k (s.m + r) ≡ option_map (λ j. s.m + j) (unsettled_from t p k r)
  unfolding unsettled_from
  unsettled_high p zero r h = refl
  unsettled_high p (suc k) r h =
      ap (λ v. cond (is_settled v) (unsettled_from (joins s t) p k (suc (s.m + r))) (Some (s.m + r))) (high_look r p h)
      ∙ by (is_settled (t.look r p)) (ap (unsettled_from (joins s t) p k) (next_high r) ∙ unsettled_high p k (suc r) (omega arith))
    where
      by : (b : Bool) → unsettled_from (joins s t) p k (suc (s.m + r)) ≡ option_map (λ j. s.m + j) (unsettled_from t p k (suc r)) → cond b (unsettled_from (joins s t) p k (suc (s.m + r))) (Some (s.m + r)) ≡ option_map (λ j. s.m + j) (cond b (unsettled_from t p k (suc r)) (Some r))
      by true e = e
      by false e = refl

  unsettled_low : (p : List ℕ) (a k r : ℕ) → 1 ≤ r → r + k ≡ suc s.m → unsettled_from (joins s t) p (k + a) r ≡ option_or (unsettled_from s p k r) (option_map (λ j. s.m + j) (unsettled_from t p a 1))
  unfolding unsettled_from
  unsettled_low p a zero r h e =
      ap (λ u. unsettled_from (joins s t) p u r) (let f : 0 + a ≡ a = omega arith in f) ∙ ap (unsettled_from (joins s t) p a) (let f : r ≡ s.m + 1 = omega arith in f) ∙ unsettled_high p a 1 (omega arith)
  unsettled_low p a (suc k) r h e =
      ap (λ u. unsettled_from (joins s t) p u r) (let f : suc k + a ≡ suc (k + a) = omega arith in f)
      ∙ ap (λ v. cond (is_settled v) (unsettled_from (joins s t) p (k + a) (suc r)) (Some r)) (low_look r p (omega arith))
      ∙ by (is_settled (s.look r p)) (unsettled_low p a k (suc r) (omega arith) (omega arith))
    where
      by : (b : Bool) → unsettled_from (joins s t) p (k + a) (suc r) ≡ option_or (unsettled_from s p k (suc r)) (option_map (λ j. s.m + j) (unsettled_from t p a 1)) → cond b (unsettled_from (joins s t) p (k + a) (suc r)) (Some r) ≡ option_or (cond b (unsettled_from s p k (suc r)) (Some r)) (option_map (λ j. s.m + j) (unsettled_from t p a 1))
      by true e = e
      by false e = refl

  -- ---- gains
  gain_high : (p q : List ℕ) (k r : ℕ) → 1 ≤ r → gain_from (joins s t) p q k (s.m + r) ≡ gain_from t p q k r
  unfolding gain_from
  gain_high p q zero r h = refl
  gain_high p q (suc k) r h =
      let one = ap (λ v. gain_of v ((joins s t).look (s.m + r) q)) (high_look r p h) ∙ ap (gain_of (t.look r p)) (high_look r q h) in
      let rest = ap (gain_from (joins s t) p q k) (next_high r) ∙ gain_high p q k (suc r) (omega arith) in
      omega arith

  gain_low : (p q : List ℕ) (a k r : ℕ) → 1 ≤ r → r + k ≡ suc s.m → gain_from (joins s t) p q (k + a) r ≡ gain_from s p q k r + gain_from t p q a 1
  unfolding gain_from
  gain_low p q a zero r h e =
      let one = ap (λ u. gain_from (joins s t) p q u r) (let f : 0 + a ≡ a = omega arith in f) ∙ ap (gain_from (joins s t) p q a) (let f : r ≡ s.m + 1 = omega arith in f) ∙ gain_high p q a 1 (omega arith) in
      omega arith
  gain_low p q a (suc k) r h e =
      let zero_th = ap (λ u. gain_from (joins s t) p q u r) (let f : suc k + a ≡ suc (k + a) = omega arith in f) in
      let one = ap (λ v. gain_of v ((joins s t).look r q)) (low_look r p (omega arith)) ∙ ap (gain_of (s.look r p)) (low_look r q (omega arith)) in
      let rest = gain_low p q a k (suc r) (omega arith) (omega arith) in
      omega arith

  -- ---- both, whether they may be joined or not
  pub found_joined : (p : List ℕ) → lowest_of (joins s t) p ≡ option_or (lowest_of s p) (found t p (cond (joinable s t) t.m 0) 1)
  found_joined p = found_low p (cond (joinable s t) t.m 0) s.m 1 (omega arith) (omega arith)

  pub settled_joined : (p : List ℕ) → all_settled (joins s t) p ≡ (all_settled s p && settled_from t p (cond (joinable s t) t.m 0) 1)
  settled_joined p = settled_low p (cond (joinable s t) t.m 0) s.m 1 (omega arith) (omega arith)

  pub unsettled_joined : (p : List ℕ) → first_unsettled (joins s t) p ≡ option_or (first_unsettled s p) (option_map (λ j. s.m + j) (unsettled_from t p (cond (joinable s t) t.m 0) 1))
  unsettled_joined p = unsettled_low p (cond (joinable s t) t.m 0) s.m 1 (omega arith) (omega arith)

  pub gain_joined : (p q : List ℕ) → gained (joins s t) p q ≡ gained s p q + gain_from t p q (cond (joinable s t) t.m 0) 1
  gain_joined p q = gain_low p q (cond (joinable s t) t.m 0) s.m 1 (omega arith) (omega arith)

-- ---- both, where they may be joined
by_joinable : (b : Bool) (x : ℕ × ℕ) → cond b none (some x) ≡ none → b ≡ true
by_joinable true x h = refl
by_joinable false x h = absurd (cc h)

pub joinable_from : (s t : Store) → join_fault s t ≡ none → joinable s t ≡ true
joinable_from s t h = by_joinable (joinable s t) (19, 0) h

module _ (s t : Store) (fit : join_fault s t ≡ none) where
  pub same_vars : t.n ≡ s.n
  same_vars = sym (eqb-true s.n t.n (and_parts (eqb s.n t.n) (leb (s.m + t.m) 16384) (joinable_from s t fit)).0)

  pub all_rules : s.m + t.m ≡ (joins s t).m
  all_rules = sym (ap (λ b. s.m + cond b t.m 0) (joinable_from s t fit))

  pub both_few : s.m + t.m ≤ 16384
  both_few = leb-true (s.m + t.m) 16384 (and_parts (eqb s.n t.n) (leb (s.m + t.m) 16384) (joinable_from s t fit)).1

  moved : (r k : ℕ) → s.m < r → (b : Bool) → leb r (s.m + k) ≡ b → leb (r - s.m) k ≡ b
  moved r k h true e = let f = leb-true r (s.m + k) e in le-leb (r - s.m) k (omega arith)
  moved r k h false e = let f = leb-false r (s.m + k) e in lt-leb (r - s.m) k (omega arith)

  pub reply_second : (r : ℕ) (p : List ℕ) → s.m < r → look_reply t (r - s.m) p ≡ look_reply (joins s t) r p
  reply_second r p h =
      ap (λ b. cond (b && (leb (r - s.m) t.m && (eqb (length p) t.n && legal p))) (answer_of (t.look (r - s.m) p)) (18, pos 0)) (le-leb 1 (r - s.m) (omega arith) ∙ sym (le-leb 1 r (omega arith)))
      ∙ ap (λ b. cond (leb 1 r && (b && (eqb (length p) t.n && legal p))) (answer_of (t.look (r - s.m) p)) (18, pos 0)) (moved r t.m h (leb r (s.m + t.m)) refl ∙ ap (leb r) all_rules)
      ∙ ap (λ n. cond (leb 1 r && (leb r (joins s t).m && (eqb (length p) n && legal p))) (answer_of (t.look (r - s.m) p)) (18, pos 0)) same_vars
      ∙ ap (λ b. cond (leb 1 r && (leb r (joins s t).m && (eqb (length p) s.n && legal p))) (answer_of (cond b (s.look r p) (t.look (r - s.m) p))) (18, pos 0)) (sym (lt-leb r s.m h))

  pub found_both : (p : List ℕ) → lowest_of (joins s t) p ≡ option_or (lowest_of s p) (lowest_of t p)
  found_both p = found_joined s t p ∙ ap (λ b. option_or (lowest_of s p) (found t p (cond b t.m 0) 1)) (joinable_from s t fit)

  pub settled_both : (p : List ℕ) → all_settled (joins s t) p ≡ (all_settled s p && all_settled t p)
  settled_both p = settled_joined s t p ∙ ap (λ b. all_settled s p && settled_from t p (cond b t.m 0) 1) (joinable_from s t fit)

  pub unsettled_both : (p : List ℕ) → first_unsettled (joins s t) p ≡ option_or (first_unsettled s p) (option_map (λ j. s.m + j) (first_unsettled t p))
  unsettled_both p = unsettled_joined s t p ∙ ap (λ b. option_or (first_unsettled s p) (option_map (λ j. s.m + j) (unsettled_from t p (cond b t.m 0) 1))) (joinable_from s t fit)

  pub gain_both : (p q : List ℕ) → gained (joins s t) p q ≡ gained s p q + gained t p q
  gain_both p q = gain_joined s t p q ∙ ap (λ b. gained s p q + gain_from t p q (cond b t.m 0) 1) (joinable_from s t fit)
