-- The literals that one partial sets and another does not, place by place.
use Rattle.std.proofs.Common.{◌≡◌, ℕ, zero, suc, ◌+◌, ◌<◌, ◌≤◌, List, [], ◌∷◌, ◌++◌, length, get_or, take, drop, set, ℤ, Some, None, sym, refl, ap, ◌∙◌, subst, add-one, arith}
use Rattle.std.proofs.lemmas.List.{append_assoc, append-nil, drop_more, drop_all, take_more_set, length-set}
use Rattle.rules.specs.Literals.{free, Each}
use Rattle.lookahead.specs.Answers.{new_at, added, news}

module _ (p q : List ℕ) (i : ℕ) (h : i < length p) (same : length q ≡ length p) where
  pub news_more : news i (drop i p) (drop i q) ≡ added (new_at i (get_or p i 0) (get_or q i 0)) (news (i + 1) (drop (i + 1) p) (drop (i + 1) q))
  news_more =
      let k : i < length q = omega arith in
      ap (λ u. news i u (drop i q)) (drop_more p i 0 h)
      ∙ ap (λ v. news i (get_or p i 0 ∷ drop (i + 1) p) v) (drop_more q i 0 k)
      ∙ ap (λ j. added (new_at i (get_or p i 0) (get_or q i 0)) (news j (drop (i + 1) p) (drop (i + 1) q))) (sym (add-one i))

  free_head : (x : ℕ) (u : List ℕ) → free u ≤ free (x ∷ u)
  free_head zero u = omega arith
  free_head (suc b) u = omega arith

  pub free_less : free (drop (i + 1) p) ≤ free (drop i p)
  free_less = subst (λ u. free (drop (i + 1) p) ≤ free u) (sym (drop_more p i 0 h)) (free_head (get_or p i 0) (drop (i + 1) p))

  free_new : (x y : ℕ) (l : ℤ) (u : List ℕ) → new_at i x y ≡ Some l → free (x ∷ u) ≡ suc (free u)
  free_new zero y l u e = refl
  free_new (suc x) y l u e = let z : ◌≡◌ {A = ℕ} 0 1 = cc in absurd (omega arith)

  pub free_fewer : (l : ℤ) → new_at i (get_or p i 0) (get_or q i 0) ≡ Some l → free (drop i p) ≡ suc (free (drop (i + 1) p))
  free_fewer l e = ap free (drop_more p i 0 h) ∙ free_new (get_or p i 0) (get_or q i 0) l (drop (i + 1) p) e

-- of the cells the first k hold what is new below place i, and there is room for the rest
pub record Writing (p q : List ℕ) (cells : List ℤ) (i k : ℕ) : Type 0 where
  pub so_far : take k cells ++ news i (drop i p) (drop i q) ≡ news 0 p q
  pub room : k + free (drop i p) ≤ length cells

module _ (p q : List ℕ) (cells : List ℤ) (i k : ℕ) (h : i < length p) (same : length q ≡ length p) (w : Writing p q cells i k) where
  pub writing_none : new_at i (get_or p i 0) (get_or q i 0) ≡ None → Writing p q cells (i + 1) k
  writing_none e =
      let f = free_less p q i h same in
      let r = w.room in
      record {
        so_far = ap (λ u. take k cells ++ u) (sym (news_more p q i h same ∙ ap (λ o. added o (news (i + 1) (drop (i + 1) p) (drop (i + 1) q))) e)) ∙ w.so_far;
        room = omega arith;
      }

  module _ (l : ℤ) (e : new_at i (get_or p i 0) (get_or q i 0) ≡ Some l) where
    pub writing_room : k < length cells
    writing_room = let f = free_fewer p q i h same l e in let r = w.room in omega arith

    pub writing_some : Writing p q (set cells k l) (i + 1) (k + 1)
    writing_some =
        let f = free_fewer p q i h same l e in
        let r = w.room in
        let long = length-set cells k l in
        let rest = news (i + 1) (drop (i + 1) p) (drop (i + 1) q) in
        record {
          so_far =
              ap (λ u. u ++ rest) (take_more_set cells k l writing_room)
              ∙ append_assoc (take k cells) (l ∷ []) rest
              ∙ ap (λ u. take k cells ++ u) (sym (news_more p q i h same ∙ ap (λ o. added o rest) e))
              ∙ w.so_far;
          room = omega arith;
        }

pub writing_starts : (p q : List ℕ) (cells : List ℤ) → free p ≤ length cells → Writing p q cells 0 0
writing_starts p q cells h = record { so_far = refl; room = omega arith }

pub writing_ends : (p q : List ℕ) (cells : List ℤ) (i k : ℕ) → length p ≤ i → length q ≡ length p → Writing p q cells i k → take k cells ≡ news 0 p q
writing_ends p q cells i k h same w =
    sym (append-nil (take k cells)) ∙ ap (λ u. take k cells ++ u) (sym (ap (λ u. news i u (drop i q)) (drop_all i p h))) ∙ w.so_far

-- what is so of each element is so of the one at an index, whatever the default is
pub each_get : {A : Type 0} (P : A → Type 0) (xs : List A) (i : ℕ) (d : A) → i < length xs → Each P xs → P (get_or xs i d)
each_get P [] i d h k = absurd (omega arith)
each_get P (x ∷ xs) zero d h k = k.0
each_get P (x ∷ xs) (suc i) d h k = each_get P xs i d (omega arith) k.1
