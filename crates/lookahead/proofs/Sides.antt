-- Setting what one side has set gives that side; setting what both have gives what they share.
use Rattle.std.proofs.Common.{◌≡◌, ℕ, zero, suc, ◌+◌, ◌<◌, ◌≤◌, Bool, true, false, cond, eqb, ◌⊎◌, List, [], ◌∷◌, ◌++◌, length, get_or, set, ℤ, pos, negsuc, sym, refl, ap, ◌∙◌, inl, inr, arith}
use Rattle.std.proofs.lemmas.List.{append_assoc, length_push, set_at, get_or_at}
use Rattle.std.proofs.lemmas.Bool.{eqb-true, eqb-false, eq-eqb, ne_eqb}
use Rattle.rules.specs.Literals.{place, side, put, is_true, Literal, Partial, Extends, Each}
use Rattle.lookahead.specs.Trials.{shared, common}
use Rattle.lookahead.specs.Answers.{new_at, added, news, set_all, held}

eqb_comm : (a b : ℕ) → eqb a b ≡ eqb b a
eqb_comm a b = by (eqb a b) refl
  where
    by : (v : Bool) → eqb a b ≡ v → eqb a b ≡ eqb b a
    by true e = e ∙ sym (eq-eqb b a (sym (eqb-true a b e)))
    by false e = e ∙ sym (ne_eqb b a (λ f. eqb-false a b e (sym f)))

-- ---- one place
module _ (pre rpre p r : List ℕ) (ls : List ℤ) (i z : ℕ) (long : length pre ≡ i) (rlong : length rpre ≡ i) where
  abbrev other : List ℕ
  other = rpre ++ (z ∷ r)

  -- a literal that is new at this place is set if the other side has it
  set_one : (l : ℤ) → place l ≡ i → eqb (side l) 0 ≡ false → set_all (pre ++ (0 ∷ p)) (held other (l ∷ ls)) ≡ set_all (pre ++ (shared 0 (side l) z ∷ p)) (held other ls)
  set_one l at some = by (eqb (side l) z) refl
    where
      tests : is_true other l ≡ eqb (side l) z
      tests = ap (λ j. eqb (get_or other j 0) (side l)) at ∙ ap (λ u. eqb u (side l)) (get_or_at rpre z r 0 i rlong) ∙ eqb_comm z (side l)

      shares : (b : Bool) → eqb (side l) z ≡ b → shared 0 (side l) z ≡ cond b (side l) 0
      shares b e = ap (λ c. cond c 0 (cond (eqb (side l) z) (side l) 0)) some ∙ ap (λ c. cond c (side l) 0) e

      puts : put (pre ++ (0 ∷ p)) l ≡ pre ++ (side l ∷ p)
      puts = ap (λ j. set (pre ++ (0 ∷ p)) j (side l)) at ∙ set_at pre 0 p (side l) i long

      by : (b : Bool) → eqb (side l) z ≡ b → set_all (pre ++ (0 ∷ p)) (cond (is_true other l) (l ∷ held other ls) (held other ls)) ≡ set_all (pre ++ (shared 0 (side l) z ∷ p)) (held other ls)
      by true e =
          ap (λ c. set_all (pre ++ (0 ∷ p)) (cond c (l ∷ held other ls) (held other ls))) (tests ∙ e)
          ∙ ap (λ u. set_all u (held other ls)) (puts ∙ ap (λ y. pre ++ (y ∷ p)) (sym (shares true e)))
      by false e =
          ap (λ c. set_all (pre ++ (0 ∷ p)) (cond c (l ∷ held other ls) (held other ls))) (tests ∙ e)
          ∙ ap (λ y. set_all (pre ++ (y ∷ p)) (held other ls)) (sym (shares false e))

  -- a byte that P has already stays
  shared_set : (x y : ℕ) → x ≡ y → shared x y z ≡ x
  shared_set x y e = by (eqb y 0) (eqb y z)
    where
      by : (b c : Bool) → cond b x (cond c y x) ≡ x
      by true c = refl
      by false true = sym e
      by false false = refl

  same_byte : (x y : ℕ) → (suc x ≡ 0) ⊎ (suc x ≡ y) → suc x ≡ y
  same_byte x y (inl e) = absurd (omega arith)
  same_byte x y (inr e) = e

  one_place : (x y : ℕ) → (x ≡ 0) ⊎ (x ≡ y) → y ≤ 2 → set_all (pre ++ (x ∷ p)) (held other (added (new_at i x y) ls)) ≡ set_all (pre ++ (shared x y z ∷ p)) (held other ls)
  one_place zero zero h low = refl
  one_place zero (suc zero) h low = set_one (pos (suc i)) refl refl
  one_place zero (suc (suc zero)) h low = set_one (negsuc i) refl refl
  one_place zero (suc (suc (suc y))) h low = absurd (omega arith)
  one_place (suc x) y h low = ap (λ b. set_all (pre ++ (b ∷ p)) (held other ls)) (sym (shared_set (suc x) y (same_byte x y h)))

-- ---- all places
-- byte by byte: p is free or has q's byte, and q's bytes are at most 2
abbrev Under : List ℕ → List ℕ → Type 0
Under p q = (i : ℕ) → ((get_or p i 0 ≡ 0) ⊎ (get_or p i 0 ≡ get_or q i 0)) × (get_or q i 0 ≤ 2)

all_places : (p q r pre rpre : List ℕ) (i : ℕ) → length q ≡ length p → length r ≡ length p → length pre ≡ i → length rpre ≡ i → Under p q → set_all (pre ++ p) (held (rpre ++ r) (news i p q)) ≡ pre ++ common p q r
all_places [] q r pre rpre i eq er long rlong h = refl
all_places (x ∷ p) [] r pre rpre i eq er long rlong h = absurd (omega arith)
all_places (x ∷ p) (y ∷ q) [] pre rpre i eq er long rlong h = absurd (omega arith)
all_places (x ∷ p) (y ∷ q) (z ∷ r) pre rpre i eq er long rlong h =
    let b = shared x y z in
    let l1 : length (pre ++ (b ∷ [])) ≡ suc i = omega (arith, length_push pre b) in
    let l2 : length (rpre ++ (z ∷ [])) ≡ suc i = omega (arith, length_push rpre z) in
    let e1 : length q ≡ length p = omega arith in
    let e2 : length r ≡ length p = omega arith in
    let rest = all_places p q r (pre ++ (b ∷ [])) (rpre ++ (z ∷ [])) (suc i) e1 e2 l1 l2 (λ j. h (suc j)) in
    one_place pre rpre p r (news (suc i) p q) i z long rlong x y (h 0).0 (h 0).1
    ∙ ap (λ u. set_all u (held (rpre ++ (z ∷ r)) (news (suc i) p q))) (sym (append_assoc pre (b ∷ []) p))
    ∙ ap (λ u. set_all ((pre ++ (b ∷ [])) ++ p) (held u (news (suc i) p q))) (sym (append_assoc rpre (z ∷ []) r))
    ∙ rest
    ∙ append_assoc pre (b ∷ []) (common p q r)

-- what both sides q and r have set, set in p, is p with what they share
module _ (n : ℕ) (p q : List ℕ) (fp : Partial n p) (fq : Partial n q) (e : Extends q p) where
  pub set_held : (r : List ℕ) → Partial n r → set_all p (held r (news 0 p q)) ≡ common p q r
  set_held r fr = all_places p q r [] [] 0 (fq.long ∙ sym fp.long) (fr.long ∙ sym fp.long) refl refl (λ i. (e i, fq.bytes i))

-- ---- one side alone
common_self : (p q : List ℕ) → length q ≡ length p → ((i : ℕ) → (get_or p i 0 ≡ 0) ⊎ (get_or p i 0 ≡ get_or q i 0)) → common p q q ≡ q
common_self [] [] e h = refl
common_self [] (y ∷ q) e h = absurd (omega arith)
common_self (x ∷ p) [] e h = absurd (omega arith)
common_self (x ∷ p) (y ∷ q) e h =
    let d : length q ≡ length p = omega arith in
    ap (λ b. b ∷ common p q q) (self (h 0)) ∙ ap (λ u. y ∷ u) (common_self p q d (λ i. h (suc i)))
  where
    yes_same : eqb y y ≡ true
    yes_same = eq-eqb y y refl

    free_same : (b : Bool) → eqb y 0 ≡ b → x ≡ 0 → cond b x (cond (eqb y y) y x) ≡ y
    free_same true f g = g ∙ sym (eqb-true y 0 f)
    free_same false f g = ap (λ c. cond c y x) yes_same

    set_same : (b : Bool) → x ≡ y → cond b x (cond (eqb y y) y x) ≡ y
    set_same true g = g
    set_same false g = ap (λ c. cond c y x) yes_same

    self : (x ≡ 0) ⊎ (x ≡ y) → shared x y y ≡ y
    self (inl g) = free_same (eqb y 0) refl g
    self (inr g) = set_same (eqb y 0) g

-- every literal that q sets and p does not is true in q
module _ (q : List ℕ) where
  held_new : (x y i : ℕ) (ls : List ℤ) → get_or q i 0 ≡ y → y ≤ 2 → held q ls ≡ ls → held q (added (new_at i x y) ls) ≡ added (new_at i x y) ls
  held_new zero zero i ls e low h = h
  held_new zero (suc zero) i ls e low h =
      ap (λ c. cond c (pos (suc i) ∷ held q ls) (held q ls)) (eq-eqb (get_or q i 0) 1 e) ∙ ap (λ u. pos (suc i) ∷ u) h
  held_new zero (suc (suc zero)) i ls e low h =
      ap (λ c. cond c (negsuc i ∷ held q ls) (held q ls)) (eq-eqb (get_or q i 0) 2 e) ∙ ap (λ u. negsuc i ∷ u) h
  held_new zero (suc (suc (suc y))) i ls e low h = absurd (omega arith)
  held_new (suc x) y i ls e low h = h

  held_from : (p u : List ℕ) (i : ℕ) → ((j : ℕ) → get_or q (i + j) 0 ≡ get_or u j 0) → ((j : ℕ) → get_or u j 0 ≤ 2) → held q (news i p u) ≡ news i p u
  held_from [] u i e low = refl
  held_from (x ∷ p) [] i e low = refl
  held_from (x ∷ p) (y ∷ u) i e low =
      let at : get_or q i 0 ≡ y = ap (λ j. get_or q j 0) (let z : i ≡ i + 0 = omega arith in z) ∙ e 0 in
      held_new x y i (news (suc i) p u) at (low 0)
      (held_from p u (suc i) (λ j. ap (λ k. get_or q k 0) (let z : suc i + j ≡ i + suc j = omega arith in z) ∙ e (suc j)) (λ j. low (suc j)))

module _ (n : ℕ) (p q : List ℕ) (fp : Partial n p) (fq : Partial n q) (e : Extends q p) where
  -- what q has set and p has not, set in p, is q
  pub set_news : set_all p (news 0 p q) ≡ q
  set_news =
      ap (set_all p) (sym (held_from q p q 0 (λ j. ap (λ k. get_or q k 0) (let z : 0 + j ≡ j = omega arith in z)) fq.bytes))
      ∙ set_held n p q fp fq e q fq
      ∙ common_self p q (fq.long ∙ sym fp.long) e

-- ---- the new literals are literals of the n variables
new_literals : (n x y i : ℕ) (ls : List ℤ) → i < n → Each (Literal n) ls → Each (Literal n) (added (new_at i x y) ls)
new_literals n zero zero i ls h e = e
new_literals n zero (suc zero) i ls h e = (h, e)
new_literals n zero (suc (suc y)) i ls h e = (h, e)
new_literals n (suc x) y i ls h e = e

literals_from : (n : ℕ) (p q : List ℕ) (i : ℕ) → i + length p ≤ n → Each (Literal n) (news i p q)
literals_from n [] q i h = tt
literals_from n (x ∷ p) [] i h = tt
literals_from n (x ∷ p) (y ∷ q) i h = new_literals n x y i (news (suc i) p q) (omega arith) (literals_from n p q (suc i) (omega arith))

pub news_literals : (n : ℕ) (p q : List ℕ) → length p ≡ n → Each (Literal n) (news 0 p q)
news_literals n p q e = literals_from n p q 0 (omega arith)
