-- Bytes of partials: a variable set either way, what two sides share, and the free variables false.
use Rattle.std.proofs.Common.{◌≡◌, ℕ, zero, suc, ◌<◌, ◌≤◌, Bool, true, false, cond, eqb, ◌⊎◌, List, [], ◌∷◌, length, get_or, set, pos, negsuc, sym, refl, ap, ◌∙◌, subst, inl, inr, ⊎_elim, arith, get_or-set_same}
use Rattle.std.proofs.lemmas.Bool.{eqb-true, eq-eqb}
use Rattle.rules.specs.Literals.{Partial, Full, Extends}
use Rattle.closing.proofs.Partials.{put_extends}
use Rattle.lookahead.specs.Trials.{common}
use Rattle.lookahead.specs.Nodes.{filled}

-- what a partial's byte x may be beside the byte v of one that extends it
abbrev At : ℕ → ℕ → Type 0
At x v = (x ≡ 0) ⊎ (x ≡ v)

-- what is free in a partial is free in one that it extends
pub free_under : (q p : List ℕ) (i : ℕ) → Extends q p → get_or q i 0 ≡ 0 → get_or p i 0 ≡ 0
free_under q p i h e = ⊎_elim (λ u. u) (λ u. u ∙ e) (h i)

-- a full assignment that extends p extends one of the two sides of a variable
pub sides : (n : ℕ) (a p : List ℕ) (i : ℕ) → i < n → Full n a → Extends a p → Extends a (set p i 1) ⊎ Extends a (set p i 2)
sides n a p i h full e =
    ⊎_elim
    (λ v. inl (put_extends a p (pos (suc i)) (eq-eqb (get_or a i 0) 1 v) e))
    (λ v. inr (put_extends a p (negsuc i) (eq-eqb (get_or a i 0) 2 v) e))
    (full.set_all i h)

-- what extends a side has the variable set
pub side_taken : (r p : List ℕ) (i b : ℕ) → i < length p → Extends r (set p i (suc b)) → get_or r i 0 ≡ 0 → ⊥
side_taken r p i b h k e =
    let zero-there = free_under r (set p i (suc b)) i k e in
    let there = get_or-set_same p i (suc b) 0 h in
    omega arith

-- ---- the literals that are set on both sides
shared_under : (x y z v : ℕ) (b c : Bool) → (c ≡ true → y ≡ z) → At x v → At y v ⊎ At z v → At (cond b x (cond c y x)) v
shared_under x y z v true c e h k = h
shared_under x y z v false false e h k = h
shared_under x y z v false true e h (inl k) = k
shared_under x y z v false true e h (inr k) = subst (λ u. At u v) (sym (e refl)) k

common_under : (f : ℕ → ℕ) (p q r : List ℕ) (i : ℕ) → At (get_or p i 0) (f i) → At (get_or q i 0) (f i) ⊎ At (get_or r i 0) (f i) → At (get_or (common p q r) i 0) (f i)
common_under f [] q r i h k = h
common_under f (x ∷ p) [] r i h k = h
common_under f (x ∷ p) (y ∷ q) [] i h k = h
common_under f (x ∷ p) (y ∷ q) (z ∷ r) zero h k = shared_under x y z (f 0) (eqb y 0) (eqb y z) (eqb-true y z) h k
common_under f (x ∷ p) (y ∷ q) (z ∷ r) (suc i) h k = common_under (λ u. f (suc u)) p q r i h k

-- what extends p and one of the sides extends what they share
pub common_extends : (a p q r : List ℕ) → Extends a p → Extends a q ⊎ Extends a r → Extends a (common p q r)
common_extends a p q r h k i = common_under (λ u. get_or a u 0) p q r i (h i) (⊎_elim (λ u. inl (u i)) (λ u. inr (u i)) k)

shared_over : (x y : ℕ) (b c : Bool) → At x y → At x (cond b x (cond c y x))
shared_over x y true c h = inr refl
shared_over x y false true h = h
shared_over x y false false h = inr refl

-- what the sides share extends p
pub common_adds : (p q r : List ℕ) → Extends q p → Extends (common p q r) p
common_adds [] q r h i = inl refl
common_adds (x ∷ p) [] r h i = inr refl
common_adds (x ∷ p) (y ∷ q) [] h i = inr refl
common_adds (x ∷ p) (y ∷ q) (z ∷ r) h zero = shared_over x y (eqb y 0) (eqb y z) (h 0)
common_adds (x ∷ p) (y ∷ q) (z ∷ r) h (suc i) = common_adds p q r (λ j. h (suc j)) i

shared_low : (x y : ℕ) (b c : Bool) → x ≤ 2 → y ≤ 2 → cond b x (cond c y x) ≤ 2
shared_low x y true c h k = h
shared_low x y false false h k = h
shared_low x y false true h k = k

common_low : (p q r : List ℕ) (i : ℕ) → get_or p i 0 ≤ 2 → get_or q i 0 ≤ 2 → get_or (common p q r) i 0 ≤ 2
common_low [] q r i h k = h
common_low (x ∷ p) [] r i h k = h
common_low (x ∷ p) (y ∷ q) [] i h k = h
common_low (x ∷ p) (y ∷ q) (z ∷ r) zero h k = shared_low x y (eqb y 0) (eqb y z) h k
common_low (x ∷ p) (y ∷ q) (z ∷ r) (suc i) h k = common_low p q r i h k

pub length_common : (p q r : List ℕ) → length (common p q r) ≡ length p
length_common [] q r = refl
length_common (x ∷ p) [] r = refl
length_common (x ∷ p) (y ∷ q) [] = refl
length_common (x ∷ p) (y ∷ q) (z ∷ r) = ap suc (length_common p q r)

pub common_partial : (n : ℕ) (p q r : List ℕ) → Partial n p → Partial n q → Partial n (common p q r)
common_partial n p q r h k = record { long = length_common p q r ∙ h.long; bytes = λ i. common_low p q r i (h.bytes i) (k.bytes i) }

-- ---- the free variables false
pub length_filled : (p : List ℕ) → length (filled p) ≡ length p
length_filled [] = refl
length_filled (zero ∷ p) = ap suc (length_filled p)
length_filled (suc b ∷ p) = ap suc (length_filled p)

pub filled_extends : (p : List ℕ) → Extends (filled p) p
filled_extends [] i = inl refl
filled_extends (zero ∷ p) zero = inl refl
filled_extends (zero ∷ p) (suc i) = filled_extends p i
filled_extends (suc b ∷ p) zero = inr refl
filled_extends (suc b ∷ p) (suc i) = filled_extends p i

one_or_two : (b : ℕ) → suc b ≤ 2 → (suc b ≡ 1) ⊎ (suc b ≡ 2)
one_or_two zero h = inl refl
one_or_two (suc zero) h = inr refl
one_or_two (suc (suc b)) h = absurd (omega arith)

filled_set : (p : List ℕ) → ((i : ℕ) → get_or p i 0 ≤ 2) → (i : ℕ) → i < length p → (get_or (filled p) i 0 ≡ 1) ⊎ (get_or (filled p) i 0 ≡ 2)
filled_set [] h i k = absurd (omega arith)
filled_set (zero ∷ p) h zero k = inr refl
filled_set (zero ∷ p) h (suc i) k = filled_set p (λ j. h (suc j)) i (omega arith)
filled_set (suc b ∷ p) h zero k = one_or_two b (h 0)
filled_set (suc b ∷ p) h (suc i) k = filled_set p (λ j. h (suc j)) i (omega arith)

pub filled_full : (n : ℕ) (p : List ℕ) → Partial n p → Full n (filled p)
filled_full n p h = record { long = length_filled p ∙ h.long; set_all = λ i k. filled_set p h.bytes i (subst (λ u. i < u) (sym h.long) k) }
