-- A partial with one literal more.
use Rattle.std.proofs.Common.{◌≡◌, ℕ, zero, suc, ◌≤◌, true, ◌⊎◌, List, [], ◌∷◌, get_or, set, ℤ, pos, negsuc, sym, refl, ◌∙◌, inl, inr, ⊎_elim, arith, length-set}
use Rattle.std.proofs.lemmas.Bool.{eqb-true}
use Rattle.rules.specs.Literals.{place, side, put, is_true, Partial, Extends}

-- what a partial's byte x may be beside the byte v of one that extends it
abbrev At : ℕ → ℕ → Type 0
At x v = (x ≡ 0) ⊎ (x ≡ v)

set_at : (P : ℕ → Type 0) (p : List ℕ) (j i b : ℕ) → P b → P (get_or p i 0) → P (get_or (set p j b) i 0)
set_at P [] j i b h k = k
set_at P (x ∷ p) zero zero b h k = h
set_at P (x ∷ p) zero (suc i) b h k = k
set_at P (x ∷ p) (suc j) zero b h k = k
set_at P (x ∷ p) (suc j) (suc i) b h k = set_at P p j i b h k

set_under : (f : ℕ → ℕ) (p : List ℕ) (j i b : ℕ) → f j ≡ b → At (get_or p i 0) (f i) → At (get_or (set p j b) i 0) (f i)
set_under f [] j i b e k = k
set_under f (x ∷ p) zero zero b e k = inr (sym e)
set_under f (x ∷ p) zero (suc i) b e k = k
set_under f (x ∷ p) (suc j) zero b e k = k
set_under f (x ∷ p) (suc j) (suc i) b e k = set_under (λ u. f (suc u)) p j i b e k

set_over : (p : List ℕ) (j i b : ℕ) → get_or p j 0 ≡ 0 → At (get_or p i 0) (get_or (set p j b) i 0)
set_over [] j i b e = inl refl
set_over (x ∷ p) zero zero b e = inl e
set_over (x ∷ p) zero (suc i) b e = inr refl
set_over (x ∷ p) (suc j) zero b e = inr refl
set_over (x ∷ p) (suc j) (suc i) b e = set_over p j i b e

side_low : (l : ℤ) → side l ≤ 2
side_low (pos v) = omega arith
side_low (negsuc i) = omega arith

pub put_partial : (n : ℕ) (p : List ℕ) (l : ℤ) → Partial n p → Partial n (put p l)
put_partial n p l q =
    record { long = length-set p (place l) (side l) ∙ q.long; bytes = λ i. set_at (λ x. x ≤ 2) p (place l) i (side l) (side_low l) (q.bytes i) }

-- what makes the literal true extends the partial with it
pub put_extends : (a p : List ℕ) (l : ℤ) → is_true a l ≡ true → Extends a p → Extends a (put p l)
put_extends a p l e h i = set_under (λ u. get_or a u 0) p (place l) i (side l) (eqb-true _ _ e) (h i)

-- a literal whose variable was free only adds to the partial
pub put_adds : (p : List ℕ) (l : ℤ) → get_or p (place l) 0 ≡ 0 → Extends (put p l) p
put_adds p l e i = set_over p (place l) i (side l) e

pub extends_self : (p : List ℕ) → Extends p p
extends_self p i = inr refl

pub extends_on : (r q p : List ℕ) → Extends r q → Extends q p → Extends r p
extends_on r q p h k i = ⊎_elim inl (λ e. ⊎_elim (λ f. inl (e ∙ f)) (λ f. inr (e ∙ f)) (h i)) (k i)
