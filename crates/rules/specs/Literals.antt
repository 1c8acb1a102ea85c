-- Literals, partial and full assignments.
use Rattle.std.specs.Prelude.{◌≡◌, Bool, true, ◌&&◌, List, [], ◌∷◌, ◌⊎◌, ℕ, zero, suc, ◌≤◌, ◌<◌, length, ℤ, pos, negsuc, neg_ℤ, ◌==◌, slice_index, slice_set}
use Rattle.std.specs.Int.{int_wrap, w32}

-- A literal is a variable v, from 1 on, or its negation -v. An assignment has a byte for each variable:
-- 0 free, 1 true, 2 false. The place of a literal is the index of its variable's byte,
abbrev pub place : ℤ → ℕ
place (pos zero) = 0
place (pos (suc i)) = i
place (negsuc i) = i

-- and its side is the byte that makes it true.
abbrev pub side : ℤ → ℕ
side (pos v) = 1
side (negsuc i) = 2

-- the negation in 32 bits, in which the lowest number is its own
abbrev pub opposite : ℤ → ℤ
opposite l = int_wrap w32 (neg_ℤ l)

-- a literal of one of the variables 1 to n
abbrev pub Literal : ℕ → ℤ → Type 0
Literal n (pos zero) = ⊥
Literal n (pos (suc i)) = i < n
Literal n (negsuc i) = i < n

abbrev pub is_true : List ℕ → ℤ → Bool
is_true a l = slice_index a (place l) == side l

-- an assignment with this literal set
abbrev pub put : List ℕ → ℤ → List ℕ
put p l = slice_set p (place l) (side l)

-- an assignment agrees with a list of literals if it makes each of them true
abbrev pub agrees : List ℕ → List ℤ → Bool
agrees a [] = true
agrees a (l ∷ ls) = is_true a l && agrees a ls

-- P holds of each element
abbrev pub Each : {A : Type 0} → (A → Type 0) → List A → Type 0
Each P [] = Unit {0}
Each P (x ∷ xs) = P x × Each P xs

-- how many variables are free
abbrev pub free : List ℕ → ℕ
free [] = 0
free (zero ∷ p) = suc (free p)
free (suc b ∷ p) = free p

-- a partial assignment of n variables
pub record Partial (n : ℕ) (p : List ℕ) : Type 0 where
  pub long : length p ≡ n
  pub bytes : (i : ℕ) → slice_index p i ≤ 2

-- a full assignment of n variables: none is free
pub record Full (n : ℕ) (a : List ℕ) : Type 0 where
  pub long : length a ≡ n
  pub set_all : (i : ℕ) → i < n → (slice_index a i ≡ 1) ⊎ (slice_index a i ≡ 2)

-- a has each byte of p that is not free
abbrev pub Extends : List ℕ → List ℕ → Type 0
Extends a p = (i : ℕ) → (slice_index p i ≡ 0) ⊎ (slice_index p i ≡ slice_index a i)
