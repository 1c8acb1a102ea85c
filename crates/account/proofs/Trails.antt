-- The partial of a trail, and how many variables a trail takes.
use Rattle.std.proofs.Common.{◌≡◌, ℕ, zero, suc, ◌+◌, ◌<◌, ◌≤◌, List, [], ◌∷◌, ◌++◌, length, get_or, take, drop, set, replicate, ℤ, pos, sym, refl, ap, subst, inl, arith, length-append}
use lib.ListN.{length-replicate}
use Rattle.std.proofs.lemmas.List.{take-append-drop, take_more, length_push}
use Rattle.rules.specs.Literals.{place, side, put, free, Literal, Partial, Each, Extends}
use Rattle.meaning.proofs.Keeps.{side_suc, free_put}
use Rattle.lookahead.specs.Answers.{set_all}
use Rattle.lookahead.proofs.Turns.{set_all_fits}
use Rattle.account.specs.Piles.{partial_of}

-- ---- lists
pub each_append : {A : Type 0} (P : A → Type 0) (xs ys : List A) → Each P xs → Each P ys → Each P (xs ++ ys)
each_append P [] ys h k = k
each_append P (x ∷ xs) ys h k = (h.0, each_append P xs ys h.1 k)

pub each_take : {A : Type 0} (P : A → Type 0) (k : ℕ) (xs : List A) → Each P xs → Each P (take k xs)
each_take P zero xs h = tt
each_take P (suc k) [] h = tt
each_take P (suc k) (x ∷ xs) h = (h.0, each_take P k xs h.1)

-- ---- the partial of a trail
pub set_all_append : (p : List ℕ) (xs ys : List ℤ) → set_all p (xs ++ ys) ≡ set_all (set_all p xs) ys
set_all_append p [] ys = refl
set_all_append p (x ∷ xs) ys = set_all_append (put p x) xs ys

pub partial_push : (n : ℕ) (trail : List ℤ) (l : ℤ) → partial_of n (trail ++ (l ∷ [])) ≡ put (partial_of n trail) l
partial_push n trail l = set_all_append (replicate n 0) trail (l ∷ [])

pub zero_at : (n i : ℕ) → get_or {A = ℕ} (replicate n 0) i 0 ≡ 0
zero_at zero i = refl
zero_at (suc n) zero = refl
zero_at (suc n) (suc i) = zero_at n i

-- all free is a partial, and everything extends it
pub free_partial : (n : ℕ) → Partial n (replicate n 0)
free_partial n = record { long = length-replicate n 0; bytes = λ i. subst (λ u. u ≤ 2) (sym (zero_at n i)) (omega arith) }

pub free_extends : (a : List ℕ) (n : ℕ) → Extends a (replicate n 0)
free_extends a n i = inl (zero_at n i)

pub partial_fits : (n : ℕ) (trail : List ℤ) → Partial n (partial_of n trail)
partial_fits n trail = set_all_fits n (replicate n 0) trail (free_partial n)

-- ---- how many variables are free
free_all : (n : ℕ) → free (replicate n 0) ≡ n
free_all zero = refl
free_all (suc n) = ap suc (free_all n)

-- a byte that is set takes at most one free variable,
free_less : (p : List ℕ) (i b : ℕ) → free p ≤ suc (free (set p i b))
free_less [] i b = omega arith
free_less (zero ∷ p) zero zero = omega arith
free_less (zero ∷ p) zero (suc b) = omega arith
free_less (suc x ∷ p) zero zero = omega arith
free_less (suc x ∷ p) zero (suc b) = omega arith
free_less (zero ∷ p) (suc i) b = let h = free_less p i b in omega arith
free_less (suc x ∷ p) (suc i) b = free_less p i b

-- and none if it was set before
free_same : (p : List ℕ) (i b c : ℕ) → get_or p i 0 ≡ suc c → free (set p i (suc b)) ≡ free p
free_same [] i b c e = refl
free_same (zero ∷ p) zero b c e = absurd (omega arith)
free_same (suc x ∷ p) zero b c e = refl
free_same (zero ∷ p) (suc i) b c e = ap suc (free_same p i b c e)
free_same (suc x ∷ p) (suc i) b c e = free_same p i b c e

free_set_all : (p : List ℕ) (ls : List ℤ) → free p ≤ free (set_all p ls) + length ls
free_set_all p [] = omega arith
free_set_all p (l ∷ ls) =
    let h = free_less p (place l) (side l) in
    let k = free_set_all (put p l) ls in
    omega arith

-- ---- trails whose literals all took a free variable
abbrev pub Fresh : ℕ → List ℤ → Type 0
Fresh n trail = free (partial_of n trail) + length trail ≡ n

fresh_part : (n : ℕ) (front more : List ℤ) → Fresh n (front ++ more) → Fresh n front
fresh_part n front more e =
    let all = free_all n in
    let h = free_set_all (replicate n 0) front in
    let k = free_set_all (partial_of n front) more in
    let s : free (partial_of n (front ++ more)) ≡ free (set_all (partial_of n front) more) = ap free (set_all_append (replicate n 0) front more) in
    let long = length-append front more in
    omega arith

pub fresh_front : (n : ℕ) (trail : List ℤ) (h : ℕ) → Fresh n trail → Fresh n (take h trail)
fresh_front n trail h e = fresh_part n (take h trail) (drop h trail) (subst (Fresh n) (sym (take-append-drop h trail)) e)

pub fresh_push : (n : ℕ) (trail : List ℤ) (l : ℤ) → Fresh n trail → Literal n l → get_or (partial_of n trail) (place l) 0 ≡ 0 → Fresh n (trail ++ (l ∷ []))
fresh_push n trail l e h z =
    let k = free_put n (partial_of n trail) l h (partial_fits n trail).long z in
    let s : free (partial_of n (trail ++ (l ∷ []))) ≡ free (put (partial_of n trail) l) = ap free (partial_push n trail l) in
    let long = length_push trail l in
    omega arith

-- the last literal of such a trail took a variable that was free before it
fresh_last : (n : ℕ) (trail : List ℤ) (l : ℤ) → Fresh n (trail ++ (l ∷ [])) → get_or (partial_of n trail) (place l) 0 ≡ 0
fresh_last n trail l e = by (get_or (partial_of n trail) (place l) 0) refl
  where
    by : (v : ℕ) → get_or (partial_of n trail) (place l) 0 ≡ v → v ≡ 0
    by zero h = refl
    by (suc c) h =
        let front = fresh_part n trail (l ∷ []) e in
        let b = side_suc l in
        let same : free (put (partial_of n trail) l) ≡ free (partial_of n trail) =
        rw b.1 (free_same (partial_of n trail) (place l) b.0 c h) in
        let s : free (partial_of n (trail ++ (l ∷ []))) ≡ free (put (partial_of n trail) l) = ap free (partial_push n trail l) in
        let long = length_push trail l in
        absurd (omega arith)

-- and so did the literal at each place
pub fresh_at : (n : ℕ) (trail : List ℤ) (h : ℕ) → h < length trail → Fresh n trail → get_or (partial_of n (take h trail)) (place (get_or trail h (pos 0))) 0 ≡ 0
fresh_at n trail h i e =
    fresh_last n (take h trail) (get_or trail h (pos 0)) (subst (Fresh n) (take_more trail h (pos 0) i) (fresh_front n trail (h + 1) e))
