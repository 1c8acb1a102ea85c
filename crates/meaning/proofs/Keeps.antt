-- A list of rules of one kind keeps a store's meaning: one argument for clauses and odd rules.
use Rattle.std.proofs.Common.{◌≡◌, ℕ, zero, suc, ◌+◌, ◌-◌, ◌<◌, ◌≤◌, Bool, true, false, cond, not, ◌||◌, eqb, ◌⊎◌, List, [], ◌∷◌, length, get_or, set, ℤ, pos, negsuc, neg_ℤ, sym, refl, ap, ◌∙◌, inl, inr, ⊎_elim, arith, length-set}
use Rattle.std.proofs.lemmas.Bool.{true≢false}
use Rattle.std.proofs.lemmas.List.{get_or-set_other}
use Rattle.rules.specs.Literals.{Each, Full, Partial, Extends, Literal, place, side, put, is_true, free}
use Rattle.rules.specs.Rules.{holds, clause_true, true_count, is_odd, Fits}
use Rattle.stores.specs.declared.look.Look.TheVariants.{Settled, Broken, Forces}
use Rattle.stores.specs.Stores.{Store, Means, Keeps}
use Rattle.rules.specs.declared.kind.Kind.{Kind}
use Rattle.rules.specs.declared.kind.Kind.TheVariants.{Clause, Odd}
use Rattle.meaning.specs.Listed.{rule_of, if_free, free_of, look_by, nth_rule, listed}

-- ---- a literal under a partial and under an assignment that extends it
zero_false : (l : ℤ) → eqb 0 (side l) ≡ false
zero_false (pos v) = refl
zero_false (negsuc i) = refl

known : (a p : List ℕ) (l : ℤ) → Extends a p → (b : ℕ) → get_or p (place l) 0 ≡ suc b → is_true a l ≡ is_true p l
known a p l e b h = ⊎_elim (λ u. absurd (omega arith)) (λ u. ap (λ v. eqb v (side l)) (sym u)) (e (place l))

free_false : (p : List ℕ) (l : ℤ) → get_or p (place l) 0 ≡ 0 → is_true p l ≡ false
free_false p l h = ap (λ v. eqb v (side l)) h ∙ zero_false l

-- what is true in an assignment is true in the partial, or free there and true in the assignment
pub count_parts : (a p : List ℕ) (ls : List ℤ) → Extends a p → true_count a ls ≡ true_count p ls + true_count a (free_of p ls)
count_parts a p [] e = refl
count_parts a p (l ∷ ls) e = by (get_or p (place l) 0) refl (count_parts a p ls e)
  where
    freed : (v : Bool) (x y z : ℕ) → x ≡ y + z → cond v (suc x) x ≡ y + cond v (suc z) z
    freed true x y z h = omega arith
    freed false x y z h = h

    kept : (v : Bool) (x y z : ℕ) → x ≡ y + z → cond v (suc x) x ≡ cond v (suc y) y + z
    kept true x y z h = omega arith
    kept false x y z h = h

    by : (b : ℕ) → get_or p (place l) 0 ≡ b → true_count a ls ≡ true_count p ls + true_count a (free_of p ls) →
        cond (is_true a l) (suc (true_count a ls)) (true_count a ls) ≡ cond (is_true p l) (suc (true_count p ls)) (true_count p ls) + true_count a (if_free b l (free_of p ls))
    by zero h k = rw (free_false p l h) (freed (is_true a l) _ _ _ k)
    by (suc b) h k = rw (known a p l e b h) (kept (is_true p l) _ _ _ k)

-- ---- the free literals of a rule
abbrev pub Loose : ℕ → List ℕ → ℤ → Type 0
Loose n p l = Literal n l × (get_or p (place l) 0 ≡ 0)

pub free_loose : (n : ℕ) (p : List ℕ) (ls : List ℤ) → Each (Literal n) ls → Each (Loose n p) (free_of p ls)
free_loose n p [] h = tt
free_loose n p (l ∷ ls) h = by (get_or p (place l) 0) refl (free_loose n p ls h.1)
  where
    by : (b : ℕ) → get_or p (place l) 0 ≡ b → Each (Loose n p) (free_of p ls) → Each (Loose n p) (if_free b l (free_of p ls))
    by zero e k = ((h.0, e), k)
    by (suc b) e k = k

pub literal_place : (n : ℕ) (l : ℤ) → Literal n l → place l < n
literal_place n (pos zero) h = absurd h
literal_place n (pos (suc i)) h = h
literal_place n (negsuc i) h = h

-- one literal set takes one free variable
free_set : (p : List ℕ) (i b : ℕ) → i < length p → get_or p i 0 ≡ 0 → suc (free (set p i (suc b))) ≡ free p
free_set [] i b h e = absurd (omega arith)
free_set (zero ∷ p) zero b h e = refl
free_set (suc x ∷ p) zero b h e = absurd (omega arith)
free_set (zero ∷ p) (suc i) b h e = ap suc (free_set p i b (omega arith) e)
free_set (suc x ∷ p) (suc i) b h e = free_set p i b (omega arith) e

pub side_suc : (l : ℤ) → (b : ℕ) × (side l ≡ suc b)
side_suc (pos v) = (0, refl)
side_suc (negsuc i) = (1, refl)

pub free_put : (n : ℕ) (p : List ℕ) (l : ℤ) → Literal n l → length p ≡ n → get_or p (place l) 0 ≡ 0 → suc (free (put p l)) ≡ free p
free_put n p l h e f =
    let k = literal_place n l h in
    let b = side_suc l in
    rw b.1 (free_set p (place l) b.0 (omega arith) f)

free_away : (p : List ℕ) (l : ℤ) (ls : List ℤ) → Each (λ k. place k ≡ place l → ⊥) ls → free_of (put p l) ls ≡ free_of p ls
free_away p l [] h = refl
free_away p l (k ∷ ls) h = rw (get_or-set_other p (place l) (place k) (side l) 0 h.0, free_away p l ls h.1)

-- a rule has no more free literals than the partial has free variables
pub free_few : (n : ℕ) (p : List ℕ) (ls : List ℤ) → length p ≡ n → Fits n ls → length (free_of p ls) ≤ free p
free_few n p [] e h = omega arith
free_few n p (l ∷ ls) e h = by (get_or p (place l) 0) refl (free_few n p ls e (h.0.1, h.1.1)) (free_few n (put p l) ls (length-set p (place l) (side l) ∙ e) (h.0.1, h.1.1))
  where
    by : (b : ℕ) → get_or p (place l) 0 ≡ b → length (free_of p ls) ≤ free p → length (free_of (put p l) ls) ≤ free (put p l) → length (if_free b l (free_of p ls)) ≤ free p
    by zero f k m =
        let j = free_put n p l h.0.0 e f in
        let i = rw (free_away p l ls h.1.0) at m in
        omega arith
    by (suc b) f k m = k

-- ---- whether a rule holds, by how many of its literals are true
abbrev some_true : ℕ → Bool
some_true zero = false
some_true (suc t) = true

abbrev pub truth : Kind → ℕ → Bool
truth Clause t = some_true t
truth Odd t = is_odd t

clause_count : (a : List ℕ) (ls : List ℤ) → clause_true a ls ≡ some_true (true_count a ls)
clause_count a [] = refl
clause_count a (l ∷ ls) = by (is_true a l) (clause_count a ls)
  where
    by : (v : Bool) → clause_true a ls ≡ some_true (true_count a ls) → (v || clause_true a ls) ≡ some_true (cond v (suc (true_count a ls)) (true_count a ls))
    by true e = refl
    by false e = e

pub holds_count : (kind : Kind) (a : List ℕ) (ls : List ℤ) → holds a (rule_of kind ls) ≡ truth kind (true_count a ls)
holds_count Clause a ls = clause_count a ls
holds_count Odd a ls = refl

some_pos : (t : ℕ) → 1 ≤ t → some_true t ≡ true
some_pos zero h = absurd (omega arith)
some_pos (suc t) h = refl

odd_one : (t : ℕ) (v : Bool) → is_odd (t + cond v 1 0) ≡ cond v (not (is_odd t)) (is_odd t)
odd_one t true = ap is_odd (let e : t + 1 ≡ suc t = omega arith in e)
odd_one t false = ap is_odd (let e : t + 0 ≡ t = omega arith in e)

-- ---- a literal and its negation
eqb_sides : (v : ℕ) → (v ≡ 1) ⊎ (v ≡ 2) → (eqb v 2 ≡ not (eqb v 1)) × (eqb v 1 ≡ not (eqb v 2))
eqb_sides v (inl e) = (ap (λ u. eqb u 2) e ∙ sym (ap (λ u. not (eqb u 1)) e), ap (λ u. eqb u 1) e ∙ sym (ap (λ u. not (eqb u 2)) e))
eqb_sides v (inr e) = (ap (λ u. eqb u 2) e ∙ sym (ap (λ u. not (eqb u 1)) e), ap (λ u. eqb u 1) e ∙ sym (ap (λ u. not (eqb u 2)) e))

pub true_neg : (n : ℕ) (a : List ℕ) (l : ℤ) → Full n a → Literal n l → is_true a (neg_ℤ l) ≡ not (is_true a l)
true_neg n a (pos zero) full h = absurd h
true_neg n a (pos (suc i)) full h = (eqb_sides (get_or a i 0) (full.set_all i h)).0
true_neg n a (negsuc i) full h = (eqb_sides (get_or a i 0) (full.set_all i h)).1

pub literal_neg : (n : ℕ) (l : ℤ) → Literal n l → Literal n (neg_ℤ l)
literal_neg n (pos zero) h = h
literal_neg n (pos (suc i)) h = h
literal_neg n (negsuc i) h = h

pub place_neg : (l : ℤ) → place (neg_ℤ l) ≡ place l
place_neg (pos zero) = refl
place_neg (pos (suc i)) = refl
place_neg (negsuc i) = refl

-- ---- the answers
module _ (s : Store) (r : ℕ) (p : List ℕ) (fit : Partial s.n p) where
  -- t of the rule's literals are true and fs are free, and the rule holds by these counts
  module _ (kind : Kind) (t : ℕ) (fs : List ℤ) where
    abbrev Counted : Type 0
    Counted = (a : List ℕ) → Extends a p → s.satisfied r a ≡ truth kind (t + true_count a fs)

  one_true : (v : Bool) → some_true (0 + cond v 1 0) ≡ true → v ≡ true
  one_true true e = refl
  one_true false e = absurd (true≢false (sym e))

  odd_none : (t : ℕ) → Counted Odd t [] → (b : Bool) → is_odd t ≡ b → Means s r p (cond b Settled Broken)
  odd_none t k true e = λ a full x. k a x ∙ ap is_odd (let f : t + 0 ≡ t = omega arith in f) ∙ e
  odd_none t k false e = λ a full x. k a x ∙ ap is_odd (let f : t + 0 ≡ t = omega arith in f) ∙ e

  odd_last : (t : ℕ) (f : ℤ) → Loose s.n p f → Counted Odd t (f ∷ []) → (b : Bool) → is_odd t ≡ b → Means s r p (Forces (cond b (neg_ℤ f) f))
  odd_last t f l k true e = (
    literal_neg s.n f l.0,
    ap (λ i. get_or p i 0) (place_neg f) ∙ l.1,
    λ a full x y. true_neg s.n a f full l.0 ∙ turned (is_true a f) (sym (ap (λ u. cond (is_true a f) (not u) u) e) ∙ sym (odd_one t (is_true a f)) ∙ sym (k a x) ∙ y),
  )
    where
      turned : (v : Bool) → cond v false true ≡ true → not v ≡ true
      turned true h = h
      turned false h = refl
  odd_last t f l k false e =
      (l.0, l.1, λ a full x y. same (is_true a f) (sym (ap (λ u. cond (is_true a f) (not u) u) e) ∙ sym (odd_one t (is_true a f)) ∙ sym (k a x) ∙ y))
    where
      same : (v : Bool) → cond v true false ≡ true → v ≡ true
      same true h = refl
      same false h = h

  answer_means : (kind : Kind) (t : ℕ) (fs : List ℤ) → Each (Loose s.n p) fs → length fs ≤ free p → Counted kind t fs → Means s r p (look_by kind t fs)
  answer_means Clause (suc t) fs l m k = λ a full x. k a x ∙ some_pos (suc t + true_count a fs) (omega arith)
  answer_means Clause zero [] l m k = λ a full x. k a x
  answer_means Clause zero (f ∷ []) l m k = (l.0.0, l.0.1, λ a full x y. one_true (is_true a f) (sym (k a x) ∙ y))
  answer_means Clause zero (f ∷ g ∷ fs) l m k = (omega arith, m)
  answer_means Odd t [] l m k = odd_none t k (is_odd t) refl
  answer_means Odd t (f ∷ []) l m k = odd_last t f l.0 k (is_odd t) refl
  answer_means Odd t (f ∷ g ∷ fs) l m k = (omega arith, m)

pub each_at : {A : Type 0} (P : A → Type 0) (xs : List A) (d : A) (i : ℕ) → Each P xs → P d → P (get_or xs i d)
each_at P [] d i h k = k
each_at P (x ∷ xs) d zero h k = h.0
each_at P (x ∷ xs) d (suc i) h k = each_at P xs d i h.1 k

pub listed_keep : (kind : Kind) (n : ℕ) (rs : List (List ℤ)) → Each (Fits n) rs → Keeps (listed kind n rs)
listed_keep kind n rs h r p low high fit =
    let ls = nth_rule rs r in
    let law : Fits n ls = each_at (Fits n) rs [] (r - 1) h (tt, tt) in
    answer_means (listed kind n rs) r p fit kind (true_count p ls) (free_of p ls) (free_loose n p ls law.0) (free_few n p ls fit.long law)
    (λ a x. holds_count kind a ls ∙ ap (truth kind) (count_parts a p ls x))
