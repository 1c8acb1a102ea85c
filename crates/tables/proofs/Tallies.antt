-- The tally of a rule's literals.
use Rattle.std.proofs.Common.{◌≡◌, ℕ, zero, suc, ◌+◌, ◌≤◌, Bool, true, false, cond, ◌||◌, eqb, List, [], ◌∷◌, length, get_or, ℤ, pos, nat_abs, sym, refl, ap, ◌∙◌, subst, arith}
use Rattle.rules.specs.Literals.{Each, Literal, place, side, is_true}
use Rattle.rules.specs.Rules.{true_count}
use Rattle.rules.specs.declared.kind.Kind.{Kind}
use Rattle.rules.specs.declared.kind.Kind.TheVariants.{Clause, Odd}
use Rattle.meaning.specs.Tables.{is_end}
use Rattle.meaning.specs.Listed.{if_free, free_of, look_by, look_at}
use Rattle.meaning.proofs.Keeps.{Loose, free_loose}
use Rattle.meaning.proofs.Tables.{literal_few}
use Rattle.tables.specs.Scan.{front, has_end, after, free_by, last_by, last_from, last_of, answer_by}

-- the literals of the first rule of t are counted up to r
pub record Scanning (p : List ℕ) (t r : List ℤ) (trues free : ℕ) (last : ℤ) : Type 0 where
  pub trues_are : trues + true_count p (front r) ≡ true_count p (front t)
  pub free_are : free + length (free_of p (front r)) ≡ length (free_of p (front t))
  pub last_is : last_from last (free_of p (front r)) ≡ last_of (free_of p (front t))
  pub range : Each (Literal (length p)) (front r)
  pub ended : has_end r ≡ has_end t
  pub rest : after r ≡ after t
  pub few : trues + length r ≤ length t
  pub few_free : free + length r ≤ length t

pub scan_starts : (p : List ℕ) (t : List ℤ) → Each (Literal (length p)) (front t) → Scanning p t t 0 0 (pos 0)
scan_starts p t r = record { trues_are = omega arith; free_are = omega arith; last_is = refl; range = r; ended = refl; rest = refl; few = omega arith; few_free = omega arith }

-- one number more
module _ {p : List ℕ} {t u : List ℤ} {trues free : ℕ} {last : ℤ} (w : Scanning p t u trues free last) (z : ℤ) (r : List ℤ) (is : u ≡ z ∷ r) where
  more_true : (v : Bool) (x y k : ℕ) → x + cond v (suc y) y ≡ k → cond v (suc x) x + y ≡ k
  more_true true x y k h = omega arith
  more_true false x y k h = h

  more_free : (b : ℕ) (ls : List ℤ) (x k : ℕ) → x + length (if_free b z ls) ≡ k → free_by b x + length ls ≡ k
  more_free zero ls x k h = omega arith
  more_free (suc b) ls x k h = h

  more_last : (b : ℕ) (ls : List ℤ) → last_from (last_by b z last) ls ≡ last_from last (if_free b z ls)
  more_last zero ls = refl
  more_last (suc b) ls = refl

  few_more : (v : Bool) (x : ℕ) → x + length u ≤ length t → cond v (suc x) x + length r ≤ length t
  few_more true x h = let e = ap length is in omega arith
  few_more false x h = let e = ap length is in omega arith

  few_free_more : (b x : ℕ) → x + length u ≤ length t → free_by b x + length r ≤ length t
  few_free_more zero x h = let e = ap length is in omega arith
  few_free_more (suc b) x h = let e = ap length is in omega arith

  module _ (lit : is_end z ≡ false) where
    here : front u ≡ z ∷ front r
    here = ap front is ∙ ap (λ b. cond b [] (z ∷ front r)) lit

    pub scan_literal : Literal (length p) z
    scan_literal = (subst (Each (Literal (length p))) here w.range).0

    pub scan_more : (b trues' free' : ℕ) (last' : ℤ) → b ≡ get_or p (place z) 0 → trues' ≡ cond (eqb b (side z)) (suc trues) trues → free' ≡ free_by b free → last' ≡ last_by b z last → Scanning p t r trues' free' last'
    scan_more b trues' free' last' e x y v =
        let fs = free_of p (front r) in
        let tr = x ∙ ap (λ k. cond (eqb k (side z)) (suc trues) trues) e in
        let fr = y ∙ ap (λ k. free_by k free) e in
        let la = v ∙ ap (λ k. last_by k z last) e in
        record {
          trues_are = ap (λ k. k + true_count p (front r)) tr ∙ more_true (is_true p z) trues (true_count p (front r)) _ (sym (ap (λ ls. trues + true_count p ls) here) ∙ w.trues_are);
          free_are = ap (λ k. k + length fs) fr ∙ more_free (get_or p (place z) 0) fs free _ (sym (ap (λ ls. free + length (free_of p ls)) here) ∙ w.free_are);
          last_is = ap (λ k. last_from k fs) la ∙ more_last (get_or p (place z) 0) fs ∙ sym (ap (λ ls. last_from last (free_of p ls)) here) ∙ w.last_is;
          range = (subst (Each (Literal (length p))) here w.range).1;
          ended = sym (ap has_end is ∙ ap (λ b. b || has_end r) lit) ∙ w.ended;
          rest = sym (ap after is ∙ ap (λ b. cond b r (after r)) lit) ∙ w.rest;
          few = subst (λ k. k + length r ≤ length t) (sym tr) (few_more (is_true p z) trues w.few);
          few_free = subst (λ k. k + length r ≤ length t) (sym fr) (few_free_more (get_or p (place z) 0) free w.few_free);
        }

  module _ (end : is_end z ≡ true) where
    none_left : front u ≡ []
    none_left = ap front is ∙ ap (λ b. cond b [] (z ∷ front r)) end

    pub scan_trues : trues ≡ true_count p (front t)
    scan_trues = let e = ap (true_count p) none_left in let s = w.trues_are in omega arith

    pub scan_free : free ≡ length (free_of p (front t))
    scan_free = let e = ap (λ ls. length (free_of p ls)) none_left in let s = w.free_are in omega arith

    pub scan_last : last ≡ last_of (free_of p (front t))
    scan_last = sym (ap (λ ls. last_from last (free_of p ls)) none_left) ∙ w.last_is

    pub scan_has : has_end t ≡ true
    scan_has = sym w.ended ∙ ap has_end is ∙ ap (λ b. b || has_end r) end

    pub scan_rest : r ≡ after t
    scan_rest = sym (ap after is ∙ ap (λ b. cond b r (after r)) end) ∙ w.rest

-- ---- the answer
answer_is : (kind : Kind) (t : ℕ) (fs : List ℤ) → answer_by kind t (length fs) (last_of fs) ≡ look_by kind t fs
answer_is Clause (suc t) fs = refl
answer_is Clause zero [] = refl
answer_is Clause zero (l ∷ []) = refl
answer_is Clause zero (l ∷ k ∷ fs) = refl
answer_is Odd t [] = refl
answer_is Odd t (l ∷ []) = refl
answer_is Odd t (l ∷ k ∷ fs) = refl

pub tallied : (kind : Kind) (p : List ℕ) (ls : List ℤ) (t f : ℕ) (l : ℤ) → t ≡ true_count p ls → f ≡ length (free_of p ls) → l ≡ last_of (free_of p ls) → answer_by kind t f l ≡ look_at kind p ls
tallied kind p ls t f l a b c =
    ap (λ u. answer_by kind u f l) a ∙ ap (λ u. answer_by kind (true_count p ls) u l) b ∙ ap (λ u. answer_by kind (true_count p ls) (length (free_of p ls)) u) c ∙ answer_is kind (true_count p ls) (free_of p ls)

last_few : (n : ℕ) (l : ℤ) (fs : List ℤ) → nat_abs l ≤ n → Each (λ k. nat_abs k ≤ n) fs → nat_abs (last_from l fs) ≤ n
last_few n l [] h k = h
last_few n l (f ∷ fs) h k = last_few n f fs k.0 k.1

few_each : (n : ℕ) (p : List ℕ) (fs : List ℤ) → Each (Loose n p) fs → Each (λ k. nat_abs k ≤ n) fs
few_each n p [] h = tt
few_each n p (f ∷ fs) h = (literal_few n f h.0.0, few_each n p fs h.1)

pub last_small : (p : List ℕ) (ls : List ℤ) (l : ℤ) → Each (Literal (length p)) ls → l ≡ last_of (free_of p ls) → nat_abs l ≤ length p
last_small p ls l h e = subst (λ u. nat_abs u ≤ length p) (sym e) (last_few (length p) (pos 0) (free_of p ls) (omega arith) (few_each (length p) p (free_of p ls) (free_loose (length p) p ls h)))
