-- Where the rules of a table begin.
use Rattle.std.proofs.Common.{◌≡◌, ℕ, zero, suc, ◌+◌, ◌-◌, ◌≤◌, Bool, true, false, cond, ◌||◌, leb, List, [], ◌∷◌, ◌++◌, length, map, get_or, take, drop, ℤ, pos, Some, None, Option, sym, refl, ap, ◌∙◌, subst, arith, length-append, length-drop, drop-cons}
use Rattle.std.proofs.lemmas.Bool.{and_parts, leb-true}
use Rattle.std.proofs.lemmas.List.{drop-drop, drop-map, take_all}
use Rattle.std.specs.Iterator.{YieldsFirst}
use Rattle.rules.specs.Literals.{Each}
use Rattle.rules.specs.Rules.{Fits, numbers}
use Rattle.meaning.specs.Tables.{is_end, parts, opens, is_rule, start_of, HoldsRules}
use Rattle.meaning.specs.Listed.{nth_rule}
use Rattle.meaning.proofs.Tables.{rules_open, opened_rules}
use Rattle.tables.specs.Scan.{front, has_end}
use Rattle.tables.proofs.Rows.{opens_by, front_part, part_has}

-- the number of a rule that is there
pub rule_from : (m r : ℕ) → true ≡ is_rule m r → (1 ≤ r) × (r ≤ m)
rule_from m r h = let a = and_parts (leb 1 r) (leb r m) (sym h) in (leb-true 1 r a.0, leb-true r m a.1)

-- one rule more
start_more : (rs : List (List ℤ)) (k : ℕ) → suc k ≤ length rs → length (numbers (take (suc k) rs)) ≡ length (numbers (take k rs)) + suc (length (get_or rs k []))
start_more [] k h = absurd (omega arith)
start_more (ls ∷ rs) zero h = let e = length-append ls (pos 0 ∷ []) in omega arith
start_more (ls ∷ rs) (suc k) h =
    let e = length-append ls (pos 0 ∷ numbers (take (suc k) rs)) in
    let f = length-append ls (pos 0 ∷ numbers (take k rs)) in
    let r = start_more rs k (omega arith) in
    omega arith

start_within : (rs : List (List ℤ)) (k : ℕ) → length (numbers (take k rs)) ≤ length (numbers rs)
start_within rs zero = omega arith
start_within [] (suc k) = omega arith
start_within (ls ∷ rs) (suc k) =
    let e = length-append ls (pos 0 ∷ numbers (take k rs)) in
    let f = length-append ls (pos 0 ∷ numbers rs) in
    let r = start_within rs k in
    omega arith

drop_rule : (ls zs : List ℤ) → drop (suc (length ls)) (ls ++ (pos 0 ∷ zs)) ≡ zs
drop_rule [] zs = refl
drop_rule (l ∷ ls) zs = drop_rule ls zs

-- what stands from there on
drop_start : (rs : List (List ℤ)) (k : ℕ) → drop (length (numbers (take k rs))) (numbers rs) ≡ numbers (drop k rs)
drop_start rs zero = refl
drop_start [] (suc k) = refl
drop_start (ls ∷ rs) (suc k) =
    let x = length (numbers (take k rs)) in
    let e : length (ls ++ (pos 0 ∷ numbers (take k rs))) ≡ suc (length ls) + x = length-append ls (pos 0 ∷ numbers (take k rs)) ∙ (let f : length ls + suc x ≡ suc (length ls) + x = omega arith in f) in
    ap (λ u. drop u (ls ++ (pos 0 ∷ numbers rs))) e
    ∙ sym (drop-drop x (suc (length ls)) (ls ++ (pos 0 ∷ numbers rs)))
    ∙ ap (drop x) (drop_rule ls (numbers rs)) ∙ drop_start rs k

each_drop : {A : Type 0} (P : A → Type 0) (xs : List A) (k : ℕ) → Each P xs → Each P (drop k xs)
each_drop P xs zero h = h
each_drop P [] (suc k) h = tt
each_drop P (x ∷ xs) (suc k) h = each_drop P xs k h.1

-- a table from a rule on holds the rules from that one on
module _ (n : ℕ) (t : List ℤ) (o : opens n t ≡ true) where
  holds_from : (r : ℕ) → HoldsRules n (drop (start_of (parts t) r) t) (drop (r - 1) (parts t))
  holds_from r =
      let h = opened_rules n t o in
      let e = length-drop (r - 1) (parts t) in
      record {
        few_vars = h.few_vars;
        few_rules = (let few = h.few_rules in omega arith);
        fit = each_drop (Fits n) (parts t) (r - 1) h.fit;
        spelt = ap (drop (start_of (parts t) r)) h.spelt ∙ drop_start (parts t) (r - 1);
      }

  pub opens_from : (r : ℕ) → opens n (drop (start_of (parts t) r) t) ≡ true
  opens_from r = opens_by n _ _ (holds_from r)

  pub parts_from : (r : ℕ) → parts (drop (start_of (parts t) r) t) ≡ drop (r - 1) (parts t)
  parts_from r = (rules_open n _ _ (holds_from r)).1

  pub starts_within : (r : ℕ) → start_of (parts t) r ≤ length t
  starts_within r = subst (λ u. start_of (parts t) r ≤ length u) (sym (opened_rules n t o).spelt) (start_within (parts t) (r - 1))

-- the first of the rules from r on is the rule r
module _ (n : ℕ) (u : List ℤ) (rs : List (List ℤ)) (r : ℕ) (o : opens n u ≡ true) (e : parts u ≡ drop (r - 1) rs) (low : 1 ≤ r) (high : r ≤ length rs) where
  here : parts u ≡ nth_rule rs r ∷ drop (suc (r - 1)) rs
  here = e ∙ drop-cons rs (r - 1) [] (omega arith)

  pub from_has : has_end u ≡ true
  from_has = part_has n u _ _ o here

  pub from_front : front u ≡ nth_rule rs r
  from_front = front_part u _ _ from_has here

-- what a slice from an index on has
pub rest_all : {A : Type 0} (xs : List A) (i : ℕ) → take (length xs - i) (drop i xs) ≡ drop i xs
rest_all xs i = take_all (length xs - i) (drop i xs) (let e = length-drop i xs in omega arith)

module _ (n : ℕ) (t : List ℤ) (o : opens n t ≡ true) (r : ℕ) (low : 1 ≤ r) (high : r ≤ length (parts t)) where
  pub start_has : has_end (drop (start_of (parts t) r) t) ≡ true
  start_has = from_has n (drop (start_of (parts t) r) t) (parts t) r (opens_from n t o r) (parts_from n t o r) low high

  pub start_next : start_of (parts t) r + suc (length (front (drop (start_of (parts t) r) t))) ≡ start_of (parts t) (r + 1)
  start_next =
      let f = ap length (from_front n (drop (start_of (parts t) r) t) (parts t) r (opens_from n t o r) (parts_from n t o r) low high) in
      let s = start_more (parts t) (r - 1) (omega arith) in
      let j = ap (λ u. length (numbers (take u (parts t)))) (let k : suc (r - 1) ≡ r + 1 - 1 = omega arith in k) in
      omega arith

  -- the same, as a walk from rule to rule has it, which has come to `at`
  module _ (at : ℕ) (e : at ≡ start_of (parts t) r) where
    pub at_has : has_end (take (length t - at) (drop at t)) ≡ true
    at_has = ap has_end (rest_all t at) ∙ subst (λ k. has_end (drop k t) ≡ true) (sym e) start_has

    pub at_next : (ls : List ℤ) → ls ≡ front (take (length t - at) (drop at t)) → at + (length ls + 1) ≡ start_of (parts t) (r + 1)
    at_next ls g =
        let f = g ∙ ap front (rest_all t at) in
        let k = start_next in
        let a = ap (λ u. length (front (drop u t))) e in
        let b = ap length f in
        omega arith

-- ---- the looks at the rules from r on begin with that at the rule r
pub looks_from : {A : Type 0} (f : List ℤ → A) (rs : List (List ℤ)) (r : ℕ) → 1 ≤ r → r ≤ length rs → drop (r - 1) (map f rs) ≡ f (nth_rule rs r) ∷ map f (drop (suc (r - 1)) rs)
looks_from f rs r low high = drop-map f (r - 1) rs ∙ ap (map f) (drop-cons rs (r - 1) [] (omega arith))

pub looks_parts : {A : Type 0} (f : List ℤ → A) (u : List ℤ) (rs : List (List ℤ)) (k : ℕ) → parts u ≡ drop k rs → map f (parts u) ≡ drop k (map f rs)
looks_parts f u rs k e = ap (map f) e ∙ sym (drop-map f k rs)

pub next_is : {S A : Type 0} (rest : S → List A) (s t : S) (o : Option A) (v : A) (vs : List A) → YieldsFirst rest s o t → rest s ≡ v ∷ vs → o ≡ Some v
next_is rest s t None v vs y e = absurd (cc (sym y.0 ∙ e))
next_is rest s t (Some x) v vs y e = let k : x ∷ rest t ≡ v ∷ vs = sym y ∙ e in ap Some (cc k)

-- the literals of a rule are the front of what stands there
pub take_front : (u : List ℤ) → take (length (front u)) u ≡ front u
take_front [] = refl
take_front (z ∷ zs) = by (is_end z) (take_front zs)
  where
    by : (b : Bool) → take (length (front zs)) zs ≡ front zs → take (length (cond b [] (z ∷ front zs))) (z ∷ zs) ≡ cond b [] (z ∷ front zs)
    by true e = refl
    by false e = ap (λ v. z ∷ v) e

-- inside the first rule of t, with r left
pub record Passing (t r : List ℤ) : Type 0 where
  pub same : length t + length (front r) ≡ length (front t) + length r
  pub ended : has_end r ≡ true
  pub few : length r ≤ length t

pub past_starts : (t : List ℤ) → has_end t ≡ true → Passing t t
past_starts t e = record { same = omega arith; ended = e; few = omega arith }

module _ {t u : List ℤ} (w : Passing t u) (z : ℤ) (r : List ℤ) (is : u ≡ z ∷ r) where
  pub past_literal : is_end z ≡ false → Passing t r
  past_literal lit =
      let f = ap length (ap front is ∙ ap (λ b. cond b [] (z ∷ front r)) lit) in
      let l = ap length is in
      let s = w.same in
      let k = w.few in
      record { same = omega arith; ended = sym (ap has_end is ∙ ap (λ b. b || has_end r) lit) ∙ w.ended; few = omega arith }

  pub past_end : is_end z ≡ true → take (length t - length u) t ≡ front t
  past_end end =
      let f = ap length (ap front is ∙ ap (λ b. cond b [] (z ∷ front r)) end) in
      let s = w.same in
      ap (λ k. take k t) (let e : length t - length u ≡ length (front t) = omega arith in e) ∙ take_front t
