-- What `find_map` answers over a chain of known items, and the items of `a..=b`.
use denote.Param.Members.{Mut, Called}
use Rattle.std.proofs.Common.{◌≡◌, ℕ, suc, ◌+◌, ◌-◌, Bool, true, false, List, [], ◌∷◌, map, length, None, Some, Option, sym, refl, ap, ◌∙◌, subst, arith}
use Rattle.std.specs.Option.{option_or, option_map, MatchOption, IfSome}
use Rattle.std.specs.List.{slice_get, FoldsTo, range_with_len}
use Rattle.std.specs.Iterator.{Yields, AlwaysYields, FindsMapped}
use Rattle.std.specs.Iterator.Runs.{Run, SomeRun, AllItemsGive}
use Rattle.std.specs.Range.{range_inclusive_len, range_inclusive_left, range_inclusive_steps}
use Rattle.std.specs.declared.ops.RangeInclusive.{RangeInclusive}
use Rattle.std.proofs.iter.runs.Made.{took, at-is}
use Rattle.std.proofs.lemmas.Iterator.{YieldsList, items_from_drains}
use Rattle.std.proofs.lemmas.Iterator.Consumers.{YieldsList-from_shown}

pub option_same : {A : Type 0} (o : Option A) → o ≡ option_map (λ x. x) o
option_same None = refl
option_same (Some x) = refl

-- the first value that h gives, as `find_map` does
abbrev pub first_some : {A R : Type 0} → (A → Option R) → List A → Option R
first_some h [] = None
first_some h (x ∷ xs) = option_or (h x) (first_some h xs)

module _ {A B F R : Type 0} {v : A → B} {g : Mut F (A × Unit {0}) (Option R)} (h : B → Option R) (f : F)
    (acts : (x : A) (o : Option R) (q : F) → Called g f (x, tt) o q → (q ≡ f) × (o ≡ h (v x))) where
  -- each item gave None
  none_given : (xs : List A) → ((k : ℕ) → IfSome (slice_get xs k) (λ x. Called g f (x, tt) None f)) → first_some h (map v xs) ≡ None
  none_given [] e = refl
  none_given (x ∷ xs) e = ap (λ o. option_or o (first_some h (map v xs))) (sym (acts x None f (e 0)).1) ∙ none_given xs (λ k. e (suc k))

  module _ {S : Type 0} where
    -- the items xs gave None, and the next one gave y
    some_given : (steps : S → Option A → S → Type 0) (all : List B) (s : S) → AlwaysYields steps v s all → (xs : List A) (t : S) (x : A) (u : S) → Yields steps s xs t → steps t (Some x) u →
        (p : F) → FoldsTo (λ p a q. Called g p (a, tt) None q) f xs p → (y : R) (q : F) → Called g p (x, tt) (Some y) q → Some y ≡ first_some h all
    some_given steps [] s a [] t x u e step p fs y q c = absurd (a x u (subst (λ w. steps w (Some x) u) (sym e) step))
    some_given steps [] s a (z ∷ xs) t x u e step p fs y q c = absurd (a z e.0 e.1)
    some_given steps (b ∷ bs) s a [] t x u e step p fs y q c =
        let at = a.1 x u (subst (λ w. steps w (Some x) u) (sym e) step) in
        let is = (acts x (Some y) q (subst (λ w. Called g w (x, tt) (Some y) q) (sym fs) c)).1 in
        ap (λ o. option_or o (first_some h bs)) (is ∙ ap h at.0)
    some_given steps (b ∷ bs) s a (z ∷ xs) t x u e step p fs y q c =
        let at = a.1 z e.0 e.1 in
        let was = acts z None fs.0 fs.1 in
        some_given steps bs e.0 at.1 xs t x u e.2 step p (subst (λ w. FoldsTo (λ p a q. Called g p (a, tt) None q) w xs p) was.0 fs.2) y q c
        ∙ ap (λ o. option_or o (first_some h bs)) (was.1 ∙ ap h at.0)

    pub find_map_from_yields_List : {steps : S → Option A → S → Type 0} {s : S} {all : List B} (u : S) (r : Option R) (Q : Run steps → R → Type 0) → FindsMapped steps g s f r u →
        SomeRun steps s (λ p. MatchOption r ((p.whole ≡ true) × AllItemsGive p g f None) (Q p)) → YieldsList steps v s all → r ≡ first_some h all
    find_map_from_yields_List {steps} {s} {all} u None Q ran runs e =
        let p = runs.0 in
        let d = took p in
        let each = runs.2.1 (λ x o q c. (acts x.0 o q c).0) in
        let is = items_from_drains p.items (d.0, subst (λ w. Yields steps w p.items d.0) runs.1 d.1, λ _. d.2 runs.2.0) e in
        sym (none_given p.items (λ k. subst (λ o. IfSome o (λ x. Called g f (x, tt) None f)) (at-is p k) (each k))) ∙ ap (first_some h) is
    find_map_from_yields_List {steps} {s} {all} u (Some y) Q ran runs e = by ran.1 ran.3.2 ran.5
      where
        by : (o : Option A) → steps ran.3.0 o u → MatchOption o (◌≡◌ {A = Option R} (Some y) None) (λ x. (q : F) × Called g ran.2 (x, tt) (Some y) q) → Some y ≡ first_some h all
        by None step k = absurd (cc k)
        by (Some x) step k = some_given steps all s e.runs ran.0 ran.3.0 x u ran.3.1 step ran.2 ran.4 y k.0 k.1

-- ---- a..=b
abbrev gap : ℕ → ℕ → ℕ
gap a b = b - a

abbrev pub steps_up : RangeInclusive ℕ → Option ℕ → RangeInclusive ℕ → Type 0
steps_up = range_inclusive_steps gap (λ a b. b ≡ a + 1)

abbrev left_up : RangeInclusive ℕ → List ℕ
left_up s = range_with_len s.start (range_inclusive_left gap s)

up_one : (a b n m x : ℕ) (done : Bool) → x ≡ a → m + 1 ≡ n → (done ≡ false → b ≡ a + 1) → (done ≡ true → m ≡ 0) → range_with_len a n ≡ x ∷ range_with_len b m
up_one a b n m x true e f g k =
    let z : n ≡ 1 = omega (arith, k refl) in
    ap (range_with_len a) z ∙ ap (λ w. w ∷ []) (sym e) ∙ ap (λ w. x ∷ range_with_len b w) (sym (k refl))
up_one a b n m x false e f g k =
    ap (range_with_len a) (let z : n ≡ suc m = omega arith in z) ∙ ap (λ w. w ∷ range_with_len (a + 1) m) (sym e) ∙ ap (λ w. x ∷ range_with_len w m) (sym (g refl))

pub YieldsList-from_inclusive : (s : RangeInclusive ℕ) → YieldsList steps_up (λ x. x) s (left_up s)
YieldsList-from_inclusive =
    YieldsList-from_shown steps_up (λ x. x) left_up (λ s t p. ap (λ n. length (range_with_len s.start n)) p.1.0)
    (λ s x t p. up_one s.start t.start (range_inclusive_left gap s) (range_inclusive_left gap t) x t.exhausted p.1.0 p.1.1 p.1.2 (by t))
  where
    by : (t : RangeInclusive ℕ) → t.exhausted ≡ true → range_inclusive_left gap t ≡ 0
    by t e = ap (λ b. range_inclusive_len gap t.start t.end b) e

pub YieldsList-from_first_to : (s : RangeInclusive ℕ) (m : ℕ) → s.start ≡ 1 → s.end ≡ m → s.exhausted ≡ false → YieldsList steps_up (λ x. x) s (range_with_len 1 m)
YieldsList-from_first_to s m a b e = subst (YieldsList steps_up (λ x. x) s) (ap (λ n. range_with_len s.start n) (ap (λ d. range_inclusive_len gap s.start s.end d) e ∙ (let z : s.end - s.start + 1 - (s.start - s.end) ≡ m = omega arith in z)) ∙ ap (λ n. range_with_len n m) a) (YieldsList-from_inclusive s)
