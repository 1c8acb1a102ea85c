-- With how many branches an assignment agrees: a branch split in two, one more entry, the three states of the cubes.
use Rattle.std.proofs.Common.{◌≡◌, ℕ, ◌+◌, Bool, true, false, cond, not, ◌&&◌, ◌||◌, List, [], ◌∷◌, ◌++◌, map, length, ℤ, neg_ℤ, Some, None, Option as Maybe, sym, refl, ap, ◌∙◌, arith, length-set}
use lib.IntN.{neg_ℤ-neg_ℤ}
use Rattle.std.proofs.lemmas.List.Sums.{sum_by-cons}
use Rattle.rules.specs.Literals.{Each, Literal, Full, is_true, agrees}
use Rattle.rules.specs.Rules.{clause_true}
use Rattle.meaning.proofs.Keeps.{true_neg}
use Rattle.outlet.specs.Entries.{Entry, cube, learnt}
use Rattle.book.specs.declared.held.Mark.{Mark}
use Rattle.book.specs.declared.held.Mark.TheVariants.{Waiting, Out, Closed}
use Rattle.book.specs.Marks.{changed, same_mark, tally_of}
use Rattle.stores.specs.Stores.{Store, Satisfies}
use Rattle.account.specs.Calls.{cubes_of, clauses_of}
use Rattle.account.specs.Theorem.{among, cubes_in, count, NoneAgrees}

-- ---- branches under a full assignment
and_one : (b : Bool) → (b && true) ≡ b
and_one true = refl
and_one false = refl

and_same : (b c d : Bool) → (b && c && d) ≡ (b && (c && d))
and_same true c d = refl
and_same false c d = refl

pub agrees_push : (a : List ℕ) (d : List ℤ) (l : ℤ) → agrees a (d ++ (l ∷ [])) ≡ (agrees a d && is_true a l)
agrees_push a [] l = and_one (is_true a l)
agrees_push a (k ∷ d) l = ap (λ u. is_true a k && u) (agrees_push a d l) ∙ sym (and_same (is_true a k) (agrees a d) (is_true a l))

halves : (b c : Bool) → cond (b && c) 1 0 + cond (b && not c) 1 0 ≡ cond b 1 0
halves true true = refl
halves true false = refl
halves false c = refl

-- a branch is as much as its two sides
pub split : (n : ℕ) (a : List ℕ) (d : List ℤ) (l : ℤ) → Full n a → Literal n l →
    cond (agrees a (d ++ (l ∷ []))) 1 0 + cond (agrees a (d ++ (neg_ℤ l ∷ []))) 1 0 ≡ cond (agrees a d) 1 0
split n a d l full h = rw (agrees_push a d l, agrees_push a d (neg_ℤ l), true_neg n a l full h) (halves (agrees a d) (is_true a l))

pub neg_neg : (d : List ℤ) → map neg_ℤ (map neg_ℤ d) ≡ d
neg_neg [] = refl
neg_neg (l ∷ d) = ap (λ u. u ∷ map neg_ℤ (map neg_ℤ d)) (neg_ℤ-neg_ℤ l) ∙ ap (λ u. l ∷ u) (neg_neg d)

or_not : (b c d : Bool) → (b && c) ≡ false → (c ≡ false → d ≡ true) → (not b || d) ≡ true
or_not true c d e f = f e
or_not false c d e f = refl

-- where a full assignment does not agree with a branch, the branch's clause is true
pub negation_true : (n : ℕ) (a : List ℕ) → Full n a → (d : List ℤ) → Each (Literal n) d → agrees a d ≡ false → clause_true a (map neg_ℤ d) ≡ true
negation_true n a full [] h e = sym e
negation_true n a full (l ∷ d) h e =
    rw (true_neg n a l full h.0) (or_not (is_true a l) (agrees a d) (clause_true a (map neg_ℤ d)) e (negation_true n a full d h.1))

-- ---- one more
pub each_push : {A : Type 0} (P : A → Type 0) (xs : List A) (x : A) → Each P xs → P x → Each P (xs ++ (x ∷ []))
each_push P [] x h k = (k, tt)
each_push P (y ∷ xs) x h k = (h.0, each_push P xs x h.1 k)

pub count_push : (a : List ℕ) (ds : List (List ℤ)) (d : List ℤ) → count a (ds ++ (d ∷ [])) ≡ count a ds + cond (agrees a d) 1 0
count_push a [] d = omega arith
count_push a (e ∷ ds) d = let k = count_push a ds d in omega arith

pub cubes_cube : (es : List Entry) (d : List ℤ) → cubes_of (es ++ (cube d ∷ [])) ≡ cubes_of es ++ (d ∷ [])
cubes_cube [] d = refl
cubes_cube (cube e ∷ es) d = ap (λ u. e ∷ u) (cubes_cube es d)
cubes_cube (learnt e ∷ es) d = cubes_cube es d

pub cubes_learnt : (es : List Entry) (c : List ℤ) → cubes_of (es ++ (learnt c ∷ [])) ≡ cubes_of es
cubes_learnt [] c = refl
cubes_learnt (cube e ∷ es) c = ap (λ u. e ∷ u) (cubes_learnt es c)
cubes_learnt (learnt e ∷ es) c = cubes_learnt es c

pub clauses_cube : (es : List Entry) (d : List ℤ) → clauses_of (es ++ (cube d ∷ [])) ≡ clauses_of es
clauses_cube [] d = refl
clauses_cube (cube e ∷ es) d = clauses_cube es d
clauses_cube (learnt e ∷ es) d = ap (λ u. e ∷ u) (clauses_cube es d)

pub clauses_learnt : (es : List Entry) (c : List ℤ) → clauses_of (es ++ (learnt c ∷ [])) ≡ clauses_of es ++ (c ∷ [])
clauses_learnt [] c = refl
clauses_learnt (cube e ∷ es) c = clauses_learnt es c
clauses_learnt (learnt e ∷ es) c = ap (λ u. e ∷ u) (clauses_learnt es c)

-- ---- none
pub count_empty : (a : List ℕ) (ds : List (List ℤ)) → length ds ≡ 0 → count a ds ≡ 0
count_empty a [] e = refl
count_empty a (d ∷ ds) e = absurd (omega arith)

pub count_none : (s : Store) (a : List ℕ) → Satisfies s a → (ds : List (List ℤ)) → Each (NoneAgrees s) ds → count a ds ≡ 0
count_none s a sat [] h = refl
count_none s a sat (d ∷ ds) h = rw (h.0 a sat) (let k = count_none s a sat ds h.1 in omega arith)

-- ---- the cubes' states
pub length_changed : (xs : List Mark) (k : ℕ) (m : Maybe Mark) → length (changed xs k m) ≡ length xs
length_changed xs k None = refl
length_changed xs k (Some m) = length-set xs _ m

-- each cube is in one state
pub by_state : (a : List ℕ) (ds : List (List ℤ)) (xs : List Mark) → length xs ≡ length ds →
    count a (cubes_in Waiting ds xs) + count a (cubes_in Out ds xs) + count a (cubes_in Closed ds xs) ≡ count a ds
by_state a [] xs e = refl
by_state a (d ∷ ds) [] e = absurd (omega arith)
by_state a (d ∷ ds) (Waiting ∷ xs) e = let h = by_state a ds xs (omega arith) in omega arith
by_state a (d ∷ ds) (Out ∷ xs) e = let h = by_state a ds xs (omega arith) in omega arith
by_state a (d ∷ ds) (Closed ∷ xs) e = let h = by_state a ds xs (omega arith) in omega arith

length_among : (b : Bool) (d : List ℤ) (ds : List (List ℤ)) → length (among b d ds) ≡ cond b 1 0 + length ds
length_among true d ds = omega arith
length_among false d ds = omega arith

-- the tally of a state is how many cubes are in it
pub tally_is : (y : Mark) (ds : List (List ℤ)) (xs : List Mark) → length xs ≡ length ds → length (cubes_in y ds xs) ≡ tally_of y xs
tally_is y [] [] e = refl
tally_is y [] (x ∷ xs) e = absurd (omega arith)
tally_is y (d ∷ ds) [] e = refl
tally_is y (d ∷ ds) (x ∷ xs) e =
    let h = tally_is y ds xs (omega arith) in
    length_among (same_mark x y) d (cubes_in y ds xs) ∙ ap (λ u. cond (same_mark x y) 1 0 + u) h ∙ sym (sum_by-cons (λ m. cond (same_mark m y) 1 0) x xs)
