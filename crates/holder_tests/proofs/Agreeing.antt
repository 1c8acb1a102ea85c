-- Lending and settling keep loans and book in agreement.
use Rattle.std.proofs.Common.{◌≡◌, ℕ, ◌+◌, ◌-◌, ◌≤◌, false, cond, eqb, List, [], ◌∷◌, ◌++◌, set, Some, None, Ok, Option, Result, sym, refl, ap, ◌∙◌, arith}
use Rattle.std.specs.Prelude.{IsOk}
use Rattle.std.proofs.lemmas.List.{length-set, get_or-set_same, get_or-set_other}
use Rattle.std.proofs.lemmas.Bool.Decides.{nat_tests}
use Rattle.std.proofs.lemmas.List.Sums.{sum_by-append}
use Rattle.book.specs.declared.held.Mark.{Mark}
use Rattle.book.specs.declared.held.Mark.TheVariants.{Waiting, Out, Closed}
use Rattle.book.specs.declared.held.Event.TheVariants.{Lend, Back}
use Rattle.book.specs.declared.held.Refusal.{Refusal}
use Rattle.book.specs.declared.held.Loan.{Loan}
use Rattle.book.specs.Marks.{mark_at, moved_from, changed, lend_reply, settle_reply}
use Rattle.book.proofs.Rows.{within}
use Rattle.holder.specs.Tokens.{count_of}
use Rattle.holder.specs.declared.held.Loans.{Loans}
use Rattle.holder.specs.Held.{loans_of, Taken, Popped}
use Rattle.holder_tests.specs.Agree.{out_of, Agree}

count_push : (k : ℕ) (ls : List Loan) (l : Loan) → count_of k (ls ++ (l ∷ [])) ≡ count_of k ls + cond (eqb l.cube k) 1 0
count_push k ls l = let f : Loan → ℕ = λ x. cond {A = ℕ} (eqb x.cube k) 1 0 in omega (arith, sum_by-append f ls (l ∷ []))

-- one row changed
set_same : (ms : List Mark) (c : ℕ) (m x : Mark) → ◌≡◌ {A = Option Mark} (Some m) (mark_at ms c) → mark_at (set ms (c - 1) x) c ≡ Some x
set_same ms c m x e = grind (arith, nat_tests, length-set {A = Mark}, get_or-set_same, within)

set_other : (ms : List Mark) (c j : ℕ) (m x : Mark) → ◌≡◌ {A = Option Mark} (Some m) (mark_at ms c) → (c ≡ j → ⊥) → mark_at (set ms (c - 1) x) j ≡ mark_at ms j
set_other ms c j m x e h = grind (arith, nat_tests, length-set {A = Mark}, get_or-set_other, within)

moved_agree : (ms : List Mark) (ls ls' : List Loan) (c : ℕ) (m x : Mark) → ◌≡◌ {A = Option Mark} (Some m) (mark_at ms c) → Agree ms ls →
    ((k : ℕ) → count_of k ls' + cond (eqb c k) (out_of (Some m)) 0 ≡ count_of k ls + cond (eqb c k) (out_of (Some x)) 0) → Agree (set ms (c - 1) x) ls'
moved_agree ms ls ls' c m x e h n k = let a = h k in let b = n k in grind (arith, nat_tests, set_same ms c m x e, set_other ms c k m x e)

-- a cube is lent, and its loan is kept
pub lent_agree : (ms : List Mark) (ls : List Loan) (cube : ℕ) (l : Loan) (o : Option Mark) → o ≡ mark_at ms cube →
    ◌≡◌ {A = Result Loan Refusal} (Ok l) (lend_reply (moved_from o Lend) cube) → Agree ms ls → Agree (changed ms cube (moved_from o Lend)) (ls ++ (l ∷ []))
lent_agree ms ls cube l None e r h = absurd (cc)
lent_agree ms ls cube l (Some Waiting) e r h =
    let p : ◌≡◌ {A = Loan} l (record { cube = cube; settled = false }) = cc in
    moved_agree ms ls (ls ++ (l ∷ [])) cube Waiting Out e h (λ k. (let a = count_push k ls l in grind (arith, nat_tests, p, a)))
lent_agree ms ls cube l (Some Out) e r h = absurd (cc)
lent_agree ms ls cube l (Some Closed) e r h = absurd (cc)

-- a loan that is held is of a cube that is out
is_out : (o : Option Mark) → 1 ≤ out_of o → o ≡ Some Out
is_out o h = grind (arith)

module _ (ms : List Mark) (ls ls' : List Loan) (l : Loan) (h : Agree ms ls) (n : (k : ℕ) → count_of k ls ≡ cond (eqb l.cube k) 1 0 + count_of k ls') where
  held_out : mark_at ms l.cube ≡ Some Out
  held_out = is_out (mark_at ms l.cube) (let a = h l.cube in let b = n l.cube in grind (arith, nat_tests))

  -- so settling it is not refused
  pub settles : (r : Result Loan (Refusal × Loan)) → r ≡ settle_reply (moved_from (mark_at ms l.cube) Back) l → IsOk r
  settles r is = rw (is, held_out) refl

  -- and its cube waits again
  pub back_agree : (ms' : List Mark) → ms' ≡ changed ms l.cube (moved_from (mark_at ms l.cube) Back) → Agree ms' ls'
  back_agree ms' e = rw (e, held_out) (moved_agree ms ls ls' l.cube Out Waiting (sym held_out) h (λ k. (let a = n k in grind (arith, nat_tests))))

-- how many loans are left of each cube
pub taken_counts : (cube : ℕ) (before after : Loans) (l : Loan) → Taken cube before after l → (k : ℕ) → count_of k (loans_of before) ≡ cond (eqb l.cube k) 1 0 + count_of k (loans_of after)
taken_counts cube before after l t k = rw t.cube_is (t.counts k)

pub popped_counts : (before after : Loans) (l : Loan) → Popped before after l → (k : ℕ) → count_of k (loans_of before) ≡ cond (eqb l.cube k) 1 0 + count_of k (loans_of after)
popped_counts before after l p k = let e = ap (count_of k) p.newest ∙ count_push k (loans_of after) l in omega arith
