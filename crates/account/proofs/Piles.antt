-- Trail and records stand for the pile: after a decision, and after the current branch is taken off.
use Rattle.std.proofs.Common.{◌≡◌, ℕ, ◌+◌, ◌<◌, ◌≤◌, Bool, true, false, cond, List, [], ◌∷◌, ◌++◌, length, get_or, take, ℤ, pos, neg_ℤ, sym, refl, ap, ◌∙◌, subst, arith, length-append}
use lib.IntN.{neg_ℤ-neg_ℤ}
use Rattle.std.proofs.lemmas.List.{take-take, take_at, take-append-le, get_or_append_left, get_or-take, get_or_push, length_push, length-take-le}
use Rattle.rules.specs.Literals.{place, put, free, Literal, Each}
use Rattle.meaning.proofs.Keeps.{literal_neg, place_neg}
use Rattle.stack.specs.declared.kinds.Record.{Record}
use Rattle.account.specs.Piles.{partial_of, taken, path, second_side, pending_by, pending, pile_of, Tall, Fit, back_by, back, open_at, FitAt, PilesRight}
use Rattle.account.proofs.Trails.{Fresh, each_append, each_take, partial_push, fresh_front, fresh_push, fresh_at}
use Rattle.lookahead.proofs.News.{each_get}

-- ---- heights
tall_more : (h k : ℕ) (rs : List Record) → h ≤ k → Tall h rs → Tall k rs
tall_more h k [] i w = tt
tall_more h k (r ∷ rs) i w = let j = w.0 in (omega arith, w.1)

tall_few : (h : ℕ) (rs : List Record) → Tall h rs → length rs ≤ h
tall_few h [] w = omega arith
tall_few h (r ∷ rs) w =
    let j = w.0 in
    let k = tall_few r.height rs w.1 in
    omega arith

-- trails that are the same below the records' heights
pending_same : (n : ℕ) (t u : List ℤ) (h : ℕ) (rs : List Record) → Tall h rs → ((k : ℕ) → k < h → take k t ≡ take k u) → pending n t rs ≡ pending n u rs
pending_same n t u h [] w e = refl
pending_same n t u h (r ∷ rs) w e =
    let low = w.0 in
    by r.second (pending_same n t u r.height rs w.1 (λ k i. e k (omega arith)))
  where
    by : (b : Bool) → pending n t rs ≡ pending n u rs → pending_by b (second_side n t r rs) (pending n t rs) ≡ pending_by b (second_side n u r rs) (pending n u rs)
    by true x = x
    by false x = rw (e r.height w.0, x)

abbrev pub Stands : List ℤ → Record → Type 0
Stands trail r = get_or trail r.height (pos 0) ≡ taken r

stands_same : (t u : List ℤ) (h : ℕ) (rs : List Record) → Tall h rs → ((k : ℕ) → k < h → get_or u k (pos 0) ≡ get_or t k (pos 0)) → Each (Stands t) rs → Each (Stands u) rs
stands_same t u h [] w e k = tt
stands_same t u h (r ∷ rs) w e k =
    let low = w.0 in
    (e r.height low ∙ k.0, stands_same t u r.height rs w.1 (λ j i. e j (omega arith)) k.1)

-- ---- what a fit gives
pub room : (n : ℕ) (trail : List ℤ) (rs : List Record) → Fit n trail rs → free (partial_of n trail) + length trail ≡ n
room n trail rs f = f.fresh

pub few_records : (n : ℕ) (trail : List ℤ) (rs : List Record) → Fit n trail rs → length rs ≤ length trail
few_records n trail rs f = tall_few (length trail) rs f.tall

-- without the newest record
pub fit_below : (n : ℕ) (trail : List ℤ) (r : Record) (rs : List Record) → Fit n trail (r ∷ rs) → Fit n trail rs
fit_below n trail r rs f =
    let low = f.tall.0 in
    record {
      tall = tall_more r.height (length trail) rs (omega arith) f.tall.1;
      stands = f.stands.1;
      literals = f.literals;
      fresh = f.fresh;
    }

place_by : (b : Bool) (l : ℤ) → place (cond b (neg_ℤ l) l) ≡ place l
place_by true l = place_neg l
place_by false l = refl

-- the side that is searched has the decision's variable
pub place_taken : (r : Record) → place (taken r) ≡ place r.decision
place_taken r = place_by r.second r.decision

literal_by : (n : ℕ) (b : Bool) (l : ℤ) → Literal n (cond b (neg_ℤ l) l) → Literal n l
literal_by n true l h = subst (Literal n) (neg_ℤ-neg_ℤ l) (literal_neg n (neg_ℤ l) h)
literal_by n false l h = h

-- the decision is a literal
pub decision_literal : (n : ℕ) (trail : List ℤ) (r : Record) (rs : List Record) → Fit n trail (r ∷ rs) → Literal n r.decision
decision_literal n trail r rs f =
    literal_by n r.second r.decision (subst (Literal n) f.stands.0 (each_get (Literal n) trail r.height (pos 0) f.tall.0 f.literals))

-- and its variable was free before it
pub free_at_height : (n : ℕ) (trail : List ℤ) (r : Record) (rs : List Record) → Fit n trail (r ∷ rs) → get_or (partial_of n (take r.height trail)) (place r.decision) 0 ≡ 0
free_at_height n trail r rs f =
    let e : place (get_or trail r.height (pos 0)) ≡ place r.decision = ap place f.stands.0 ∙ place_taken r in
    subst (λ i. get_or (partial_of n (take r.height trail)) i 0 ≡ 0) e (fresh_at n trail r.height f.tall.0 f.fresh)

-- ---- trails that grow and shrink
-- more literals behind the newest record
pub fit_more : (n : ℕ) (trail more : List ℤ) (rs : List Record) → Fit n trail rs → Each (Literal n) more → Fresh n (trail ++ more) → Fit n (trail ++ more) rs
fit_more n trail more rs f h e =
    let long = length-append trail more in
    record {
      tall = tall_more (length trail) (length (trail ++ more)) rs (omega arith) f.tall;
      stands = stands_same trail (trail ++ more) (length trail) rs f.tall (λ k i. get_or_append_left trail more (pos 0) k i) f.stands;
      literals = each_append (Literal n) trail more f.literals h;
      fresh = e;
    }

-- back to where the newest record's decision was made
pub fit_front : (n : ℕ) (trail : List ℤ) (r : Record) (rs : List Record) → Fit n trail (r ∷ rs) → Fit n (take r.height trail) rs
fit_front n trail r rs f =
    let low = f.tall.0 in
    let long : length (take r.height trail) ≡ r.height = length-take-le r.height trail (omega arith) in
    record {
      tall = subst (λ k. Tall k rs) (sym long) f.tall.1;
      stands = stands_same trail (take r.height trail) r.height rs f.tall.1 (λ k i. get_or-take r.height trail k (pos 0) i) f.stands.1;
      literals = each_take (Literal n) r.height trail f.literals;
      fresh = fresh_front n trail r.height f.fresh;
    }

-- a record more, whose literal takes a free variable
pub fit_push : (n : ℕ) (trail : List ℤ) (rs : List Record) (r : Record) → Fit n trail rs → r.height ≡ length trail → Literal n (taken r) →
    get_or (partial_of n trail) (place (taken r)) 0 ≡ 0 → Fit n (trail ++ (taken r ∷ [])) (r ∷ rs)
fit_push n trail rs r f e l z =
    let long = length_push trail (taken r) in
    let all : Fit n (trail ++ (taken r ∷ [])) rs = fit_more n trail (taken r ∷ []) rs f (l, tt) (fresh_push n trail (taken r) f.fresh l z) in
    record {
      tall = (omega arith, subst (λ k. Tall k rs) (sym e) f.tall);
      stands = (get_or_push trail (taken r) (pos 0) r.height (sym e), all.stands);
      literals = all.literals;
      fresh = all.fresh;
    }

-- after a decision
pub fit_decided : (n : ℕ) (trail more : List ℤ) (rs : List Record) (q : List ℕ) (l : ℤ) → Fit n trail rs → Each (Literal n) more →
    partial_of n (trail ++ more) ≡ q → free (partial_of n (trail ++ more)) + length (trail ++ more) ≡ n → Literal n l → get_or q (place l) 0 ≡ 0 →
    Fit n ((trail ++ more) ++ (l ∷ [])) (record { decision = l; height = length (trail ++ more); second = false } ∷ rs)
fit_decided n trail more rs q l f h e fresh k z =
    fit_push n (trail ++ more) rs (record { decision = l; height = length (trail ++ more); second = false }) (fit_more n trail more rs f h fresh) refl k
    (subst (λ u. get_or u (place l) 0 ≡ 0) (sym e) z)

-- after the current branch is taken off
fit_second : (n : ℕ) (trail : List ℤ) (r : Record) (rs : List Record) → Fit n trail (r ∷ rs) →
    Fit n (take r.height trail ++ (neg_ℤ r.decision ∷ [])) (record { decision = r.decision; height = r.height; second = true } ∷ rs)
fit_second n trail r rs f =
    let low = f.tall.0 in
    fit_push n (take r.height trail) rs (record { decision = r.decision; height = r.height; second = true }) (fit_front n trail r rs f)
    (sym (length-take-le r.height trail (omega arith)))
    (literal_neg n r.decision (decision_literal n trail r rs f))
    (subst (λ i. get_or (partial_of n (take r.height trail)) i 0 ≡ 0) (sym (place_neg r.decision)) (free_at_height n trail r rs f))

pub back_fits : (n : ℕ) (trail : List ℤ) (rs : List Record) → Fit n trail rs → FitAt n (back trail rs)
back_fits n trail [] f = tt
back_fits n trail (r ∷ rs) f = by r.second (back_fits n trail rs (fit_below n trail r rs f))
  where
    by : (b : Bool) → FitAt n (back trail rs) → FitAt n (back_by b trail r rs (back trail rs))
    by true later = later
    by false later = fit_second n trail r rs f

-- ---- the open branches
pub decided_pile : (n : ℕ) (trail more : List ℤ) (rs : List Record) (l : ℤ) → Tall (length trail) rs →
    pile_of n ((trail ++ more) ++ (l ∷ [])) (record { decision = l; height = length (trail ++ more); second = false } ∷ rs)
    ≡ record { decisions = path rs ++ (l ∷ []); partial = put (partial_of n (trail ++ more)) l }
    ∷ record { decisions = path rs ++ (neg_ℤ l ∷ []); partial = put (partial_of n (trail ++ more)) (neg_ℤ l) }
    ∷ pending n trail rs
decided_pile n trail more rs l w =
    let whole = trail ++ more in
    let long : length whole ≡ length trail + length more = length-append trail more in
    let same : pending n (whole ++ (l ∷ [])) rs ≡ pending n trail rs =
    pending_same n (whole ++ (l ∷ [])) trail (length trail) rs w
    (λ k i. take-append-le k whole (l ∷ []) (omega arith) ∙ take-append-le k trail more (omega arith)) in
    rw (partial_push n (trail ++ more) l, take_at (trail ++ more) (l ∷ []) (length (trail ++ more)) refl, same)

pub taken_off : (n : ℕ) (trail : List ℤ) (rs : List Record) → Tall (length trail) rs → open_at n (back trail rs) ≡ pending n trail rs
taken_off n trail [] w = refl
taken_off n trail (r ∷ rs) w =
    let low = w.0 in
    by r.second (taken_off n trail rs (tall_more r.height (length trail) rs (omega arith) w.1))
  where
    long : length (take r.height trail) ≡ r.height
    long = let low = w.0 in length-take-le r.height trail (omega arith)

    same : pending n (take r.height trail ++ (neg_ℤ r.decision ∷ [])) rs ≡ pending n trail rs
    same =
        pending_same n (take r.height trail ++ (neg_ℤ r.decision ∷ [])) trail r.height rs w.1
        (λ k i. take-append-le k (take r.height trail) (neg_ℤ r.decision ∷ []) (let j = long in omega arith) ∙ take-take k r.height trail (omega arith))

    by : (b : Bool) → open_at n (back trail rs) ≡ pending n trail rs → open_at n (back_by b trail r rs (back trail rs)) ≡ pending_by b (second_side n trail r rs) (pending n trail rs)
    by true x = x
    by false x = rw (partial_push n (take r.height trail) (neg_ℤ r.decision), same)

pub piles : (n : ℕ) → PilesRight n
piles n = record { decided = decided_pile n; taken_off = taken_off n; back_fits = back_fits n }
