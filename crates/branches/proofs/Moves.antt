-- A branch laid at the start of the trail's memory: what it reads, and that moving it back leaves the memory as it was.
use Rattle.std.proofs.Common.{◌≡◌, ℕ, zero, suc, ◌+◌, ◌<◌, ◌≤◌, Bool, true, false, cond, ◌≢◌, List, [], ◌∷◌, ◌++◌, map, length, get_or, take, drop, set, ℤ, pos, negsuc, neg_ℤ, sym, refl, ap, ◌∙◌, subst, ⊎_elim, add-zero, zero-add, arith, length-set, length-take, is_ok, w32, SFits}
use mathlib.Core.List.{reverse_aux, reverse-reverse}
use Rattle.std.proofs.lemmas.List.{length-reverse}
use Rattle.std.proofs.lemmas.Int.{int_wrap_fits}
use Rattle.std.proofs.lemmas.Bool.{cases_eq}
use Rattle.std.proofs.lemmas.List.{append-nil, append_assoc, at_drop_more, take_more_set, take-set-le, get_or-take, get_or-set_same, get_or-set_other, set-set, set_comm, set-get_or}
use Rattle.rules.specs.Literals.{Literal, opposite}
use Rattle.stack.specs.declared.kinds.Record.{Record}
use Rattle.outlet.specs.declared.kinds.Kind.{Kind}
use Rattle.outlet.specs.declared.kinds.Kind.TheVariants.{Cube, Learnt}
use Rattle.outlet.specs.Entries.{cube, learnt, entry_of, put_reply}
use Rattle.account.specs.Piles.{Tall, Fit, taken, path}
use Rattle.lookahead.proofs.News.{each_get}
use Rattle.account.proofs.Piles.{fit_below, decision_literal, few_records}
use Rattle.branches.specs.Spelled.{newest_first, branch_entry}
use Rattle.branches.specs.Laying.{searched, written, laid_one, moved_one, laid, moved_back}

-- ---- negation in 32 bits
small : (n : ℕ) (l : ℤ) → n ≤ 2048 → Literal n l → SFits w32 (neg_ℤ l)
small n (pos zero) few h = absurd h
small n (pos (suc i)) few h = record { sfits = omega arith }
small n (negsuc i) few h = record { sfits = omega arith }

-- of a literal it is the true one
pub opposite_neg : (n : ℕ) (l : ℤ) → n ≤ 2048 → Literal n l → opposite l ≡ neg_ℤ l
opposite_neg n l few h = int_wrap_fits w32 (neg_ℤ l) (small n l few h)

searched_by : (n : ℕ) (b : Bool) (l : ℤ) → n ≤ 2048 → Literal n l → cond b (opposite l) l ≡ cond b (neg_ℤ l) l
searched_by n true l few h = opposite_neg n l few h
searched_by n false l few h = refl

-- ---- turns of the two loops
pub laid_more : (k : Kind) (rs : List Record) (cells new : List ℤ) (i : ℕ) (d : Record) → i < length rs → new ≡ laid_one k i (get_or rs i d) cells →
    laid k (i + 1) (drop (i + 1) rs) new ≡ laid k i (drop i rs) cells
laid_more k rs cells new i d h e =
    let j : i + 1 ≡ suc i = omega arith in
    ap (λ u. laid k u (drop (i + 1) rs) new) j ∙ ap (laid k (suc i) (drop (i + 1) rs)) e ∙ sym (at_drop_more (λ u. laid k i u cells) rs i d h)

moved_push : (i : ℕ) (xs : List Record) (r : Record) (cells : List ℤ) → moved_back i (xs ++ (r ∷ [])) cells ≡ moved_back i xs (moved_one (i + length xs) r cells)
moved_push i [] r cells = ap (λ u. moved_one u r cells) (sym (add-zero i))
moved_push i (x ∷ xs) r cells =
    let j : suc i + length xs ≡ i + suc (length xs) = omega arith in
    ap (moved_one i x) (moved_push (suc i) xs r cells ∙ ap (λ u. moved_back (suc i) xs (moved_one u r cells)) j)

pub moved_last : (xs : List Record) (r : Record) (cells : List ℤ) → moved_back 0 (xs ++ (r ∷ [])) cells ≡ moved_back 0 xs (moved_one (length xs) r cells)
moved_last xs r cells = moved_push 0 xs r cells ∙ ap (λ u. moved_back 0 xs (moved_one u r cells)) (zero-add (length xs))

-- ---- records that stand on the trail
pub record Stood (cells : List ℤ) (r : Record) : Type 0 where
  pub within : r.height < length cells
  pub stands : get_or cells r.height (pos 0) ≡ searched r
  pub side : searched r ≡ taken r
  pub other : opposite (searched r) ≡ neg_ℤ (taken r)

-- oldest first, each at a height of `lo` or more
abbrev pub Ready : List ℤ → ℕ → List Record → Type 0
Ready cells lo [] = Unit {0}
Ready cells lo (r ∷ rs) = (lo ≤ r.height) × Stood cells r × Ready cells (suc r.height) rs

ready_lower : (cells : List ℤ) (h lo : ℕ) (rs : List Record) → lo ≤ h → Ready cells h rs → Ready cells lo rs
ready_lower cells h lo [] w q = tt
ready_lower cells h lo (r ∷ rs) w q = let low = q.0 in (omega arith, q.1, q.2)

-- a cell below them all may be written
ready_set : (cells : List ℤ) (j : ℕ) (v : ℤ) (lo : ℕ) (rs : List Record) → j < lo → Ready cells lo rs → Ready (set cells j v) lo rs
ready_set cells j v lo [] w q = tt
ready_set cells j v lo (r ∷ rs) w q =
    let low = q.0 in
    let s = q.1 in
    let inside = s.within in
    let long = length-set cells j v in
    let apart : r.height ≢ j = omega arith in (
      low,
      record { within = omega arith; stands = get_or-set_other cells j r.height v (pos 0) apart ∙ s.stands; side = s.side; other = s.other },
      ready_set cells j v (suc r.height) rs (omega arith) q.2,
    )

stood : (n len : ℕ) (cells : List ℤ) (r : Record) (rs : List Record) → n ≤ 2048 → Fit n (take len cells) (r ∷ rs) → Stood cells r
stood n len cells r rs few f =
    let trail = take len cells in
    let low : r.height < length trail = f.tall.0 in
    let long = length-take len cells in
    let at : r.height < len = omega arith in
    let l = decision_literal n trail r rs f in
    let same : searched r ≡ taken r = searched_by n r.second r.decision few l in
    let on : Literal n (taken r) = subst (Literal n) f.stands.0 (each_get (Literal n) trail r.height (pos 0) low f.literals) in
    record {
      within = omega arith;
      stands = sym (get_or-take len cells r.height (pos 0) at) ∙ f.stands.0 ∙ sym same;
      side = same;
      other = ap opposite same ∙ opposite_neg n (taken r) few on;
    }

ready_from : (n len : ℕ) (cells : List ℤ) (h : ℕ) (ys zs : List Record) → n ≤ 2048 → Fit n (take len cells) ys → Tall h ys → Ready cells h zs → Ready cells 0 (reverse_aux ys zs)
ready_from n len cells h [] zs few f t q = ready_lower cells h 0 zs (omega arith) q
ready_from n len cells h (r ∷ ys) zs few f t q =
    let low = t.0 in
    ready_from n len cells r.height ys (r ∷ zs) few (fit_below n (take len cells) r ys f) t.1
    (omega arith, stood n len cells r ys few f, ready_lower cells h (suc r.height) zs (omega arith) q)

pub ready : (n len : ℕ) (cells : List ℤ) (rs : List Record) → n ≤ 2048 → Fit n (take len cells) (newest_first rs) → Ready cells 0 rs
ready n len cells rs few f =
    subst (Ready cells 0) (reverse-reverse rs) (ready_from n len cells (length (take len cells)) (newest_first rs) [] few f f.tall tt)

-- ---- moving back undoes laying
same_place : (cells : List ℤ) (i : ℕ) (a w b s : ℤ) → get_or cells i (pos 0) ≡ s → set (set (set (set cells i a) i w) i b) i s ≡ cells
same_place cells i a w b s e =
    set-set (set (set cells i a) i w) i b s ∙ set-set (set cells i a) i w s ∙ set-set cells i a s ∙ ap (set cells i) (sym e) ∙ set-get_or cells i (pos 0)

two_places : (cells : List ℤ) (i h : ℕ) (w s : ℤ) → i ≢ h → h ≢ i → h < length cells → get_or cells h (pos 0) ≡ s →
    set (set (set (set cells h (get_or cells i (pos 0))) i w) i (get_or (set (set cells h (get_or cells i (pos 0))) i w) h (pos 0))) h s ≡ cells
two_places cells i h w s apart apart' inside e =
    let a = get_or cells i (pos 0) in
    let b : get_or (set (set cells h a) i w) h (pos 0) ≡ a = get_or-set_other (set cells h a) i h w (pos 0) apart' ∙ get_or-set_same cells h a (pos 0) inside in
    ap (λ u. set (set (set (set cells h a) i w) i u) h s) b
    ∙ ap (λ u. set u h s) (set-set (set cells h a) i w a)
    ∙ set_comm (set cells h a) i h a s apart
    ∙ ap (λ u. set u i a) (set-set cells h a s ∙ ap (set cells h) (sym e) ∙ set-get_or cells h (pos 0))
    ∙ set-get_or cells i (pos 0)

undone_one : (k : Kind) (i : ℕ) (r : Record) (cells : List ℤ) → Stood cells r → moved_one i r (laid_one k i r cells) ≡ cells
undone_one k i r cells s =
    ⊎_elim
    (λ e. subst (λ h. get_or cells h (pos 0) ≡ searched r → set (set (set (set cells h (get_or cells i (pos 0))) i (written k r)) i (get_or (set (set cells h (get_or cells i (pos 0))) i (written k r)) h (pos 0))) h (searched r) ≡ cells) e
    (λ st. same_place cells i (get_or cells i (pos 0)) (written k r) (get_or (set (set cells i (get_or cells i (pos 0))) i (written k r)) i (pos 0)) (searched r) st)
    s.stands)
    (λ ne. two_places cells i r.height (written k r) (searched r) ne (λ e. ne (sym e)) s.within s.stands)
    (cases_eq i r.height)

laid_ready : (k : Kind) (i : ℕ) (r : Record) (rs : List Record) (cells : List ℤ) → i ≤ r.height → Ready cells (suc r.height) rs → Ready (laid_one k i r cells) (suc r.height) rs
laid_ready k i r rs cells w q =
    let h = r.height in
    let a = get_or cells i (pos 0) in
    ready_set (set cells h a) i (written k r) (suc h) rs (omega arith) (ready_set cells h a (suc h) rs (omega arith) q)

pub undone : (k : Kind) (i lo : ℕ) (rs : List Record) (cells : List ℤ) → i ≤ lo → Ready cells lo rs → moved_back i rs (laid k i rs cells) ≡ cells
undone k i lo [] cells w q = refl
undone k i lo (r ∷ rs) cells w q =
    let low = q.0 in
    ap (moved_one i r) (undone k (suc i) (suc r.height) rs (laid_one k i r cells) (omega arith) (laid_ready k i r rs cells (omega arith) q.2))
    ∙ undone_one k i r cells q.1

-- ---- what stands at the start is the branch
pub front : (k : Kind) (i lo : ℕ) (rs : List Record) (cells : List ℤ) → i ≤ lo → Ready cells lo rs → take (i + length rs) (laid k i rs cells) ≡ take i cells ++ map (written k) rs
front k i lo [] cells w q = ap (λ u. take u cells) (add-zero i) ∙ sym (append-nil (take i cells))
front k i lo (r ∷ rs) cells w q =
    let low = q.0 in
    let inside = q.1.within in
    let h = r.height in
    let a = get_or cells i (pos 0) in
    let l = written k r in
    let long = length-set cells h a in
    let i+1 : suc i ≡ i + 1 = omega arith in
    let j : i + suc (length rs) ≡ suc i + length rs = omega arith in
    let first : take (suc i) (laid_one k i r cells) ≡ take i cells ++ (l ∷ []) =
    ap (λ u. take u (laid_one k i r cells)) i+1 ∙ take_more_set (set cells h a) i l (omega arith) ∙ ap (λ u. u ++ (l ∷ [])) (take-set-le i cells h a (omega arith)) in
    ap (λ u. take u (laid k (suc i) rs (laid_one k i r cells))) j
    ∙ front k (suc i) (suc h) rs (laid_one k i r cells) (omega arith) (laid_ready k i r rs cells (omega arith) q.2)
    ∙ ap (λ u. u ++ map (written k) rs) first
    ∙ append_assoc (take i cells) (l ∷ []) (map (written k) rs)

path_from : (xs ys : List Record) → path (reverse_aux xs ys) ≡ path ys ++ map taken xs
path_from [] ys = sym (append-nil (path ys))
path_from (x ∷ xs) ys = path_from xs (x ∷ ys) ∙ append_assoc (path ys) (taken x ∷ []) (map taken xs)

as_cube : (cells : List ℤ) (lo : ℕ) (rs : List Record) → Ready cells lo rs → map (written Cube) rs ≡ map taken rs
as_cube cells lo [] q = refl
as_cube cells lo (r ∷ rs) q = ap (λ u. u ∷ map (written Cube) rs) q.1.side ∙ ap (λ u. taken r ∷ u) (as_cube cells (suc r.height) rs q.2)

as_learnt : (cells : List ℤ) (lo : ℕ) (rs : List Record) → Ready cells lo rs → map (written Learnt) rs ≡ map neg_ℤ (map taken rs)
as_learnt cells lo [] q = refl
as_learnt cells lo (r ∷ rs) q =
    ap (λ u. u ∷ map (written Learnt) rs) q.1.other ∙ ap (λ u. neg_ℤ (taken r) ∷ u) (as_learnt cells (suc r.height) rs q.2)

entry_is : (k : Kind) (cells : List ℤ) (rs : List Record) → Ready cells 0 rs → entry_of k (map (written k) rs) ≡ branch_entry k rs
entry_is Cube cells rs q = ap cube (as_cube cells 0 rs q ∙ sym (path_from rs []))
entry_is Learnt cells rs q = ap learnt (as_learnt cells 0 rs q ∙ ap (map neg_ℤ) (sym (path_from rs [])))

pub laid_entry : (k : Kind) (cells : List ℤ) (rs : List Record) (d : ℕ) → d ≡ length rs → Ready cells 0 rs → entry_of k (take d (laid k 0 rs cells)) ≡ branch_entry k rs
laid_entry k cells rs d e q =
    let j : d ≡ 0 + length rs = omega arith in
    ap (λ u. entry_of k (take u (laid k 0 rs cells))) j ∙ ap (entry_of k) (front k 0 0 rs cells (omega arith) q) ∙ entry_is k cells rs q

-- ---- of a fit trail, by itself and what was laid over it
pub few : (n len : ℕ) (cells : List ℤ) (rs : List Record) → Fit n (take len cells) (newest_first rs) → length rs ≤ length cells
few n len cells rs f =
    let few = few_records n (take len cells) (newest_first rs) f in
    let long = length-reverse rs in
    let part = length-take len cells in
    omega arith

pub entry_laid : (n len : ℕ) (k : Kind) (cells : List ℤ) (rs : List Record) → n ≤ 2048 → Fit n (take len cells) (newest_first rs) →
    entry_of k (take (length rs) (laid k 0 rs cells)) ≡ branch_entry k rs
entry_laid n len k cells rs h f = laid_entry k cells rs (length rs) refl (ready n len cells rs h f)

pub back_in_place : (n len : ℕ) (k : Kind) (cells : List ℤ) (rs : List Record) → n ≤ 2048 → Fit n (take len cells) (newest_first rs) →
    moved_back 0 rs (laid k 0 rs cells) ≡ cells
back_in_place n len k cells rs h f = undone k 0 0 rs cells (omega arith) (ready n len cells rs h f)

pub reply_told : (b : Bool) → is_ok (put_reply b) ≡ b
reply_told true = refl
reply_told false = refl

pub ruleset branch_laid = (few, entry_laid, back_in_place, reply_told)
