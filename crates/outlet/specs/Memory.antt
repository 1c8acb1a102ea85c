-- Lent memory that is written from its start on: a stack that only grows.
use Rattle.std.specs.Prelude.{◌≡◌, ℕ, ◌+◌, ◌-◌, ◌≤◌, List, ◌++◌, length, take, drop, refl}
use Rattle.std.proofs.Common.{sym, ◌∙◌, ap, arith}
use Rattle.std.proofs.lemmas.List.{drop-drop, take-take}
use Rattle.stack.specs.declared.Stack.{Stack}
use Rattle.stack.specs.Items.{items, spares}

-- the memory xs with ws written from a place on
abbrev pub laid : {X : Type 0} → List X → ℕ → List X → List X
laid xs at ws = take at xs ++ (ws ++ drop (at + length ws) xs)

-- t is s with ws behind its content, in the same memory; the other places are as they were
pub record Appended {T : Type 0} (s : Stack T) (ws : List T) (t : Stack T) : Type 0 where
  pub room : length ws ≤ length (spares s)
  pub len : t.len ≡ s.len + length ws
  pub items : items t ≡ items s ++ ws
  pub spares : spares t ≡ drop (length ws) (spares s)
  pub same : t.cells.ghost_name ≡ s.cells.ghost_name

-- From xs, of which `used` were written, the memory became ys, of which `now_used` are: what was written stays,
-- and what lies behind the written part is untouched.
pub record Grew {X : Type 0} (used : ℕ) (xs : List X) (now_used : ℕ) (ys : List X) : Type 0 where
  pub longer : used ≤ now_used
  pub written : take used ys ≡ take used xs
  pub behind : drop now_used ys ≡ drop now_used xs

-- so any number of writes leave it
pub grew_none : {X : Type 0} (u : ℕ) (xs : List X) → Grew u xs u xs
grew_none u xs = record { longer = omega arith; written = refl; behind = refl }

pub grew_more : {X : Type 0} (u v w : ℕ) (xs ys zs : List X) → Grew u xs v ys → Grew v ys w zs → Grew u xs w zs
grew_more u v w xs ys zs g h =
    let a : u ≤ v = g.longer in
    let b : v ≤ w = h.longer in
    let e : v + (w - v) ≡ w = omega arith in
    record {
      longer = omega arith;
      written = sym (take-take u v zs a) ∙ ap (take u) h.written ∙ take-take u v ys a ∙ g.written;
      behind = h.behind ∙ sym (ap (λ n. drop n ys) e) ∙ sym (drop-drop (w - v) v ys) ∙ ap (drop (w - v)) g.behind ∙ drop-drop (w - v) v xs ∙ ap (λ n. drop n xs) e;
    }

-- the same memory, grown so
pub record Kept {T : Type 0} (s t : Stack T) : Type 0 where
  pub same : t.cells.ghost_name ≡ s.cells.ghost_name
  pub grew : Grew s.len s.cells.now t.len t.cells.now

pub kept_none : {T : Type 0} (s : Stack T) → Kept s s
kept_none s = record { same = refl; grew = grew_none s.len s.cells.now }

pub kept_more : {T : Type 0} (s t u : Stack T) → Kept s t → Kept t u → Kept s u
kept_more s t u k l = record {
  same = l.same ∙ k.same;
  grew = grew_more s.len t.len u.len s.cells.now t.cells.now u.cells.now k.grew l.grew;
}
