-- Going back over the records.
use Rattle.std.proofs.Common.{◌≡◌, ℕ, zero, suc, ◌≤◌, true, false, List, [], ◌∷◌, ◌++◌, length, take, ℤ, neg_ℤ, sym, refl, ap, ◌∙◌, subst, arith, length-take}
use mathlib.Core.List.{reverse-append}
use mathlib.Core.Option.{Option, none, some}
use Rattle.rules.specs.Literals.{opposite, free}
use Rattle.stack.specs.declared.Stack.{Stack}
use Rattle.stack.specs.declared.kinds.Record.{Record}
use Rattle.stack.specs.Items.{items, sound, size}
use Rattle.account.specs.Piles.{Fit, Place, back, back_by}
use Rattle.account.proofs.Piles.{fit_below, decision_literal}
use Rattle.lookahead.specs.Answers.{news}
use Rattle.branches.specs.Spelled.{newest_first}
use Rattle.branches.proofs.Moves.{opposite_neg}

pub newest : (xs : List Record) (y : Record) → newest_first (xs ++ (y ∷ [])) ≡ y ∷ newest_first xs
newest xs y = reverse-append xs (y ∷ [])

pub items_long : {T : Type 0} (s : Stack T) → sound s → length (items s) ≡ s.len
items_long s w = length-take s.len s.cells.now ∙ (let h = w in omega arith)

-- from these records back to those, past none whose first side is being searched
pub record Retreating (trail : List ℤ) (from to : Stack Record) : Type 0 where
  pub whole : sound from → sound to
  pub places : size to ≡ size from
  pub goes : back trail (newest_first (items from)) ≡ back trail (newest_first (items to))
  pub fits : (n : ℕ) → Fit n trail (newest_first (items from)) → Fit n trail (newest_first (items to))

pub retreats_none : (trail : List ℤ) (s : Stack Record) → Retreating trail s s
retreats_none trail s = record { whole = λ w. w; places = refl; goes = refl; fits = λ n f. f }

-- one record more is taken off, whose second side was being searched
pub retreats_more : (trail : List ℤ) (from at to : Stack Record) (r : Record) → Retreating trail from at → items at ≡ items to ++ (r ∷ []) →
    (sound at → sound to) → size to ≡ size at → r.second ≡ true → Retreating trail from to
retreats_more trail from at to r w e k z b =
    let q : newest_first (items at) ≡ r ∷ newest_first (items to) = ap newest_first e ∙ newest (items to) r in
    record {
      whole = λ s. k (w.whole s);
      places = z ∙ w.places;
      goes = w.goes ∙ ap (back trail) q ∙ ap (λ u. back_by u trail r (newest_first (items to)) (back trail (newest_first (items to)))) b;
      fits = λ n f. fit_below n trail r (newest_first (items to)) (subst (Fit n trail) q (w.fits n f));
    }

-- nothing is left
pub retreats_out : (trail : List ℤ) (from at : Stack Record) → Retreating trail from at → items at ≡ [] → ◌≡◌ {A = Option Place} none (back trail (newest_first (items from)))
retreats_out trail from at w e = sym (w.goes ∙ ap (λ u. back trail (newest_first u)) e)

-- the record whose first side was being searched
pub found_fits : (n : ℕ) (trail : List ℤ) (from at to : Stack Record) (r : Record) → Retreating trail from at → items at ≡ items to ++ (r ∷ []) →
    Fit n trail (newest_first (items from)) → Fit n trail (r ∷ newest_first (items to))
found_fits n trail from at to r w e f = subst (Fit n trail) (ap newest_first e ∙ newest (items to) r) (w.fits n f)

-- its second side comes next
pub retreats_turn : (n : ℕ) (trail : List ℤ) (from at to : Stack Record) (r : Record) (end : List ℤ) (last : List Record) → n ≤ 2048 → Retreating trail from at →
    items at ≡ items to ++ (r ∷ []) → r.second ≡ false → Fit n trail (newest_first (items from)) →
    end ≡ take r.height trail ++ (opposite r.decision ∷ []) → last ≡ items to ++ (record { decision = r.decision; height = r.height; second = true } ∷ []) →
    ◌≡◌ {A = Option Place} (some (record { trail = end; records = newest_first last })) (back trail (newest_first (items from)))
retreats_turn n trail from at to r end last few w e b f t u =
    let below = newest_first (items to) in
    let q : newest_first (items at) ≡ r ∷ below = ap newest_first e ∙ newest (items to) r in
    let l = decision_literal n trail r below (found_fits n trail from at to r w e f) in
    let turned : Record = record { decision = r.decision; height = r.height; second = true } in
    let cut = take r.height trail in
    let t' : end ≡ cut ++ (neg_ℤ r.decision ∷ []) = t ∙ ap (λ z. cut ++ (z ∷ [])) (opposite_neg n r.decision few l) in
    let u' : newest_first last ≡ turned ∷ below = ap newest_first u ∙ newest (items to) turned in
    let there : back trail (newest_first (items from)) ≡ some (record { trail = cut ++ (neg_ℤ r.decision ∷ []); records = turned ∷ below }) =
    w.goes ∙ ap (back trail) q ∙ ap (λ z. back_by z trail r below (back trail below)) b in
    ap (λ z. some (record { trail = z; records = newest_first last })) t'
    ∙ ap (λ z. some (record { trail = cut ++ (neg_ℤ r.decision ∷ []); records = z })) u'
    ∙ sym there

-- where no variable is free nothing is new
new_from : (i : ℕ) (p q : List ℕ) → free p ≡ 0 → news i p q ≡ []
new_from i [] q h = refl
new_from i (x ∷ p) [] h = refl
new_from i (zero ∷ p) (y ∷ q) h = absurd (omega arith)
new_from i (suc x ∷ p) (y ∷ q) h = new_from (suc i) p q h

pub none_new : (p q : List ℕ) → free p ≡ 0 → news 0 p q ≡ []
none_new = new_from 0
