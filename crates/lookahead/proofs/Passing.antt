-- The pass, turn by turn, with its scores in the memory.
use Rattle.std.proofs.Common.{◌≡◌, ℕ, zero, suc, ◌+◌, ◌-◌, ◌<◌, ◌≤◌, ◌⊎◌, List, [], ◌∷◌, ◌++◌, map, length, get_or, take, drop, set, sym, refl, ap, ◌∙◌, subst, inl, inr, ⊎_elim, add-one, arith}
use Rattle.std.proofs.lemmas.List.{drop_more, length-drop, get_or-drop, take_more_set, map-append, length-set}
use Rattle.rules.specs.Literals.{Partial, Extends, free}
use Rattle.stores.specs.Stores.{Store}
use Rattle.stack.specs.declared.kinds.Record.{Record}
use Rattle.closing.specs.Closing.{clash, closes, close}
use Rattle.lookahead.specs.Trials.{Ranking, Scored, Pass, dead, alive, onward, turn_of, pass, lookahead}
use Rattle.lookahead.specs.Answers.{noted}

-- ---- fewer variables are free in what extends a partial
free_byte : (x y a b : ℕ) (p q : List ℕ) → (x ≡ 0) ⊎ (x ≡ y) → free q ≤ free p → free (y ∷ q) ≤ free (x ∷ p)
free_byte zero zero a b p q h e = omega arith
free_byte zero (suc y) a b p q h e = omega arith
free_byte (suc x) zero a b p q (inl h) e = absurd (omega arith)
free_byte (suc x) zero a b p q (inr h) e = absurd (omega arith)
free_byte (suc x) (suc y) a b p q h e = e

pub free_mono : (p q : List ℕ) → length q ≡ length p → Extends q p → free q ≤ free p
free_mono [] [] e h = omega arith
free_mono [] (y ∷ q) e h = absurd (omega arith)
free_mono (x ∷ p) [] e h = absurd (omega arith)
free_mono (x ∷ p) (y ∷ q) e h = free_byte x y 0 0 p q (h 0) (free_mono p q (omega arith) (λ i. h (suc i)))

free_drop : (p q : List ℕ) (j : ℕ) → length q ≡ length p → Extends q p → free (drop j q) ≤ free (drop j p)
free_drop p q j e h =
    let long : length (drop j q) ≡ length (drop j p) = omega (arith, length-drop j q, length-drop j p) in
    free_mono (drop j p) (drop j q) long
    (λ i. ⊎_elim (λ f. inl (get_or-drop j p i 0 ∙ f)) (λ f. inr (get_or-drop j p i 0 ∙ f ∙ sym (get_or-drop j q i 0))) (h (j + i)))

free_one : (x : ℕ) (u : List ℕ) → x ≡ 0 → free (x ∷ u) ≡ suc (free u)
free_one zero u e = refl
free_one (suc x) u e = absurd (omega arith)

free_less : (x : ℕ) (u : List ℕ) → free u ≤ free (x ∷ u)
free_less zero u = omega arith
free_less (suc x) u = omega arith

module _ (p : List ℕ) (i : ℕ) (h : i < length p) where
  free_here : get_or p i 0 ≡ 0 → free (drop i p) ≡ suc (free (drop (i + 1) p))
  free_here e = ap free (drop_more p i 0 h) ∙ free_one (get_or p i 0) (drop (i + 1) p) e

  free_later : free (drop (i + 1) p) ≤ free (drop i p)
  free_later = subst (λ u. free (drop (i + 1) p) ≤ free u) (sym (drop_more p i 0 h)) (free_less (get_or p i 0) (drop (i + 1) p))

-- ---- the turns
-- Before the turn of place i, k variables are scored: the pass from q is the one from here, and there is room for all
-- that may still come.
pub record Passing (s : Store) (rank : Ranking) (q : List ℕ) (places : ℕ) (p : List ℕ) (notes : List Record) (i k : ℕ) : Type 0 where
  pub fits : Partial s.n p
  pub goes : pass s rank s.n 0 q [] ≡ pass s rank (s.n - i) i p (map noted (take k notes))
  pub notes_room : k + free (drop i p) ≤ length notes
  pub places_room : free p ≤ places

module _ (s : Store) (rank : Ranking) (q : List ℕ) (places : ℕ) where
  pub passing_starts : (notes : List Record) → Partial s.n q → free q ≤ length notes → free q ≤ places → Passing s rank q places q notes 0 0
  passing_starts notes fit h k =
      let z : s.n - 0 ≡ s.n = omega arith in
      record { fits = fit; goes = ap (λ m. pass s rank m 0 q []) (sym z); notes_room = omega arith; places_room = k }

  module _ (p : List ℕ) (notes : List Record) (i k : ℕ) (high : i < s.n) (w : Passing s rank q places p notes i k) where
    abbrev scores : List Scored
    scores = map noted (take k notes)

    abbrev go : List ℕ → List Scored → Pass
    go = pass s rank (s.n - (i + 1)) (i + 1)

    low : i < length p
    low = omega (arith, w.fits.long)

    -- the pass from here is this place's turn, and then the rest
    one_turn : pass s rank s.n 0 q [] ≡ turn_of s rank go p i scores (get_or p i 0)
    unfolding pass
    one_turn =
        let e : s.n - i ≡ suc (s.n - (i + 1)) = omega arith in
        w.goes ∙ ap (λ m. pass s rank m i p scores) e ∙ ap (λ j. turn_of s rank (pass s rank (s.n - (i + 1)) j) p i scores (get_or p i 0)) (sym (add-one i))

    set_turn : (b : ℕ) → (b ≡ 0 → ⊥) → turn_of s rank go p i scores b ≡ go p scores
    set_turn zero h = absurd (h refl)
    set_turn (suc b) h = refl

    pub passing_set : (get_or p i 0 ≡ 0 → ⊥) → Passing s rank q places p notes (i + 1) k
    passing_set h =
        let f = free_later p i low in
        let r = w.notes_room in
        record { fits = w.fits; goes = one_turn ∙ set_turn (get_or p i 0) h; notes_room = omega arith; places_room = w.places_room }

    module _ (e : get_or p i 0 ≡ 0) where
      this_turn : pass s rank s.n 0 q [] ≡ turn_of s rank go p i scores 0
      this_turn = one_turn ∙ ap (turn_of s rank go p i scores) e

      pub note_room : k < length notes
      note_room = let f = free_here p i low e in let r = w.notes_room in omega arith

      pub passing_dead : turn_of s rank go p i scores 0 ≡ dead → pass s rank s.n 0 q [] ≡ dead
      passing_dead f = this_turn ∙ f

      module _ (t : List ℕ) (fit : Partial s.n t) (adds : Extends t p) where
        same_long : length t ≡ length p
        same_long = fit.long ∙ sym w.fits.long

        fewer : suc (free (drop (i + 1) t)) ≤ free (drop i p)
        fewer = let f = free_here p i low e in let m = free_drop p t (i + 1) same_long adds in omega arith

        few_places : free t ≤ places
        few_places = let m = free_mono p t same_long adds in let r = w.places_room in omega arith

        pub passing_kept : turn_of s rank go p i scores 0 ≡ go t scores → Passing s rank q places t notes (i + 1) k
        passing_kept f =
            let m = fewer in
            let r = w.notes_room in
            record { fits = fit; goes = this_turn ∙ f; notes_room = omega arith; places_room = few_places }

        pub passing_ranked : (r : Record) (x : Scored) → noted r ≡ x → turn_of s rank go p i scores 0 ≡ go t (scores ++ (x ∷ [])) → Passing s rank q places t (set notes k r) (i + 1) (k + 1)
        passing_ranked r x d f =
            let m = fewer in
            let h = w.notes_room in
            let long = length-set notes k r in
            let more : map noted (take (k + 1) (set notes k r)) ≡ scores ++ (x ∷ []) =
            ap (map noted) (take_more_set notes k r note_room) ∙ map-append noted (take k notes) (r ∷ []) ∙ ap (λ y. scores ++ (y ∷ [])) d
            in
            record { fits = fit; goes = this_turn ∙ f ∙ ap (go t) (sym more); notes_room = omega arith; places_room = few_places }

  pub passing_ends : (p : List ℕ) (notes : List Record) (i k : ℕ) → s.n ≤ i → Passing s rank q places p notes i k → pass s rank s.n 0 q [] ≡ alive p (map noted (take k notes))
  unfolding pass
  passing_ends p notes i k h w = let e : s.n - i ≡ 0 = omega arith in w.goes ∙ ap (λ m. pass s rank m i p (map noted (take k notes))) e

-- the same of values that are equal
pub moved :
    (s : Store) (rank : Ranking) (q : List ℕ) (places i : ℕ) (p : List ℕ) (notes : List Record) (k : ℕ) (u : List ℕ) (more : List Record) (j : ℕ) →
    p ≡ u → notes ≡ more → k ≡ j → Passing s rank q places u more i j → Passing s rank q places p notes i k
moved s rank q places i p notes k u more j e f h w =
    subst (λ v. Passing s rank q places v notes i k) (sym e) (subst (λ v. Passing s rank q places u v i k) (sym f) (subst (λ v. Passing s rank q places u more i v) (sym h) w))

-- ---- the whole
module _ (s : Store) (rank : Ranking) (p : List ℕ) where
  pub looks_clash : close s p ≡ clash → lookahead s rank p ≡ dead
  unfolding lookahead
  looks_clash e = ap (onward (λ q. pass s rank s.n 0 q [])) e

  pub looks_on : (q : List ℕ) → close s p ≡ closes q → lookahead s rank p ≡ pass s rank s.n 0 q []
  unfolding lookahead
  looks_on q e = ap (onward (λ u. pass s rank s.n 0 u [])) e
