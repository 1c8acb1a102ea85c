-- What a turn comes to, by how the closings of its two sides end.
use Rattle.std.proofs.Common.{◌≡◌, ℕ, ◌≤◌, Bool, List, [], ◌∷◌, ◌++◌, get_or, set, ℤ, Ok, Err, Option, Result, sym, refl, ap, ◌∙◌, subst, arith}
use Rattle.rules.specs.Literals.{put, Partial, Extends}
use Rattle.stores.specs.Stores.{Store, Keeps}
use Rattle.stores.specs.Walks.{gained}
use Rattle.closing.specs.Closing.{Closing, clash, closes, close, left, ended}
use Rattle.closing.specs.declared.ending.Clash.{Clash}
use Rattle.closing.proofs.Partials.{put_partial, put_adds, extends_on}
use Rattle.closing.proofs.Right.{right}
use Rattle.lookahead.specs.Trials.{Ranking, Scored, Pass, dead, literal_of, rank_of, most_gain, scored, common, onward, tried, turn_of}
use Rattle.lookahead.specs.declared.kinds.Gains.{Gains}
use Rattle.lookahead.specs.declared.trials.Kept.{Kept}
use Rattle.lookahead.specs.declared.trials.Left.{Left}
use Rattle.lookahead.specs.declared.trials.Left.TheVariants as side
use Rattle.lookahead.specs.Answers.{sides_left, ranked_by, goes_on, set_all}
use Rattle.lookahead.proofs.Bounds.{gained_low}
use Rattle.lookahead.proofs.Scores.{place_by}

abbrev pub Clashes : {A : Type 0} → Result A Clash → Type 0
Clashes a = (q : List ℕ) → clash ≡ ended a q

abbrev pub Closes : {A : Type 0} → Result A Clash → Type 0
Closes a = (q : List ℕ) → closes q ≡ ended a q

-- the sides that are left say how each ended
abbrev pub Ends : Result Left Clash → Result Kept Clash → Result (Unit {0}) Clash → Type 0
Ends (Err e) a b = Clashes a × Clashes b
Ends (Ok side.False) a b = Clashes a × Closes b
Ends (Ok (side.True k)) a b = (a ≡ Ok k) × Clashes b
Ends (Ok (side.Both k)) a b = (a ≡ Ok k) × Closes b

ends_of : (a : Result Kept Clash) (b : Result (Unit {0}) Clash) → Ends (sides_left a b) a b
ends_of (Err e) (Err f) = (λ q. refl, λ q. refl)
ends_of (Err e) (Ok u) = (λ q. refl, λ q. refl)
ends_of (Ok k) (Err f) = (refl, λ q. refl)
ends_of (Ok k) (Ok u) = (refl, λ q. refl)

pub ends_by : (a : Result Kept Clash) (b : Result (Unit {0}) Clash) (l : Result Left Clash) → l ≡ sides_left a b → Ends l a b
ends_by a b l e = subst (λ m. Ends m a b) (sym e) (ends_of a b)

module _ (s : Store) (rank : Ranking) (p : List ℕ) (i : ℕ) (go : List ℕ → List Scored → Pass) (xs : List Scored) where
  abbrev ComesTo : Pass → Type 0
  ComesTo r = turn_of s rank go p i xs 0 ≡ r

  ends_as : (c d : Closing) → c ≡ close s (set p i 1) → d ≡ close s (set p i 2) → ComesTo (tried s rank go p i xs c d)
  ends_as c d e f = ap (λ u. tried s rank go p i xs u (close s (set p i 2))) (sym e) ∙ ap (tried s rank go p i xs c) (sym f)

  pub no_side : clash ≡ close s (set p i 1) → clash ≡ close s (set p i 2) → ComesTo dead
  no_side = ends_as clash clash

  pub false_side : (r : List ℕ) → clash ≡ close s (set p i 1) → closes r ≡ close s (set p i 2) → ComesTo (go r xs)
  false_side r = ends_as clash (closes r)

  pub true_side : (q : List ℕ) → closes q ≡ close s (set p i 1) → clash ≡ close s (set p i 2) → ComesTo (go q xs)
  true_side q = ends_as (closes q) clash

  module _ (q r : List ℕ) (e : closes q ≡ close s (set p i 1)) (f : closes r ≡ close s (set p i 2)) where
    abbrev onto : List ℕ → Pass
    onto t = go t (xs ++ (scored i (rank p q r) ∷ []))

    -- both sides are left: by how closing what they share ends
    pub shared_clashes : clash ≡ close s (common p q r) → ComesTo dead
    shared_clashes h = ends_as (closes q) (closes r) e f ∙ ap (onward onto) (sym h)

    pub shared_closes : (t : List ℕ) → closes t ≡ close s (common p q r) → (k m : ℕ) → rank p q r ≡ rank_of k m → ComesTo (go t (xs ++ (scored i (rank_of k m) ∷ [])))
    shared_closes t h k m y = ends_as (closes q) (closes r) e f ∙ ap (onward onto) (sym h) ∙ ap (λ n. go t (xs ++ (scored i n ∷ []))) y

    by_shared : (c : Result (Unit {0}) Clash) (t : List ℕ) → ended c t ≡ close s (common p q r) → (g : Gains) → rank p q r ≡ rank_of g.yes g.no → ComesTo (goes_on (ranked_by c g) go t i xs)
    by_shared (Err e) t h g y = shared_clashes h
    by_shared (Ok u) t h g y = shared_closes t h g.yes g.no y

    pub both_sides :
        (c : Result (Unit {0}) Clash) (t : List ℕ) → ended c t ≡ close s (common p q r) → (g : Gains) (o : Result (Option Gains) Clash) → o ≡ ranked_by c g → rank p q r ≡ rank_of g.yes g.no → ComesTo (goes_on o go t i xs)
    both_sides c t h g o x y = by_shared c t h g y ∙ ap (λ u. goes_on u go t i xs) (sym x)

-- ---- what closings add
pub set_all_fits : (n : ℕ) (p : List ℕ) (ls : List ℤ) → Partial n p → Partial n (set_all p ls)
set_all_fits n p [] fit = fit
set_all_fits n p (l ∷ ls) fit = set_all_fits n (put p l) ls (put_partial n p l fit)

module _ (s : Store) (keep : Keeps s) where
  -- closing u, which extends p, leaves what extends p
  pub closes_more : (p u v : List ℕ) → Partial s.n u → Extends u p → v ≡ left s u → Extends v p
  closes_more p u v fit adds leaves = extends_on v u p (subst (λ w. Extends w u) (sym leaves) ((right s keep).left_sets_free u fit)) adds

  pub side_adds : (p : List ℕ) (i : ℕ) (b : Bool) (q : List ℕ) → Partial s.n p → get_or p i 0 ≡ 0 → q ≡ left s (put p (literal_of i b)) → Extends q p
  side_adds p i b q fit free =
      let l = literal_of i b in
      closes_more p (put p l) q (put_partial s.n p l fit) (put_adds p l (ap (λ j. get_or p j 0) (place_by i b) ∙ free))

-- a gain is at most 1,000 for each of 16,384 rules
pub gain_low : (s : Store) → s.m ≤ 16384 → (p q : List ℕ) (k : ℕ) → k ≡ gained s p q → k ≤ most_gain
gain_low s few p q k e = omega (arith, gained_low s p q)
