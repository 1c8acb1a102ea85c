-- The best of the scored variables: free, with the greatest score, the lowest at a tie.
use Rattle.std.proofs.Common.{◌≡◌, ℕ, zero, suc, ◌<◌, ◌≤◌, Bool, true, false, cond, ltb, List, [], ◌∷◌, get_or, refl, arith}
use mathlib.Core.Option.{Option, none, some}
use Rattle.std.proofs.lemmas.Bool.{ltb-true, ltb-false}
use Rattle.rules.specs.Literals.{place, Literal, Each}
use Rattle.lookahead.specs.Trials.{Scored}
use Rattle.lookahead.specs.Nodes.{better_if, best_from, best}
use Rattle.lookahead.specs.Laws.{Beats}
use Rattle.lookahead.proofs.Scores.{Literals, Rises}

-- x is a literal of n variables that is free in q
pub record OpenAt (n : ℕ) (q : List ℕ) (x : Scored) : Type 0 where
  pub literal : Literal n x.literal
  pub free : get_or q (place x.literal) 0 ≡ 0

abbrev pub BeatsAll : List ℕ → Scored → List Scored → Type 0
BeatsAll q x xs = Each (λ (y : Scored). get_or q (place y.literal) 0 ≡ 0 → Beats x y) xs

-- the best so far stands before place b, and may be decided
abbrev SoFar : ℕ → List ℕ → ℕ → Option Scored → Type 0
SoFar n q b none = Unit {0}
SoFar n q b (some y) = (place y.literal < b) × OpenAt n q y

-- x is not worse than the best so far
abbrev Over : Option Scored → Scored → Type 0
Over none x = Unit {0}
Over (some y) x = Beats x y

abbrev Empty : Option Scored → Type 0
Empty none = Unit {0}
Empty (some y) = ⊥

-- what is so of the best of xs and the best so far: there is none only if there was none and no variable of xs is free
abbrev Chosen : ℕ → List ℕ → Option Scored → List Scored → Option Scored → Type 0
Chosen n q o xs none = Empty o × Each (λ (y : Scored). get_or q (place y.literal) 0 ≡ 0 → ⊥) xs
Chosen n q o xs (some x) = OpenAt n q x × Over o x × BeatsAll q x xs

beats_self : (x : Scored) → Beats x x
beats_self x = (omega arith, λ e. omega arith)

beats_less : (z x y : Scored) → Beats z x → y.score < x.score → Beats z y
beats_less z x y h k = let g = h.0 in (omega arith, λ e. absurd (omega arith))

beats_later : (z y x : Scored) → Beats z y → x.score ≤ y.score → place y.literal < place x.literal → Beats z x
beats_later z y x h k l = let g = h.0 in (omega arith, λ e. let u = h.1 (omega arith) in omega arith)

module _ (n : ℕ) (q : List ℕ) where
  chosen_end : (b : ℕ) (o : Option Scored) → SoFar n q b o → Chosen n q o [] o
  chosen_end b none h = (tt, tt)
  chosen_end b (some y) h = (h.1, beats_self y, tt)

  -- x was taken: there was none, or x has the greater score
  first_taken : (x : Scored) (xs : List Scored) (r : Option Scored) → Chosen n q (some x) xs r → Chosen n q none (x ∷ xs) r
  first_taken x xs none h = absurd h.0
  first_taken x xs (some z) h = (h.0, tt, (λ e. h.1, h.2))

  better_taken : (y x : Scored) (xs : List Scored) → y.score < x.score → (r : Option Scored) → Chosen n q (some x) xs r → Chosen n q (some y) (x ∷ xs) r
  better_taken y x xs l none h = absurd h.0
  better_taken y x xs l (some z) h = (h.0, beats_less z x y h.1 l, (λ e. h.1, h.2))

  -- x was not taken: its score is not greater, or its variable is set
  worse_left : (y x : Scored) (xs : List Scored) → x.score ≤ y.score → place y.literal < place x.literal → (r : Option Scored) → Chosen n q (some y) xs r → Chosen n q (some y) (x ∷ xs) r
  worse_left y x xs l k none h = absurd h.0
  worse_left y x xs l k (some z) h = (h.0, h.1, (λ e. beats_later z y x h.1 l k, h.2))

  set_left : (o : Option Scored) (x : Scored) (xs : List Scored) → (get_or q (place x.literal) 0 ≡ 0 → ⊥) → (r : Option Scored) → Chosen n q o xs r → Chosen n q o (x ∷ xs) r
  set_left o x xs l none h = (h.0, (l, h.1))
  set_left o x xs l (some z) h = (h.0, h.1, (λ e. absurd (l e), h.2))

  so_far_on : (b c : ℕ) → b ≤ c → (o : Option Scored) → SoFar n q b o → SoFar n q c o
  so_far_on b c l none h = tt
  so_far_on b c l (some y) h = (let k = h.0 in omega arith, h.1)

  module _ (x : Scored) (xs : List Scored) (lit : Literal n x.literal) (rest : (o : Option Scored) → SoFar n q (suc (place x.literal)) o → Chosen n q o xs (best_from q o xs)) where
    abbrev After : Option Scored → Option Scored → Type 0
    After o t = Chosen n q o (x ∷ xs) (best_from q t xs)

    taken : get_or q (place x.literal) 0 ≡ 0 → Chosen n q (some x) xs (best_from q (some x) xs)
    taken e = rest (some x) (omega arith, record { literal = lit; free = e })

    compared : (y : Scored) → get_or q (place x.literal) 0 ≡ 0 → place y.literal < place x.literal → OpenAt n q y → (t : Bool) → ltb y.score x.score ≡ t → After (some y) (cond t (some x) (some y))
    compared y e l ok true t = better_taken y x xs (ltb-true y.score x.score t) (best_from q (some x) xs) (taken e)
    compared y e l ok false t =
        worse_left y x xs (ltb-false y.score x.score t) l (best_from q (some y) xs) (rest (some y) (omega arith, ok))

    one : (b : ℕ) → b ≤ place x.literal → (o : Option Scored) → SoFar n q b o → (c : ℕ) → get_or q (place x.literal) 0 ≡ c → After o (better_if c o x)
    one b l none h zero e = first_taken x xs (best_from q (some x) xs) (taken e)
    one b l (some y) h zero e = compared y e (let k = h.0 in omega arith) h.1 (ltb y.score x.score) refl
    one b l o h (suc c) e =
        set_left o x xs (λ u. omega arith) (best_from q o xs) (rest o (so_far_on b (suc (place x.literal)) (omega arith) o h))

  chosen : (b i : ℕ) (xs : List Scored) → Literals n xs → Rises b i xs → (o : Option Scored) → SoFar n q b o → Chosen n q o xs (best_from q o xs)
  chosen b i [] w r o h = chosen_end b o h
  chosen b i (x ∷ xs) w r o h =
      one x xs w.0 (chosen (suc (place x.literal)) i xs w.1 r.1) b r.0 o h (get_or q (place x.literal) 0) refl

  -- what is so of the best of all
  abbrev pub BestMeans : List Scored → Option Scored → Type 0
  BestMeans xs none = Each (λ (y : Scored). get_or q (place y.literal) 0 ≡ 0 → ⊥) xs
  BestMeans xs (some x) = OpenAt n q x × BeatsAll q x xs

  best_by : (xs : List Scored) (r : Option Scored) → Chosen n q none xs r → BestMeans xs r
  best_by xs none h = h.1
  best_by xs (some x) h = (h.0, h.2)

  pub best_means : (i : ℕ) (xs : List Scored) → Literals n xs → Rises 0 i xs → BestMeans xs (best q xs)
  best_means i xs w r = best_by xs (best q xs) (chosen 0 i xs w r none tt)
