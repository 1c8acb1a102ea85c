-- The list of scored variables: their literals, their order, and who is in it.
use Rattle.std.proofs.Common.{◌≡◌, ℕ, suc, ◌<◌, ◌≤◌, Bool, true, false, ◌⊎◌, List, [], ◌∷◌, ◌++◌, refl, inl, inr, arith}
use Rattle.rules.specs.Literals.{place, Literal, Each}
use Rattle.lookahead.specs.Trials.{Rank, literal_of, Scored, scored}

-- each scored literal is one of n variables
abbrev pub Literals : ℕ → List Scored → Type 0
Literals n xs = Each (λ (x : Scored). Literal n x.literal) xs

-- the places rise, from b on and below i
abbrev pub Rises : ℕ → ℕ → List Scored → Type 0
Rises b i [] = b ≤ i
Rises b i (x ∷ xs) = (b ≤ place x.literal) × Rises (suc (place x.literal)) i xs

-- the variable at place j has a score
abbrev pub Listed : ℕ → List Scored → Type 0
Listed j [] = ⊥
Listed j (x ∷ xs) = (place x.literal ≡ j) ⊎ Listed j xs

literal_by : (n i : ℕ) (b : Bool) → i < n → Literal n (literal_of i b)
literal_by n i true h = h
literal_by n i false h = h

pub place_by : (i : ℕ) (b : Bool) → place (literal_of i b) ≡ i
place_by i true = refl
place_by i false = refl

pub scored_literal : (n i : ℕ) (k : Rank) → i < n → Literal n (scored i k).literal
scored_literal n i k h = literal_by n i k.true_first h

pub scored_place : (i : ℕ) (k : Rank) → place (scored i k).literal ≡ i
scored_place i k = place_by i k.true_first

-- ---- one more at the end
pub literals_push : (n : ℕ) (xs : List Scored) (x : Scored) → Literals n xs → Literal n x.literal → Literals n (xs ++ (x ∷ []))
literals_push n [] x h k = (k, tt)
literals_push n (y ∷ xs) x h k = (h.0, literals_push n xs x h.1 k)

pub rises_more : (b i : ℕ) (xs : List Scored) → Rises b i xs → Rises b (suc i) xs
rises_more b i [] h = omega arith
rises_more b i (x ∷ xs) h = (h.0, rises_more (suc (place x.literal)) i xs h.1)

pub rises_push : (b i : ℕ) (xs : List Scored) (x : Scored) → Rises b i xs → place x.literal ≡ i → Rises b (suc i) (xs ++ (x ∷ []))
rises_push b i [] x h e = (omega arith, omega arith)
rises_push b i (y ∷ xs) x h e = (h.0, rises_push (suc (place y.literal)) i xs x h.1 e)

pub listed_more : (j : ℕ) (xs : List Scored) (x : Scored) → Listed j xs → Listed j (xs ++ (x ∷ []))
listed_more j [] x h = absurd h
listed_more j (y ∷ xs) x (inl h) = inl h
listed_more j (y ∷ xs) x (inr h) = inr (listed_more j xs x h)

pub listed_last : (j : ℕ) (xs : List Scored) (x : Scored) → place x.literal ≡ j → Listed j (xs ++ (x ∷ []))
listed_last j [] x h = inl h
listed_last j (y ∷ xs) x h = inr (listed_last j xs x h)

-- not every scored variable stands elsewhere
pub listed_somewhere : (j : ℕ) (xs : List Scored) → Listed j xs → Each (λ (y : Scored). place y.literal ≡ j → ⊥) xs → ⊥
listed_somewhere j [] h k = h
listed_somewhere j (y ∷ xs) (inl h) k = k.0 h
listed_somewhere j (y ∷ xs) (inr h) k = listed_somewhere j xs h k.1
