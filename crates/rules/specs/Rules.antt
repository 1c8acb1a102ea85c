-- Rules, what satisfies them, and how a table holds them.
use Rattle.std.specs.Prelude.{◌≡◌, Bool, true, false, ◌&&◌, ◌||◌, not, cond, List, [], ◌∷◌, ◌++◌, ℕ, zero, suc, ℤ, pos}
use Rattle.rules.specs.Literals.{place, Literal, is_true, Each}

-- a clause is true in an assignment if one of its literals is
abbrev pub clause_true : List ℕ → List ℤ → Bool
clause_true a [] = false
clause_true a (l ∷ ls) = is_true a l || clause_true a ls

-- how many of the literals are true
abbrev pub true_count : List ℕ → List ℤ → ℕ
true_count a [] = 0
true_count a (l ∷ ls) = cond (is_true a l) (suc (true_count a ls)) (true_count a ls)

abbrev pub is_odd : ℕ → Bool
is_odd zero = false
is_odd (suc k) = not (is_odd k)

-- an odd rule is true if an odd number of its literals is
abbrev pub odd_true : List ℕ → List ℤ → Bool
odd_true a ls = is_odd (true_count a ls)

pub data Rule : Type 0 where
  clause : List ℤ → Rule
  odd : List ℤ → Rule

abbrev pub literals : Rule → List ℤ
literals (clause ls) = ls
literals (odd ls) = ls

-- whether a full assignment satisfies a rule
abbrev pub holds : List ℕ → Rule → Bool
holds a (clause ls) = clause_true a ls
holds a (odd ls) = odd_true a ls

-- and every rule of a list
abbrev pub satisfies : List ℕ → List Rule → Bool
satisfies a [] = true
satisfies a (r ∷ rs) = holds a r && satisfies a rs

-- no two of the literals have one variable
abbrev pub Apart : List ℤ → Type 0
Apart [] = Unit {0}
Apart (l ∷ ls) = Each (λ k. place k ≡ place l → ⊥) ls × Apart ls

-- the literals of a rule over n variables
abbrev pub Fits : ℕ → List ℤ → Type 0
Fits n ls = Each (Literal n) ls × Apart ls

-- the clauses of a list of rules, and its odd rules, each in their order
abbrev pub clauses : List Rule → List (List ℤ)
clauses [] = []
clauses (clause ls ∷ rs) = ls ∷ clauses rs
clauses (odd ls ∷ rs) = clauses rs

abbrev pub odds : List Rule → List (List ℤ)
odds [] = []
odds (clause ls ∷ rs) = odds rs
odds (odd ls ∷ rs) = ls ∷ odds rs

-- a table holds each rule's literals followed by a 0
abbrev pub numbers : List (List ℤ) → List ℤ
numbers [] = []
numbers (ls ∷ rs) = ls ++ (pos 0 ∷ numbers rs)
