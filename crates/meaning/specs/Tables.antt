-- A table of numbers: the rules that it holds, and what is wrong with one that does not open.
use Rattle.std.specs.Prelude.{◌≡◌, ℕ, zero, suc, ◌+◌, ◌-◌, ◌<◌, ◌≤◌, Bool, true, false, cond, ◌&&◌, ◌||◌, ◌⊎◌, List, [], ◌∷◌, ◌++◌, length, take, ℤ, pos, negsuc, ◌==◌, nat_le, nat_lt, slice_index_or, unsigned_abs}
use Rattle.std.proofs.Math.Option.{Option, none, some}
use Rattle.rules.specs.Literals.{Each}
use Rattle.rules.specs.Rules.{Fits, numbers}

-- the 0 that ends a rule
abbrev pub is_end : ℤ → Bool
is_end (pos zero) = true
is_end (pos (suc i)) = false
is_end (negsuc i) = false

-- the rules of a table, each up to its 0
abbrev pub onto : ℤ → List (List ℤ) → List (List ℤ)
onto z [] = (z ∷ []) ∷ []
onto z (ls ∷ rs) = (z ∷ ls) ∷ rs

abbrev pub parts : List ℤ → List (List ℤ)
parts [] = []
parts (z ∷ zs) = cond (is_end z) ([] ∷ parts zs) (onto z (parts zs))

-- whether a number is that of one of m rules
abbrev pub is_rule : ℕ → ℕ → Bool
is_rule m r = nat_le 1 r && nat_le r m

-- where the rule r, numbered from 1, begins: after the numbers of the rules before it
abbrev pub start_of : List (List ℤ) → ℕ → ℕ
start_of rs r = length (numbers (take (r - 1) rs))

-- ---- what is wrong with a table: the number of the refusal, and the index where it is met
-- how many rules the table ends
abbrev pub ends : List ℤ → ℕ
ends [] = 0
ends (z ∷ zs) = cond (is_end z) (suc (ends zs)) (ends zs)

-- whether a literal of the same variable is among these; the variable of a literal is its absolute value
abbrev pub has_var : List ℤ → ℤ → Bool
has_var [] z = false
has_var (y ∷ ys) z = unsigned_abs y == unsigned_abs z || has_var ys z

abbrev pub is_empty : List ℤ → Bool
is_empty [] = true
is_empty (z ∷ zs) = false

-- the first fault from the index `at` on, where `seen` are the literals of its rule so far
abbrev pub fault_from : ℕ → List ℤ → ℕ → List ℤ → Option (ℕ × ℕ)
fault_from n seen at [] = cond (is_empty seen) none (some (15, at))
fault_from n seen at (z ∷ zs) =
    cond (is_end z) (fault_from n [] (at + 1) zs)
    (cond (nat_lt n (unsigned_abs z)) (some (13, at))
    (cond (has_var seen z) (some (14, at))
    (fault_from n (seen ++ (z ∷ [])) (at + 1) zs)))

abbrev pub rule_fault : ℕ → List ℤ → Option (ℕ × ℕ)
rule_fault n t = fault_from n [] 0 t

-- too many variables, or too many rules
abbrev pub beyond : ℕ → List ℤ → Bool
beyond n t = nat_lt 2048 n || nat_lt 16384 (ends t)

-- what opening refuses: counts beyond the limits before all others
abbrev pub open_fault : ℕ → List ℤ → Option (ℕ × ℕ)
open_fault n t = cond (beyond n t) (some (19, 0)) (rule_fault n t)

abbrev pub faultless : Option (ℕ × ℕ) → Bool
faultless none = true
faultless (some x) = false

-- whether a table opens
abbrev pub opens : ℕ → List ℤ → Bool
opens n t = faultless (open_fault n t)

-- the literals of the rule at the index i that stand before it, where `seen` came before the table
abbrev pub since : List ℤ → ℕ → List ℤ → List ℤ
since seen zero t = seen
since seen (suc i) [] = seen
since seen (suc i) (z ∷ zs) = cond (is_end z) (since [] i zs) (since (seen ++ (z ∷ [])) i zs)

-- why a rule is refused with the number k at the index i
abbrev pub Wrong : ℕ → List ℤ → List ℤ → ℕ → ℕ → Type 0
Wrong n seen t k i =
    ((k ≡ 13) × (i < length t) × (n < unsigned_abs (slice_index_or t i (pos 0))))
    ⊎ (((k ≡ 14) × (i < length t) × (has_var (since seen i t) (slice_index_or t i (pos 0)) ≡ true))
    ⊎ ((k ≡ 15) × (i ≡ length t)))

-- ---- the same in the words of the subject
-- A refusal has its reason where it says, and what stands before that index, ended by a 0, has no fault.
pub record FaultsMean (n : ℕ) (t : List ℤ) : Type 0 where
  pub limits : beyond n t ≡ true → open_fault n t ≡ some (19, 0)
  pub reason : (k i : ℕ) → beyond n t ≡ false → open_fault n t ≡ some (k, i) → Wrong n [] t k i
  pub first : (k i : ℕ) → beyond n t ≡ false → open_fault n t ≡ some (k, i) → rule_fault n (take i t ++ (pos 0 ∷ [])) ≡ none

-- A table opens just if it holds rules that fit, within the limits.
pub record HoldsRules (n : ℕ) (t : List ℤ) (rs : List (List ℤ)) : Type 0 where
  pub few_vars : n ≤ 2048
  pub few_rules : length rs ≤ 16384
  pub fit : Each (Fits n) rs
  pub spelt : t ≡ numbers rs

pub record OpensRules (n : ℕ) (t : List ℤ) : Type 0 where
  pub holds : open_fault n t ≡ none → HoldsRules n t (parts t)
  pub opens : (rs : List (List ℤ)) → HoldsRules n t rs → (open_fault n t ≡ none) × (parts t ≡ rs)
