-- Which variables a rule has named so far, kept as a stamp for each variable.
use Rattle.std.specs.Prelude.{◌≡◌, ℕ, ◌<◌, Bool, true, false, ◌&&◌, ◌||◌, List, [], ◌∷◌, ◌++◌, ℤ, Some, None, Ok, Err, Option, Result, ◌==◌, nat_le, slice_index}
use Rattle.rules.specs.declared.fault.Fault.{Fault}
use Rattle.rules.specs.Literals.{place}
use Rattle.reader.specs.Reading.{Said, wrong, gives, ends}

-- no stamp is above the newest
abbrev pub none_above : ℕ → List ℕ → Bool
none_above top [] = true
none_above top (s ∷ ss) = nat_le s top && none_above top ss

-- a variable with this place is among those of the literals
abbrev pub has_place : ℕ → List ℤ → Bool
has_place i [] = false
has_place i (l ∷ ls) = place l == i || has_place i ls

-- the variables with the newest stamp are those of the literals
pub record Marked (stamps : List ℕ) (top : ℕ) (ls : List ℤ) : Type 0 where
  pub told : (i : ℕ) → i < 2048 → (slice_index stamps i == top) ≡ has_place i ls

-- a literal that was read, or none at a rule's end, or what is wrong with the word
abbrev pub said_by : Result (Option ℤ) Fault → Said
said_by (Ok None) = ends
said_by (Ok (Some z)) = gives z
said_by (Err f) = wrong f.reason

-- the literals after it
abbrev pub grown : List ℤ → Option ℤ → List ℤ
grown ls None = ls
grown ls (Some z) = ls ++ (z ∷ [])
