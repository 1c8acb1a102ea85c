-- Entries as signed numbers: the kind (1 cube, 2 learnt), the count of the literals and the literals.
use Rattle.std.specs.Prelude.{◌≡◌, ℕ, ◌+◌, Bool, ◌&&◌, List, ◌∷◌, length, ℤ, pos, flat_map, nat_le}
use Rattle.outlet.specs.declared.numbers.NumberOutlet.{NumberOutlet}
use Rattle.outlet.specs.Entries.{Entry, cube, learnt, literals}
use Rattle.stack.specs.Items.{items}
use Rattle.outlet.specs.Memory.{Kept}

abbrev pub entry_numbers : Entry → List ℤ
entry_numbers (cube ls) = pos 1 ∷ pos (length ls) ∷ ls
entry_numbers (learnt ls) = pos 2 ∷ pos (length ls) ∷ ls

abbrev pub numbers : List Entry → List ℤ
numbers = flat_map entry_numbers

-- at most 2,048 literals, and places for kind, count and literals are left
abbrev pub room_for : ℕ → ℕ → ℕ → Bool
room_for size used count = nat_le count 2048 && nat_le (used + 2 + count) size

abbrev pub numbers_fit : ℕ → List Entry → Entry → Bool
numbers_fit size es e = room_for size (length (numbers es)) (length (literals e))

-- the entries' numbers are the written part of the memory
pub record HoldsNumbers (o : NumberOutlet) (es : List Entry) : Type 0 where
  pub held : items o.numbers ≡ numbers es

-- a put writes into the same memory, behind what was written
abbrev pub KeepsNumbers : NumberOutlet → NumberOutlet → Type 0
KeepsNumbers o p = Kept o.numbers p.numbers
