-- What a stack over lent memory holds.
use Rattle.std.specs.Prelude.{ℕ, ◌≤◌, Bool, cond, List, [], ◌∷◌, ◌++◌, length, take, drop, Ok, Err, Result, nat_lt}
use Rattle.stack.specs.declared.kinds.Refusal.{Refusal}
use Rattle.stack.specs.declared.kinds.Refusal.TheVariants.{Short}
use Rattle.stack.specs.declared.Stack.{Stack}

-- its content, the oldest element first
abbrev pub items : {T : Type 0} → Stack T → List T
items s = take s.len s.cells.now

-- the places after the content
abbrev pub spares : {T : Type 0} → Stack T → List T
spares s = drop s.len s.cells.now

-- how many places were lent
abbrev pub size : {T : Type 0} → Stack T → ℕ
size s = length s.cells.now

-- the content lies within the memory; so it is from the start on, and every call keeps it
abbrev pub sound : {T : Type 0} → Stack T → Type 0
sound s = s.len ≤ size s

-- a place is left
abbrev pub has_room : {T : Type 0} → Stack T → Bool
has_room s = nat_lt s.len (size s)

-- what a push answers and leaves: a full stack hands the element back and stays
abbrev pub push_reply : {T : Type 0} → Bool → T → Result (Unit {0}) T
push_reply b x = cond b (Ok tt) (Err x)

abbrev pub pushed : {T : Type 0} → Bool → List T → T → List T
pushed b xs x = cond b (xs ++ x ∷ []) xs

-- the check before a stack of so many places is made
abbrev pub check_reply : Bool → Result (Unit {0}) Refusal
check_reply b = cond b (Ok tt) (Err Short)

abbrev pub number_of : Refusal → ℕ
number_of Short = 22
