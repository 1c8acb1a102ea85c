-- The cubes of a book, their states, and what an event does to one of them.
use Rattle.std.specs.Prelude.{◌≡◌, ℕ, ◌+◌, ◌-◌, Bool, true, false, cond, ◌&&◌, List, [], ◌∷◌, ◌++◌, length, take, drop, Some, None, Ok, Err, Option, Result, nat_le, nat_lt, slice_index_or, slice_set, count_by}
use Rattle.book.specs.declared.held.Mark.{Mark}
use Rattle.book.specs.declared.held.Mark.TheVariants.{Waiting, Out, Closed}
use Rattle.book.specs.declared.held.Event.{Event}
use Rattle.book.specs.declared.held.Event.TheVariants.{Lend, Close, Back}
use Rattle.book.specs.declared.held.Word.{Word}
use Rattle.book.specs.declared.held.Word.TheVariants as word
use Rattle.book.specs.declared.held.Refusal.{Refusal}
use Rattle.book.specs.declared.held.Refusal.TheVariants.{Full, NotWaiting, NotOut}
use Rattle.book.specs.declared.held.Loan.{Loan}
use Rattle.book.specs.declared.held.Book.{Book}

abbrev pub number_of : Refusal → ℕ
number_of Full = 23
number_of NotWaiting = 26
number_of NotOut = 27

-- the states of the cubes in a book, cube 1 first
abbrev pub marks_of : Book → List Mark
marks_of b = take b.count b.marks

-- the rows of the table behind them, which no call but `enter` touches
abbrev pub free_rows : Book → List Mark
free_rows b = drop b.count b.marks

-- the state of a cube by its number; none where there is no such cube
abbrev pub mark_at : List Mark → ℕ → Option Mark
mark_at ms cube = cond (nat_lt 0 cube && nat_le cube (length ms)) (Some (slice_index_or ms (cube - 1) Waiting)) None

-- a state and an event together: the state after it, or none where the pair is refused
abbrev pub moves : Mark → Event → Option Mark
moves Waiting Lend = Some Out
moves Waiting Close = None
moves Waiting Back = None
moves Out Lend = None
moves Out Close = Some Closed
moves Out Back = Some Waiting
moves Closed Lend = None
moves Closed Close = None
moves Closed Back = None

abbrev pub moved_from : Option Mark → Event → Option Mark
moved_from None e = None
moved_from (Some m) e = moves m e

-- what an event makes of a cube, if it is not refused
abbrev pub asked : List Mark → ℕ → Event → Option Mark
asked ms cube e = moved_from (mark_at ms cube) e

-- the states after it: that one entry is changed
abbrev pub changed : List Mark → ℕ → Option Mark → List Mark
changed ms cube None = ms
changed ms cube (Some m) = slice_set ms (cube - 1) m

-- that one entry of a book is changed, and the rows behind the cubes are as they were
pub record ChangesOnly (before after : Book) (cube : ℕ) (next : Option Mark) : Type 0 where
  pub marks : marks_of after ≡ changed (marks_of before) cube next
  pub free : free_rows after ≡ free_rows before

-- the event that a holder's word stands for
abbrev pub event_of : Word → Event
event_of word.Closed = Close
event_of word.Back = Back

-- lending answers a loan of that cube, not yet settled, or 26
abbrev pub lend_reply : Option Mark → ℕ → Result Loan Refusal
lend_reply None cube = Err NotWaiting
lend_reply (Some m) cube = Ok (record { cube = cube; settled = false })

-- settling answers the loan, settled, which may be let go, or 27 with the loan as it was
abbrev pub settle_reply : Option Mark → Loan → Result Loan (Refusal × Loan)
settle_reply None loan = Err (NotOut, loan)
settle_reply (Some m) loan = Ok (record { cube = loan.cube; settled = true })

-- entering answers the new cube's number, or 23 where 4,096 are in the book
abbrev pub enter_reply : ℕ → Result ℕ Refusal
enter_reply count = cond (nat_lt count 4096) (Ok (count + 1)) (Err Full)

abbrev pub entered : List Mark → List Mark
entered ms = cond (nat_lt (length ms) 4096) (ms ++ Waiting ∷ []) ms

abbrev pub same_mark : Mark → Mark → Bool
same_mark Waiting Waiting = true
same_mark Waiting Out = false
same_mark Waiting Closed = false
same_mark Out Waiting = false
same_mark Out Out = true
same_mark Out Closed = false
same_mark Closed Waiting = false
same_mark Closed Out = false
same_mark Closed Closed = true

-- how many cubes are in a state
abbrev pub tally_of : Mark → List Mark → ℕ
tally_of m ms = count_by (λ x. same_mark x m) ms
