-- Loans and the book that they are of.
use Rattle.std.specs.Prelude.{◌≡◌, ℕ, List, Some, None, Option}
use Rattle.book.specs.declared.held.Mark.{Mark}
use Rattle.book.specs.declared.held.Mark.TheVariants.{Waiting, Out, Closed}
use Rattle.book.specs.declared.held.Loan.{Loan}
use Rattle.book.specs.Marks.{mark_at}
use Rattle.holder.specs.Tokens.{count_of}

-- how many loans there are of a cube in that state
abbrev pub out_of : Option Mark → ℕ
out_of None = 0
out_of (Some Waiting) = 0
out_of (Some Out) = 1
out_of (Some Closed) = 0

-- of each cube that is out one loan is held, and of no other
abbrev pub Agree : List Mark → List Loan → Type 0
Agree ms ls = (k : ℕ) → count_of k ls ≡ out_of (mark_at ms k)
