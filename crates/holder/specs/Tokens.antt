-- Lists of loans.
use Rattle.std.specs.Prelude.{ℕ, List, Option, ◌==◌, option_map, count_by, slice_get}
use Rattle.book.specs.declared.held.Loan.{Loan}

-- how many of the loans are of the cube k
abbrev pub count_of : ℕ → List Loan → ℕ
count_of k ls = count_by (λ l. l.cube == k) ls

-- the cube of the loan at a place; none behind the last
abbrev pub cube_at : List Loan → ℕ → Option ℕ
cube_at ls i = option_map (λ l. l.cube) (slice_get ls i)
