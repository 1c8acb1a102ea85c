-- What a collection of loans holds, and what taking one out leaves.
use Rattle.std.specs.Prelude.{◌≡◌, ℕ, ◌+◌, ◌<◌, false, cond, List, [], ◌∷◌, ◌++◌, vec_items, vec_len, vec_capacity, ◌==◌}
use Rattle.book.specs.declared.held.Loan.{Loan}
use Rattle.holder.specs.declared.held.Loans.{Loans}
use Rattle.holder.specs.Tokens.{count_of}

-- the loans that are held, the oldest first
abbrev pub loans_of : Loans → List Loan
loans_of h = vec_items h.held

-- one more loan can be kept without a request for memory
abbrev pub has_room : Loans → Type 0
has_room h = vec_len h.held < vec_capacity h.held

-- a loan of the cube was taken out: one less of that cube is held and as many of every other, and it can be kept again
pub record Taken (cube : ℕ) (before after : Loans) (loan : Loan) : Type 0 where
  pub cube_is : loan.cube ≡ cube
  pub fresh : loan.settled ≡ false
  pub counts : (k : ℕ) → count_of k (loans_of before) ≡ cond (cube == k) 1 0 + count_of k (loans_of after)
  pub room : has_room after

-- the newest loan was taken out, and it can be kept again
pub record Popped (before after : Loans) (loan : Loan) : Type 0 where
  pub newest : loans_of before ≡ loans_of after ++ loan ∷ []
  pub fresh : loan.settled ≡ false
  pub room : has_room after
