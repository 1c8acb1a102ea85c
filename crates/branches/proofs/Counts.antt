-- How many second sides wait is a count by a test.
use Rattle.std.proofs.Common.{◌≡◌, ℕ, ◌+◌, Bool, true, false, cond, not, List, refl, arith}
use Rattle.std.specs.List.{count_by}
use Rattle.std.proofs.lemmas.List.Recursion.{is_count_by}
use Rattle.stack.specs.declared.kinds.Record.{Record}
use Rattle.branches.specs.Spelled.{unsearched}

side_by : (b : Bool) (n : ℕ) → cond b 0 1 + n ≡ cond (not b) (1 + n) n
side_by true n = omega arith
side_by false n = refl

pub unsearched_counts : (rs : List Record) → unsearched rs ≡ count_by (λ r. not r.second) rs
unsearched_counts = is_count_by unsearched (λ r. not r.second) refl (λ r rs. side_by r.second (unsearched rs))
