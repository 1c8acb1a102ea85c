-- A cube that has a state is in the book.
use Rattle.std.proofs.Common.{◌≡◌, ℕ, ◌<◌, ◌≤◌, List, length, Some, Option, arith}
use Rattle.std.proofs.lemmas.Bool.Decides.{nat_tests}
use Rattle.std.proofs.lemmas.Grind.{common_steps}
use Rattle.book.specs.declared.held.Mark.{Mark}
use Rattle.book.specs.Marks.{mark_at}

pub within : (ms : List Mark) (cube : ℕ) (m : Mark) → ◌≡◌ {A = Option Mark} (Some m) (mark_at ms cube) → (0 < cube) × (cube ≤ length ms)
within ms cube m e = grind (arith, nat_tests, common_steps)
