use Rattle.std.proofs.Common.{length}
use Rattle.holder.specs.Held.{loans_of}
use Rattle.holder_tests.proofs.office.Office.close.Given as goal

abbrev pub decreases-loop : goal.decreases-loop
decreases-loop l = length (loans_of l.self.loans)
