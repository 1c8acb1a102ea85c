-- Refusals of a text or a table, and the number of each.
use Rattle.std.specs.Prelude.{ℕ}
use Rattle.rules.specs.declared.fault.Fault.{Fault}
use Rattle.rules.specs.declared.fault.Reason.{Reason}
use Rattle.rules.specs.declared.fault.Reason.TheVariants.{Input, Header, Form, Variable, Repeated, Unended, Count, Short, Limits}

abbrev pub number_of : Reason → ℕ
number_of Input = 10
number_of Header = 11
number_of Form = 12
number_of Variable = 13
number_of Repeated = 14
number_of Unended = 15
number_of Count = 16
number_of Short = 17
number_of Limits = 19

abbrev pub faulty : Reason → ℕ → Fault
faulty r at = record { reason = r; place = at }
