-- The number of a refusal, and each answer as its number and its value.
use Rattle.std.proofs.Math.Option.{Option, none, some}
use Rattle.std.specs.Prelude.{ℕ, ℤ, pos, Ok, Err, Result}
use Rattle.rules.specs.declared.fault.Fault.{Fault}
use Rattle.rules.specs.Faults.{number_of as fault_number}
use Rattle.stores.specs.declared.look.Look.{Look}
use Rattle.stores.specs.declared.look.Look.TheVariants.{Settled, Broken, Forces, Open}
use Rattle.stores.specs.declared.look.Refusal.{Refusal}
use Rattle.stores.specs.declared.look.Refusal.TheVariants.{Unfit}

abbrev pub number_of : Refusal → ℕ
number_of Unfit = 18

-- the answers of a look
abbrev pub answer_of : Look → ℕ × ℤ
answer_of Settled = (1, pos 0)
answer_of Broken = (2, pos 0)
answer_of (Forces l) = (3, l)
answer_of (Open k) = (4, pos k)

-- the answer, or the refusal's number
abbrev pub reply_of : Result Look Refusal → ℕ × ℤ
reply_of (Ok v) = answer_of v
reply_of (Err e) = (number_of e, pos 0)

-- what a check says: nothing, or the number and the place of what it refuses
abbrev pub fault_of : Result (Unit {0}) Fault → Option (ℕ × ℕ)
fault_of (Ok u) = none
fault_of (Err e) = some (fault_number e.reason, e.place)
