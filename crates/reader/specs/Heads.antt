-- A header as the code holds it.
use Rattle.std.specs.Prelude.{◌≡◌, ℕ, Some, None, Ok, Err, Option, Result}
use Rattle.rules.specs.declared.fault.Fault.{Fault}
use Rattle.rules.specs.declared.fault.Reason.TheVariants.{Header as NoHeader}
use Rattle.reader.specs.declared.parts.Header.{Header}
use Rattle.rules.specs.Faults.{faulty}
use Rattle.reader.specs.Reading.{Head}

-- the header that a line is, or that it is none
abbrev pub HeaderIs : ℕ → Option Head → Result Header Fault → Type 0
HeaderIs at (Some h) (Ok k) = (k.variables ≡ h.variables) × (k.rules ≡ h.rules)
HeaderIs at (Some h) (Err f) = ⊥
HeaderIs at None (Ok k) = ⊥
HeaderIs at None (Err f) = f ≡ faulty NoHeader at
