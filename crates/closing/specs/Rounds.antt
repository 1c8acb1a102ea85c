-- One round of a closing.
use Rattle.std.specs.Prelude.{◌≡◌, ℕ, ◌<◌, Bool, true, false, List, Some, None, Option, Ok, Err, Result}
use Rattle.rules.specs.Literals.{free}
use Rattle.stores.specs.declared.look.Find.{Find}
use Rattle.stores.specs.declared.look.Find.TheVariants.{Clash, Force}
use Rattle.stores.specs.Stores.{Store}
use Rattle.closing.specs.Closing.{clash, closes, close, left}
use Rattle.closing.specs.declared.ending.Clash.{Clash as Clashed}

-- the round's answer by what the lowest rule says: whether it forces, or a clash
abbrev pub ends_at : Option Find → Result Bool Clashed
ends_at None = Ok false
ends_at (Some Clash) = Err (record {})
ends_at (Some (Force l)) = Ok true

-- a round from p that leaves q ends the closing of p, or goes on with one that ends alike and has fewer free variables
abbrev pub Went : Store → List ℕ → List ℕ → Result Bool Clashed → Type 0
Went s p q (Ok true) = (close s p ≡ close s q) × (left s p ≡ left s q) × (free q < free p)
Went s p q (Ok false) = (closes q ≡ close s p) × (q ≡ left s p)
Went s p q (Err e) = (clash ≡ close s p) × (q ≡ left s p)
