-- How a list splits at a place.
use Rattle.std.proofs.Math.Seq.{take-add}
use Rattle.std.proofs.lemmas.List.{take_min, drop-set-add}

pub ruleset places = (take_min, take-add, drop-set-add)
