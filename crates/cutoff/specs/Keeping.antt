-- A cutoff that is kept.
use Rattle.cutoff.specs.declared.kinds.Cutoff.{Cutoff}
use Rattle.cutoff.specs.declared.keeping.Kept.{Kept}
use Rattle.cutoff.specs.Cutoffs.{cutoff_of}

-- the cutoff that its two fields stand for
abbrev pub kept_cutoff : Kept → Cutoff
kept_cutoff k = cutoff_of k.kind k.bits
