use Rattle.std.proofs.Common.{◌∙◌}
use Rattle.std.proofs.lemmas.List.{length-set}
use Rattle.reader.proofs.Stamps.{stamped}
use Rattle.reader.proofs.marks.Marks.mark.Goals as goal

pub invariant_of-self : goal.invariant_of-self
invariant_of-self c =
    let s = c.args.self.now in
    record { long = length-set s.stamps c.args.place s.top ∙ s.long; none_later = stamped s.top c.args.place s.stamps s.none_later }
