use Rattle.reader.proofs.Stamps.{raised, marked_none}
use Rattle.reader.proofs.marks.Marks.begin.Goals as goal

pub invariant_of-self : goal.invariant_of-self
invariant_of-self c = let s = c.args.self.now in record { long = s.long; none_later = raised s.top s.stamps s.none_later }

pub returns-clause-none : goal.returns-clause-none
returns-clause-none c = let s = c.args.self.now in marked_none s.top s.stamps s.none_later
