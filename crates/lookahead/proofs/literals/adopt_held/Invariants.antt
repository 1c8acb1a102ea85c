use Rattle.std.proofs.Common.{◌≡◌, drop}
use Rattle.lookahead.specs.Answers.{set_all, held}
use Rattle.lookahead.proofs.literals.adopt_held.Given as goal

-- what is left to set gives the whole
abbrev pub invariant-loop-l : goal.invariant-loop-l
invariant-loop-l l = set_all l.partial (held l.other (drop l.l-index l.news)) ≡ set_all l.initial.partial (held l.other l.news)
