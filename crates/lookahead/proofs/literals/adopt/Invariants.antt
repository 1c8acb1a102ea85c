use Rattle.std.proofs.Common.{◌≡◌, drop}
use Rattle.lookahead.specs.Answers.{set_all}
use Rattle.lookahead.proofs.literals.adopt.Given as goal

-- what is left to set gives the whole
abbrev pub invariant-loop-literal : goal.invariant-loop-literal
invariant-loop-literal l = set_all l.partial (drop l.literal-index l.literals) ≡ set_all l.initial.partial l.literals
