use Rattle.std.proofs.Common.{◌≡◌, map, drop}
use Rattle.lookahead.specs.Nodes.{best, best_from}
use Rattle.lookahead.specs.Answers.{noted, best_note}
use Rattle.lookahead.proofs.choosing.choose.Given as goal

-- what is left to see, from the best so far, gives the best of all
abbrev pub invariant-loop-note : goal.invariant-loop-note
invariant-loop-note l = best_from l.partial (best_note l.top) (map noted (drop l.note-index l.notes)) ≡ best l.partial (map noted l.notes)
