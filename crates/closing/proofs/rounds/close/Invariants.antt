use Rattle.std.proofs.Common.{◌≡◌}
use Rattle.rules.specs.Literals.{Partial, free}
use Rattle.closing.specs.Closing.{close, left}
use Rattle.closing.proofs.rounds.close.Given as goal

-- the literals set so far are those that the closing sets first
abbrev pub invariant-loop : goal.invariant-loop
invariant-loop g l =
    let s = g.S.Rules.means l.store in
    Partial s.n l.partial × (close s l.initial.partial ≡ close s l.partial) × (left s l.initial.partial ≡ left s l.partial)

abbrev pub decreases-loop : goal.decreases-loop
decreases-loop g l = free l.partial
