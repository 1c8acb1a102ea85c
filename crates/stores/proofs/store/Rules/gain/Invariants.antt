use Rattle.std.proofs.Common.{◌≡◌, suc, ◌+◌, ◌-◌, ◌*◌, ◌≤◌}
use Rattle.stores.specs.Walks.{gain_from, gained}
use Rattle.stores.proofs.store.Rules.gain.Given as goal

-- what the rules before this one give
abbrev pub invariant-loop-rule : goal.invariant-loop-rule
invariant-loop-rule g l =
    let s = g.Self.Rules.means l.self in
    (gained s l.before l.side ≡ l.total + gain_from s l.before l.side (suc s.m - l.rule) l.rule) × (l.total + 1000 ≤ 1000 * l.rule)
