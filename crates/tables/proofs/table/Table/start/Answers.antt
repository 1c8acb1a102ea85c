use Rattle.std.proofs.Common.{◌+◌, ◌≤◌, length, refl, arith, rules}
use Rattle.tables.proofs.Places.{starts_within, at_has, at_next}
use Rattle.tables.proofs.table.Table.start.Goals as goal

pub loop-k-init : goal.loop-k-init
loop-k-init c = (refl, omega arith)

pub first_rule-requires : goal.first_rule-requires
first_rule-requires c =
    let s = c.args.self.now in
    at_has s.vars s.table.now s.sound c.loop-k._k c.loop-k.auto._k (omega (arith, s.counted, c.requires.1)) c.loop-k.at c.loop-k.invariant.0

pub overflow_add-at-in-loop-k : goal.overflow_add-at-in-loop-k
overflow_add-at-in-loop-k c =
    let s = c.args.self.now in
    let e = at_next s.vars s.table.now s.sound c.loop-k._k c.loop-k.auto._k (omega (arith, s.counted, c.requires.1)) c.loop-k.at c.loop-k.invariant.0 _ c.first_rule.ensures.value in
    let w = starts_within s.vars s.table.now s.sound (c.loop-k._k + 1) in
    let h : c.loop-k.at + (length c.first_rule.result.now + 1) ≤ length s.table.now = omega arith in
    search rules

pub loop-k-preserved : goal.loop-k-preserved
loop-k-preserved c =
    let s = c.args.self.now in
    let e = at_next s.vars s.table.now s.sound c.loop-k._k c.loop-k.auto._k (omega (arith, s.counted, c.requires.1)) c.loop-k.at c.loop-k.invariant.0 _ c.first_rule.ensures.value in
    let w = starts_within s.vars s.table.now s.sound (c.loop-k._k + 1) in
    (omega arith, omega arith)
