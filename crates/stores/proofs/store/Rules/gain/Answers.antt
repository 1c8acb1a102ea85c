use Rattle.std.proofs.Common.{◌≡◌, suc, ◌+◌, ◌-◌, arith}
use Rattle.stores.specs.Walks.{gain_of}
use Rattle.stores.proofs.Walks.{gain_more, gain_end}
use Rattle.stores.proofs.store.Rules.gain.Goals as goal

pub loop-rule-preserved : goal.loop-rule-preserved
loop-rule-preserved g c =
    let s = g.Self.Rules.means c.args.self.now in
    let e = gain_more s c.args.before.now c.args.side.now s.m c.loop-rule.rule (omega (arith, c.rules-rule-end.ensures)) in
    let one : c.gain_of-total.result ≡ gain_of (s.look c.loop-rule.rule c.args.before.now) (s.look c.loop-rule.rule c.args.side.now) = cc (c.gain_of-total.ensures.value, c.seen.ensures, c.seen-in-loop-rule.ensures) in
    (omega (arith, e, one, c.loop-rule.invariant.0), omega (arith, c.loop-rule.invariant.1, c.gain_of-total.ensures.bound))

pub returns : goal.returns
returns g c =
    let s = g.Self.Rules.means c.args.self.now in
    let e = gain_end s c.args.before.now c.args.side.now (suc s.m - c.loop-rule.rule) c.loop-rule.rule (omega (arith, c.rules-rule-end.ensures)) in
    omega (arith, e, c.loop-rule.invariant.0)

pub returns-2 : goal.returns-2
returns-2 g c =
    let s = g.Self.Rules.means c.args.self.now in
    let r = c.loop-rule.rule in
    let e = gain_more s c.args.before.now c.args.side.now s.m r (omega (arith, c.rules-rule-end.ensures)) in
    let z = gain_end s c.args.before.now c.args.side.now (suc s.m - (r + 1)) (r + 1) (omega (arith, c.rules-rule-end.ensures)) in
    let one : c.gain_of-total.result ≡ gain_of (s.look r c.args.before.now) (s.look r c.args.side.now) = cc (c.gain_of-total.ensures.value, c.seen.ensures, c.seen-in-loop-rule.ensures) in
    omega (arith, e, z, one, c.loop-rule.invariant.0)
