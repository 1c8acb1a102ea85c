use Rattle.std.proofs.Common.{◌+◌, ◌<◌, length, set, sym, subst, arith}
use Rattle.lookahead.proofs.Asked.{Filling, filling_ends, filling_more}
use Rattle.lookahead.proofs.choosing.fill.Goals as goal

pub loop-b-preserved : goal.loop-b-preserved
loop-b-preserved c =
    let p = c.args.partial.now in
    let q = c.loop-b.partial in
    let i = c.loop-b.b-index in
    let h : i < length q = omega (arith, c.loop-b.invariant.long, c.loop-b-test.true) in
    subst (λ b. Filling p (set q i b) (i + 1)) (sym c.model_byte.ensures) (filling_more p q i h c.loop-b.invariant)

pub returns : goal.returns
returns c = filling_ends c.args.partial.now c.loop-b.partial c.loop-b.b-index (omega arith) c.loop-b.invariant
