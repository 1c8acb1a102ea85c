use Rattle.std.proofs.Common.{◌≡◌, suc, ◌+◌, true, false, get_or, ℤ, pos, ◌∙◌, arith, w32, SFits, rules}
use Rattle.tables.proofs.Rows.{end_bits, lit_bits}
use Rattle.tables.proofs.Checking.{count_more, count_all}
use Rattle.tables.proofs.opening.count_rules.Goals as goal
use Rattle.tables.proofs.opening.count_rules.Goals.{then-z-eq0, else-z-eq0}

pub loop-z-preserved : goal.loop-z-preserved
loop-z-preserved c =
    let z : ℤ = get_or c.args.table.now c.loop-z.z-index (pos 0) in
    let f : SFits w32 z = search rules in
    elim c.if-z-eq0.branch [
      | then-z-eq0 w ↦ count_more c.loop-z.invariant (omega arith) true (end_bits z f w.if-z-eq0.true) _ (w.rules-is ∙ (let e : c.loop-z.rules + 1 ≡ suc c.loop-z.rules = omega arith in e))
      | else-z-eq0 w ↦ count_more c.loop-z.invariant (omega arith) false (lit_bits z w.if-z-eq0.false) _ w.rules-is
    ]

pub returns : goal.returns
returns c = count_all c.loop-z.invariant (omega arith)
