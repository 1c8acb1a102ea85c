use Rattle.std.proofs.Common.{ℤ, w32, SFits, rules}
use Rattle.tables.proofs.Rows.{end_bits}
use Rattle.tables.proofs.Places.{past_end}
use Rattle.tables.proofs.scan.first_rule.Goals as goal

pub returns-then-number-eq0-clause-value : goal.returns-then-number-eq0-clause-value
returns-then-number-eq0-clause-value c =
    let z : ℤ = c.in-Some.number.now in
    let f : SFits w32 z = search rules in
    past_end c.loop-number.invariant z c.in-Some.more.now c.in-Some.ensures.cases.0 (end_bits z f c.if-number-eq0.true)
