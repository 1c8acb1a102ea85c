use Rattle.std.proofs.Common.{length, ℤ, sym, ◌∙◌, arith, w32, SFits, rules}
use Rattle.meaning.proofs.Tables.{opened_rules}
use Rattle.tables.specs.Scan.{front}
use Rattle.tables.proofs.Rows.{end_bits, open_range, open_none, none_has}
use Rattle.tables.proofs.Tallies.{scan_starts, scan_last, last_small}
use Rattle.tables.proofs.scan.look_first.Goals as goal

pub loop-literal-init : goal.loop-literal-init
loop-literal-init c = scan_starts _ _ (open_range _ _ c.requires)

pub answer-requires : goal.answer-requires
answer-requires c =
    let z : ℤ = c.in-Some.literal.now in
    let f : SFits w32 z = search rules in
    let l = scan_last c.loop-literal.invariant z c.in-Some.more.now c.in-Some.ensures.cases.0 (end_bits z f c.if-literal-eq0.true) in
    let h = last_small c.args.partial.now (front c.args.table.now) c.loop-literal.tally.last (open_range _ _ c.requires) l in
    let n = (opened_rules (length c.args.partial.now) c.args.table.now c.requires).few_vars in
    omega arith

pub returns : goal.returns
returns c = open_none _ c.args.table.now c.requires (sym c.loop-literal.invariant.ended ∙ none_has c.loop-literal.rest.now c.in_default.ensures.cases)
