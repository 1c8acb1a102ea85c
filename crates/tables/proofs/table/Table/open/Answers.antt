use Rattle.std.proofs.Common.{sym, ap, ◌∙◌}
use Rattle.meaning.specs.Tables.{faultless}
use Rattle.meaning.proofs.Tables.{opened_count}
use Rattle.tables.proofs.table.Table.open.Goals as goal

pub invariant_of-result : goal.invariant_of-result
invariant_of-result c =
    let o = ap faultless c.requires in
    record { sound = o; counted = opened_count c.args.vars c.args.table.now o ∙ sym c.count_rules.ensures }
