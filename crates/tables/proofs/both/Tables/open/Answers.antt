use Rattle.std.proofs.Common.{sym, ap, ◌∙◌, subst}
use Rattle.stores.specs.Joins.{joins, join_fault}
use Rattle.rules.specs.declared.kind.Kind.TheVariants.{Clause, Odd}
use Rattle.meaning.specs.Listed.{listed}
use Rattle.meaning.specs.Tables.{parts}
use Rattle.meaning.specs.Spelt.{MeansRules}
use Rattle.meaning.proofs.Spelt.{both_open, filled_mean}
use Rattle.tables.specs.Laws.{table_store}
use Rattle.tables.proofs.Opened.{opened_store}
use Rattle.tables.proofs.both.Tables.open.Goals as goal

pub opened-requires : goal.opened-requires
opened-requires c =
    let each = both_open c.args.vars c.args.clauses.now c.args.odds.now c.requires in
    (each.0, each.1)

pub returns : goal.returns
returns c =
    let n = c.args.vars in
    let cs = c.args.clauses.now in
    let os = c.args.odds.now in
    let r = c.opened.result in
    let f = c.opened.ensures.first in
    let g = c.opened.ensures.second in
    let a = opened_store r.clauses Clause c.args.clauses n f.0 f.1.0 f.1.1 in
    let b = opened_store r.odds Odd c.args.odds n g.0 g.1.0 g.1.1 in
    record {
      first = f;
      second = g;
      joined = ap (λ s. join_fault s (table_store r.odds)) a ∙ ap (join_fault (listed Clause n (parts cs))) b ∙ (both_open n cs os c.requires).2;
      means = λ rs h.
          subst (λ s. MeansRules (joins s (table_store r.odds)) n rs) (sym a)
          (subst (λ s. MeansRules (joins (listed Clause n (parts cs)) s) n rs) (sym b) (filled_mean n rs cs os h));
    }
