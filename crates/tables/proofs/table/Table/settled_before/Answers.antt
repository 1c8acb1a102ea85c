use Rattle.std.proofs.Common.{not, length, inl, ap, ◌∙◌, arith, rules}
use Rattle.std.proofs.lemmas.List.{length-map}
use Rattle.std.proofs.lemmas.Option.{IfSome_then}
use Rattle.std.proofs.lemmas.Iterator.Consumers.{YieldsList-from_first}
use Rattle.std.proofs.lemmas.Iterator.Search.{position_from_yields_List}
use Rattle.stores.specs.Walks.{is_settled}
use Rattle.meaning.specs.Listed.{look_at}
use Rattle.meaning.specs.Tables.{parts}
use Rattle.meaning.proofs.Tables.{opened_rules}
use Rattle.tables.specs.Looks.{looks_left}
use Rattle.tables.proofs.Lists.{place_is, unsettled_all}
use Rattle.tables.proofs.table.Table.settled_before.Goals as goal

pub position-requires-clause-fits : goal.position-requires-clause-fits
position-requires-clause-fits c =
    let s = c.args.self.now in
    let e = ap length c.looks.ensures ∙ length-map (parts s.table.now) (look_at s.kind c.args.partial.now) in
    let few = (opened_rules s.vars s.table.now s.sound).few_rules in
    inl (omega arith)

pub returns-clause-value : goal.returns-clause-value
returns-clause-value c =
    let s = c.args.self.now in
    unsettled_all s.kind s.vars (parts s.table.now) c.args.partial.now
    ∙ place_is _ c.position.result (position_from_yields_List (λ v. not (is_settled v)) c.position.new.self _ c.position.result c.position.ensures.ran (YieldsList-from_first (λ v. v) looks_left _ c.looks.ensures) (λ x b q k. search rules))

pub returns-clause-bound : goal.returns-clause-bound
returns-clause-bound c =
    let s = c.args.self.now in
    let e = ap length c.looks.ensures ∙ length-map (parts s.table.now) (look_at s.kind c.args.partial.now) in
    let few = (opened_rules s.vars s.table.now s.sound).few_rules in
    IfSome_then c.position.result c.position.ensures.bound (λ k p. omega arith)
