use Rattle.std.proofs.Common.{◌∙◌, map, sym, arith, rules}
use Rattle.std.specs.List.{zip}
use Rattle.std.proofs.lemmas.Iterator.{YieldsList-from_zip, YieldsList-from_map}
use Rattle.std.proofs.lemmas.Iterator.Consumers.{YieldsList-from_first, YieldsList-at, sum_by_from_yields_List, fits_by_from_yields_list}
use Rattle.stores.specs.declared.look.Look.{Look}
use Rattle.stores.specs.Walks.{gain_of}
use Rattle.stores.proofs.Walks.{gain_few}
use Rattle.meaning.specs.Listed.{look_at, listed}
use Rattle.meaning.specs.Tables.{parts}
use Rattle.meaning.proofs.Tables.{opened_rules}
use Rattle.tables.specs.Looks.{looks_left}
use Rattle.tables.proofs.Lists.{gain_all}
use Rattle.tables.proofs.looks.TableRules.gain.Goals as goal

pub sum-requires-clause-fits : goal.sum-requires-clause-fits
sum-requires-clause-fits c =
    let s = c.args.self.now in
    let p = c.args.before.now in
    let q = c.args.side.now in
    let few = (opened_rules s.vars s.table.now s.sound).few_rules in
    let all = gain_all s.kind s.vars (parts s.table.now) p q in
    let low = gain_few (listed s.kind s.vars (parts s.table.now)) p q in
    fits_by_from_yields_list (λ (v : Look × Look). gain_of v.0 v.1) (zip (map (look_at s.kind p) (parts s.table.now)) (map (look_at s.kind q) (parts s.table.now))) c.map.result 4294967296
    (YieldsList-from_map _ (λ (v : Look × Look). gain_of v.0 v.1)
    (YieldsList-at c.map.ensures.source (YieldsList-from_zip (YieldsList-at c.zip.ensures.first (YieldsList-from_first (λ v. v) looks_left _ c.looks.ensures)) (YieldsList-at c.zip.ensures.second (YieldsList-from_first (λ v. v) looks_left _ c.looks-2.ensures))))
    c.map.ensures.closure (λ x r f k. search rules))
    (omega arith)

pub returns : goal.returns
returns c =
    let s = c.args.self.now in
    let p = c.args.before.now in
    let q = c.args.side.now in
    sum_by_from_yields_List (λ (v : Look × Look). gain_of v.0 v.1) (zip (map (look_at s.kind p) (parts s.table.now)) (map (look_at s.kind q) (parts s.table.now))) c.map.result c.sum.result c.sum.ensures.ran
    (YieldsList-from_map _ (λ (v : Look × Look). gain_of v.0 v.1)
    (YieldsList-at c.map.ensures.source (YieldsList-from_zip (YieldsList-at c.zip.ensures.first (YieldsList-from_first (λ v. v) looks_left _ c.looks.ensures)) (YieldsList-at c.zip.ensures.second (YieldsList-from_first (λ v. v) looks_left _ c.looks-2.ensures))))
    c.map.ensures.closure (λ x r f k. search rules))
    ∙ sym (gain_all s.kind s.vars (parts s.table.now) p q)
