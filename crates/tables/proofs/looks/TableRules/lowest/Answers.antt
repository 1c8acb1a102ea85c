use Rattle.std.proofs.Common.{sym, ◌∙◌, rules}
use Rattle.std.proofs.lemmas.Iterator.Consumers.{YieldsList-from_first}
use Rattle.stores.specs.Walks.{find_of}
use Rattle.stores.proofs.Chains.{find_map_from_yields_List}
use Rattle.meaning.specs.Tables.{parts}
use Rattle.tables.specs.Looks.{looks_left}
use Rattle.tables.proofs.Lists.{found_all}
use Rattle.tables.proofs.looks.TableRules.lowest.Goals as goal

pub returns : goal.returns
returns c =
    let s = c.args.self.now in
    find_map_from_yields_List find_of _ (λ x o q k. search rules) c.find_map.new.self c.find_map.result _ c.find_map.ensures.ran c.find_map.ensures.runs (YieldsList-from_first (λ v. v) looks_left _ c.looks.ensures)
    ∙ sym (found_all s.kind s.vars (parts s.table.now) c.args.partial.now)
