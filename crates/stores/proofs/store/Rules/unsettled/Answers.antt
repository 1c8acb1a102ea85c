use Rattle.std.proofs.Common.{not, ◌∙◌, rules}
use Rattle.std.proofs.lemmas.Iterator.Search.{find_from_yields_List}
use Rattle.stores.specs.Walks.{is_settled}
use Rattle.stores.proofs.Chains.{option_same, YieldsList-from_first_to}
use Rattle.stores.proofs.Walks.{unsettled_list}
use Rattle.stores.proofs.store.Rules.unsettled.Goals as goal

pub returns : goal.returns
returns g c =
    let s = g.Self.Rules.means c.args.self.now in
    option_same c.find.result
    ∙ find_from_yields_List (λ r. not (is_settled (s.look r c.args.partial.now))) _ _ c.find.result c.find.ensures.ran (YieldsList-from_first_to _ s.m (search rules) (search rules) (search rules)) (λ x b q k. search rules)
    ∙ unsettled_list s c.args.partial.now s.m 1
