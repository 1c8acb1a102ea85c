use Rattle.std.proofs.Common.{◌∙◌, rules}
use Rattle.stores.specs.Walks.{find_of}
use Rattle.stores.proofs.Chains.{find_map_from_yields_List, YieldsList-from_first_to}
use Rattle.stores.proofs.Walks.{found_list}
use Rattle.stores.proofs.store.Rules.lowest.Goals as goal

pub returns : goal.returns
returns g c =
    let s = g.Self.Rules.means c.args.self.now in
    find_map_from_yields_List (λ r. find_of (s.look r c.args.partial.now)) _ (λ x o q k. search rules) _ _ _ c.find_map.ensures.ran c.find_map.ensures.runs (YieldsList-from_first_to _ s.m (search rules) (search rules) (search rules))
    ∙ found_list s c.args.partial.now s.m 1
