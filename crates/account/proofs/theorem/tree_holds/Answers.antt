use Rattle.account.proofs.Tree.{tree}
use Rattle.account.proofs.theorem.tree_holds.Goals as goal

pub returns : goal.returns
returns g c = tree (g.S.Rules.means c.args.store.now) (g.S.Rules.laws.keeps c.args.store.now)
