use Rattle.closing.proofs.Right.{right}
use Rattle.closing.proofs.rounds.try_close.Goals as goal

pub returns-then-not-is_partial-clause-right : goal.returns-then-not-is_partial-clause-right
returns-then-not-is_partial-clause-right g c = right (g.S.Rules.means c.args.store.now) (g.S.Rules.laws.keeps c.args.store.now)
