use Rattle.account.proofs.Piles.{piles}
use Rattle.account.proofs.theorem.piles_right.Goals as goal

pub returns : goal.returns
returns c = piles
