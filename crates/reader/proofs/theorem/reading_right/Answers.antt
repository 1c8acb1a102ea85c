use Rattle.reader.proofs.Spelled.{reading_right}
use Rattle.reader.proofs.theorem.reading_right.Goals as goal

pub returns : goal.returns
returns c = reading_right
