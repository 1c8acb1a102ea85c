use Rattle.std.proofs.Common.{sym, subst}
use Rattle.reader.proofs.Walks.{Skipped, skipped_more}
use Rattle.reader.proofs.words.Reader.skip_gap.Goals as goal

pub loop-self-preserved : goal.loop-self-preserved
loop-self-preserved c =
    let told = c.if-not-skips.ensures in
    (c.loop-self.invariant.0, subst (Skipped _ _ _ _) (sym c.passed-self.ensures) (skipped_more c.loop-self.invariant.1 c.loop-self-test.true (sym told)))
