use Rattle.std.proofs.Common.{◌≡◌, rules}
use Rattle.cutoff.specs.Cutoffs.{cuts_at}
use Rattle.cutoff.proofs.Cutting.{cutting}
use Rattle.cutoff.proofs.kinds.Cutoff.cuts.Goals as goal

pub returns-in-Share : goal.returns-in-Share
returns-in-Share c =
    let was = c.args.self.now in
    let n = c.args.n in
    let d = c.args.decisions in
    let s = c.args.set in
    let is : c.passes.result ≡ cuts_at was n d s = search rules in
    record { value = is; law = λ h. rw is (cutting was n d s c.ranges.n.fits c.ranges.decisions.fits c.ranges.set.fits h) }
