use Rattle.std.proofs.Common.{◌≡◌, true, rules}
use Rattle.cutoff.specs.Cutoffs.{allowed}
use Rattle.cutoff.specs.Laws.{Eases}
use Rattle.cutoff.proofs.Easing.{eases, easing_range, moves}
use Rattle.cutoff.proofs.kinds.Cutoff.ease.Goals as goal

pub returns-in-Easing : goal.returns-in-Easing
returns-in-Easing c =
    let was = c.args.self.now in
    let by = c.args.factor in
    let θ = c.in-Easing.theta in
    let t = c.scale.result in
    let is = c.in-Easing.is in
    let law : allowed was ≡ true → Eases by θ t = λ h. eases by θ t c.requires (easing_range was θ is h) c.scale.ensures.value c.scale.ensures.range in
    record { value = search rules; range = λ h. (law h).range; law = λ h. moves by was θ t is (law h) }
