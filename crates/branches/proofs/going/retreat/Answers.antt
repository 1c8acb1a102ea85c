use Rattle.std.proofs.Common.{◌≡◌, ◌+◌, ◌<◌, ◌≤◌, [], ◌∷◌, ◌++◌, length, take, sym, ap, ◌∙◌, subst, arith}
use Rattle.std.proofs.lemmas.Bool.{not-true, not-false}
use Rattle.rules.specs.Literals.{opposite}
use Rattle.stack.specs.Items.{items, sound, size}
use Rattle.branches.proofs.Backs.{retreats_more, retreats_turn, found_fits}
use Rattle.branches.proofs.going.retreat.Goals as goal

pub returns-then-not-r : goal.returns-then-not-r
returns-then-not-r c =
    let waits = c.loop-r.invariant.0 in
    let w = c.loop-r.invariant.1 in
    let trail = items c.args.trail.now in
    let from = c.args.records.now in
    let at = c.loop-r.records in
    let to = c.pop.new.self in
    let r = c.in-Some.r in
    let p = c.in-Some.ensures in
    let off = p.cases.0 in
    let fewer : at.len ≡ to.len + 1 = p.cases.1 in
    let level : size to ≡ size at = ap length p.memory in
    let turned = c.turn_over.ensures in
    record {
      place = λ n few b f.
          let low : r.height < length trail = (found_fits n trail from at to r w off f).tall.0 in
          let inside : at.len ≤ size at = w.whole b in
          let room : to.len < size to = omega arith in
          retreats_turn n trail from at to r (items c.turn_over.new.trail) (items c.turn_over.new.records) few w off (not-true r.second c.if-not-r.true) f
          (turned.trail (subst (λ s. r.height < length (items s)) (sym waits) low)
          ∙ ap (λ s. take r.height (items s) ++ (opposite r.decision ∷ [])) waits)
          (turned.records room);
      whole = λ a b. turned.whole (subst sound (sym waits) a) (p.whole (w.whole b));
      places = (turned.places.0 ∙ ap size waits, turned.places.1 ∙ level ∙ w.places);
    }

pub loop-r-preserved : goal.loop-r-preserved
loop-r-preserved c =
    let p = c.in-Some.ensures in
    let r = c.in-Some.r in (
      c.loop-r.invariant.0,
      retreats_more (items c.args.trail.now) c.args.records.now c.loop-r.records c.pop.new.self r c.loop-r.invariant.1 p.cases.0 p.whole (ap length p.memory) (not-false r.second c.if-not-r.false),
    )
