use Rattle.std.proofs.Common.{◌++◌, ◌≤◌, length, sym, ap, ◌∙◌, arith, length-drop}
use Rattle.std.proofs.lemmas.List.{append-nil}
use Rattle.rules.specs.Literals.{free}
use Rattle.stack.specs.Items.{items, spares}
use Rattle.branches.proofs.Backs.{none_new}
use Rattle.branches.proofs.going.take_news.Goals as goal

pub returns-then-from-trail-clause-items : goal.returns-then-from-trail-clause-items
returns-then-from-trail-clause-items c =
    let trail = c.args.trail.now in
    let before = c.args.before.now in
    let few : free before ≤ length (spares trail) = c.requires.1.1 in
    let left = length-drop trail.len trail.cells.now in
    sym (ap (λ u. items trail ++ u) (none_new before c.args.after.now (omega arith)) ∙ append-nil (items trail))
