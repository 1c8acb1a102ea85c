use Rattle.std.proofs.Common.{◌≡◌, length, sym, subst, rules}
use Rattle.rules.specs.Literals.{Partial}
use Rattle.account.specs.Piles.{partial_of}
use Rattle.account.proofs.Trails.{partial_fits}
use Rattle.branches.proofs.filling.fill_partial.Goals as goal

pub returns-clause-fit : goal.returns-clause-fit
returns-clause-fit c =
    let n = length c.args.partial.now in
    let e : c.adopt.new.partial ≡ partial_of n c.args.trail.now = search rules in
    subst (Partial n) (sym e) (partial_fits n c.args.trail.now)
