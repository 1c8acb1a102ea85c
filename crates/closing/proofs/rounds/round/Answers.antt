use Rattle.std.proofs.Common.{◌≡◌, true, None, Some, Ok, sym, ap, ◌∙◌, subst, w32, SFits, rules}
use Rattle.std.proofs.lemmas.Int.{to_z-of_z}
use Rattle.rules.specs.Literals.{put}
use Rattle.stores.specs.declared.look.Find.TheVariants.{Clash, Force}
use Rattle.closing.specs.Rounds.{Went}
use Rattle.closing.proofs.Ends.{went}
use Rattle.closing.proofs.Right.{right}
use Rattle.closing.proofs.rounds.round.Goals as goal

pub returns-in-None-clause-goes : goal.returns-in-None-clause-goes
returns-in-None-clause-goes g c = went (g.S.Rules.means c.args.store.now) (g.S.Rules.laws.keeps c.args.store.now) c.args.partial.now c.requires None c.in-None.ensures

pub returns-in-None-clause-right : goal.returns-in-None-clause-right
returns-in-None-clause-right g c = right (g.S.Rules.means c.args.store.now) (g.S.Rules.laws.keeps c.args.store.now)

pub returns-in-Some-Clash-clause-goes : goal.returns-in-Some-Clash-clause-goes
returns-in-Some-Clash-clause-goes g c =
    went (g.S.Rules.means c.args.store.now) (g.S.Rules.laws.keeps c.args.store.now) c.args.partial.now c.requires (Some Clash) (cc c.in-Some-Clash.ensures)

pub returns-in-Some-Clash-clause-right : goal.returns-in-Some-Clash-clause-right
returns-in-Some-Clash-clause-right g c = right (g.S.Rules.means c.args.store.now) (g.S.Rules.laws.keeps c.args.store.now)

pub returns-in-Some-Force-clause-goes : goal.returns-in-Some-Force-clause-goes
returns-in-Some-Force-clause-goes g c =
    let s = g.S.Rules.means c.args.store.now in
    let keep = g.S.Rules.laws.keeps c.args.store.now in
    let p = c.args.partial.now in
    let l = c.in-Some-Force.l in
    let fit : SFits w32 l = search rules in
    let q : c.assign.new.assignment ≡ put p l = c.assign.ensures ∙ ap (put p) (to_z-of_z w32 l fit) in
    subst (λ u. Went s p u (Ok true)) (sym q) (went s keep p c.requires (Some (Force l)) (cc c.in-Some-Force.ensures))

pub returns-in-Some-Force-clause-right : goal.returns-in-Some-Force-clause-right
returns-in-Some-Force-clause-right g c = right (g.S.Rules.means c.args.store.now) (g.S.Rules.laws.keeps c.args.store.now)
