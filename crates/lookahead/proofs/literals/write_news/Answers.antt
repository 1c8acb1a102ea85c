use Rattle.std.proofs.Common.{◌+◌, ◌≤◌, length, set, sym, refl, ap, ◌∙◌, subst, arith, w32, SFits, rules}
use Rattle.std.proofs.lemmas.Int.{to_z-of_z}
use Rattle.std.proofs.lemmas.List.{length-take-le}
use Rattle.rules.specs.Literals.{Literal, Each}
use Rattle.lookahead.proofs.Sides.{news_literals}
use Rattle.lookahead.proofs.News.{Writing, writing_starts, writing_none, writing_some, writing_room, writing_ends}
use Rattle.lookahead.proofs.literals.write_news.Goals as goal
use Rattle.lookahead.proofs.literals.write_news.Goals.{in-Some, in_default}

pub loop-i-init : goal.loop-i-init
loop-i-init c = writing_starts c.args.before.now c.args.after.now c.args.places.now c.requires.1.1

pub bounds-places-k : goal.bounds-places-k
bounds-places-k c =
    writing_room c.args.before.now c.args.after.now c.loop-i.places c.loop-i.i c.loop-i.k c.loop-i-test.true c.requires.0 c.loop-i.invariant c.in-Some.l (sym c.in-Some.ensures)

pub loop-i-preserved : goal.loop-i-preserved
loop-i-preserved c =
    let p = c.args.before.now in
    let q = c.args.after.now in
    let i = c.loop-i.i in
    let k = c.loop-i.k in
    let cells = c.loop-i.places in
    elim c.match-new_literal.branch [
      | in-Some w ↦
          let l = w.in-Some.l in
          let fit : SFits w32 l = search rules in
          let wrote = writing_some p q cells i k c.loop-i-test.true c.requires.0 c.loop-i.invariant l (sym w.in-Some.ensures) in
          subst (λ m. Writing p q c.match-new_literal.places (i + 1) m) (sym w.k-is)
          (subst (λ u. Writing p q u (i + 1) (k + 1)) (sym (w.places-is ∙ ap (set cells k) (to_z-of_z w32 l fit))) wrote)
      | in_default w ↦
          let wrote = writing_none p q cells i k c.loop-i-test.true c.requires.0 c.loop-i.invariant (sym w.in_default.ensures) in
          subst (λ m. Writing p q c.match-new_literal.places (i + 1) m) (sym w.k-is) (subst (λ u. Writing p q u (i + 1) k) (sym w.places-is) wrote)
    ]

pub returns : goal.returns
returns c =
    let p = c.args.before.now in
    let q = c.args.after.now in
    let k = c.loop-i.k in
    let h : length p ≤ c.loop-i.i = omega arith in
    let e = writing_ends p q c.loop-i.places c.loop-i.i k h c.requires.0 c.loop-i.invariant in
    let few : k ≤ length c.loop-i.places = omega (arith, c.loop-i.invariant.room) in
    record { count = sym (length-take-le k c.loop-i.places few) ∙ ap length e; front = e; few = few; literals = subst (Each (Literal (length p))) (sym e) (news_literals (length p) p q refl) }
