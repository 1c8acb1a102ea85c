use Rattle.std.proofs.Common.{◌≤◌, cond, length, get_or, pos, sym, ap, ◌∙◌, arith, w32, SFits, rules}
use Rattle.std.proofs.lemmas.Int.{to_z-of_z}
use Rattle.std.proofs.lemmas.List.{at_drop_all}
use Rattle.rules.specs.Literals.{Literal, put, is_true}
use Rattle.lookahead.specs.Answers.{set_all, held}
use Rattle.lookahead.proofs.News.{each_get}
use Rattle.lookahead.proofs.Adopted.{adopts_held}
use Rattle.lookahead.proofs.literals.adopt_held.Goals as goal

pub adopt_if_held-requires : goal.adopt_if_held-requires
adopt_if_held-requires c =
    let ls = c.args.news.now in
    let i = c.loop-l.l-index in
    let l = get_or ls i (pos 0) in
    let fit : SFits w32 l = search rules in (
      rw (to_z-of_z w32 l fit, c.loop-l.auto.partial) (each_get (Literal (length c.args.partial.now)) ls i (pos 0) c.loop-l-test.true c.requires.0),
      c.requires.1 ∙ sym c.loop-l.auto.partial,
    )

pub loop-l-preserved : goal.loop-l-preserved
loop-l-preserved c =
    let ls = c.args.news.now in
    let i = c.loop-l.l-index in
    let l = get_or ls i (pos 0) in
    let p = c.loop-l.partial in
    let r = c.args.other.now in
    let fit : SFits w32 l = search rules in
    adopts_held p r ls i c.loop-l-test.true c.adopt_if_held.new.partial (c.adopt_if_held.ensures ∙ ap (λ z. cond (is_true r z) (put p z) p) (to_z-of_z w32 l fit)) ∙ c.loop-l.invariant

pub returns : goal.returns
returns c =
    let ls = c.args.news.now in
    let i = c.loop-l.l-index in
    let h : length ls ≤ i = omega arith in
    sym (at_drop_all (λ u. set_all c.loop-l.partial (held c.args.other.now u)) ls i h) ∙ c.loop-l.invariant
