use Rattle.std.proofs.Common.{◌≡◌, ◌<◌, [], ◌∷◌, length, get_or, take, pos, sym, ap, ◌∙◌, subst, arith, w32, SFits, to_z, of_z, rules}
use Rattle.std.specs.Fmt.{signed_decimal}
use Rattle.std.proofs.lemmas.List.{flat_map_more, take_more}
use Rattle.std.proofs.lemmas.List.Folds.{length-flat_map-take}
use Rattle.std.proofs.ByRecursion.{All-more}
use Rattle.std.proofs.lemmas.Result.{err_from_is_err_and}
use Rattle.lines.specs.Lines.{spaced, Narrow}
use Rattle.lines.proofs.write.write_spaced.Goals as goal

pub returns-in_err-take-clause-text : goal.returns-in_err-take-clause-text
returns-in_err-take-clause-text g c =
    let ls = c.args.lits.now in
    let i = c.loop-lit.lit-index in
    let r = g.S.Sink.laws.room_left c.args.out.now c.loop-lit.out (spaced (take i ls)) c.loop-lit.invariant.text in
    let b = length-flat_map-take (λ l. 32 ∷ signed_decimal l) ls i (pos 0) c.loop-lit-test.true in
    let e : g.S.Sink.room c.loop-lit.out < 1 = c.in_err-take.ensures in
    let p = err_from_is_err_and c.from_residual.result c.from_residual.ensures.1 in
    rw p.1 (omega (arith, r, b, e))

pub returns-in_err-write_literal-clause-text : goal.returns-in_err-write_literal-clause-text
returns-in_err-write_literal-clause-text g c =
    let ls = c.args.lits.now in
    let i = c.loop-lit.lit-index in
    let l = get_or ls i (pos 0) in
    let k : to_z w32 (of_z w32 l) ≡ l = search rules in
    let r = g.S.Sink.laws.room_left c.args.out.now c.loop-lit.out (spaced (take i ls)) c.loop-lit.invariant.text in
    let q = g.S.Sink.laws.room_left c.loop-lit.out c.take.new.self (32 ∷ []) c.in_ok-take.ensures in
    let b = length-flat_map-take (λ l. 32 ∷ signed_decimal l) ls i (pos 0) c.loop-lit-test.true in
    let e : g.S.Sink.room c.take.new.self < length (signed_decimal l) = simp k at c.in_err-write_literal.ensures in
    let p = err_from_is_err_and c.from_residual-in_err-write_literal.result c.from_residual-in_err-write_literal.ensures.1 in
    rw p.1 (omega (arith, r, q, b, e))

pub loop-lit-preserved : goal.loop-lit-preserved
loop-lit-preserved g c =
    let ls = c.args.lits.now in
    let i = c.loop-lit.lit-index in
    let l = get_or ls i (pos 0) in
    let laws = g.S.Sink.laws in
    let start = c.args.out.now in
    let k : to_z w32 (of_z w32 l) ≡ l = search rules in
    let more : g.S.Sink.took c.take.new.self (signed_decimal l) c.write_literal.new.out = simp k at c.in_ok-write_literal.ensures in
    let one = laws.took_more c.loop-lit.out c.take.new.self c.write_literal.new.out (32 ∷ []) (signed_decimal l) c.in_ok-take.ensures more in
    let all = laws.took_more start c.loop-lit.out c.write_literal.new.out (spaced (take i ls)) (32 ∷ signed_decimal l) c.loop-lit.invariant.text one in
    let w : SFits w32 l = search rules in
    record {
      text = subst (λ ws. g.S.Sink.took start ws c.write_literal.new.out)
          (flat_map_more (λ l. 32 ∷ signed_decimal l) [] (take i ls) l ∙ ap spaced (sym (take_more ls i (pos 0) c.loop-lit-test.true))) all;
      narrow = All-more Narrow ls i (pos 0) c.loop-lit-test.true c.loop-lit.invariant.narrow w.sfits;
    }
