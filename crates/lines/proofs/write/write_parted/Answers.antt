use Rattle.std.proofs.Common.{◌≡◌, get_or, pos, sym, subst, w32, to_z, of_z, rules}
use Rattle.std.specs.Fmt.{signed_decimal}
use Rattle.std.proofs.lemmas.Slice.{first_rest}
use Rattle.lines.specs.Lines.{parted}
use Rattle.lines.specs.Sinks.{Takes}
use Rattle.lines.proofs.Pieces.{takes_after}
use Rattle.lines.proofs.write.write_parted.Goals as goal

pub returns-in_ok-write_literal-in-len1-up-clause-text : goal.returns-in_ok-write_literal-in-len1-up-clause-text
returns-in_ok-write_literal-in-len1-up-clause-text g c =
    let ls = c.args.lits.now in
    let l = get_or ls 0 (pos 0) in
    let u = c.write_spaced.new.out in
    let r = c.write_spaced.result in
    let k : to_z w32 (of_z w32 l) ≡ l = search rules in
    let first = simp k at c.in_ok-write_literal-in-len1-up.ensures in
    subst (λ ms. Takes g.S.Sink.took g.S.Sink.room c.args.out.now (parted ms) u r) (sym (first_rest ls (pos 0) c.in-len1-up.len_at_least))
    (takes_after g.S.Sink.laws _ _ u (signed_decimal l) _ r first c.write_spaced.ensures.text)
