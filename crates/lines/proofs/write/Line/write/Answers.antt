use Rattle.std.proofs.Common.{[], ◌∷◌, decimal}
use Rattle.lines.specs.Lines.{parted}
use Rattle.lines.proofs.Pieces.{takes_after}
use Rattle.lines.proofs.write.Line.write.Goals as goal

pub returns-clause-text : goal.returns-clause-text
returns-clause-text g c =
    let laws = g.S.Sink.laws in
    let u = c.take-4.new.self in
    let r = c.take-4.result in
    let head = rw c.letter_of.ensures at c.in_ok-take.ensures in
    let number = rw (c.as_bytes.ensures.value, c.format.ensures.text) at c.in_ok-take-2.ensures in
    let d = decimal c.args.self.now.number in
    let ls = parted c.args.self.now.lits.now in
    takes_after laws _ _ u _ _ r head
    (takes_after laws _ _ u d _ r number
    (takes_after laws _ _ u (44 ∷ []) _ r c.in_ok-take-3.ensures
    (takes_after laws _ _ u ls (10 ∷ []) r c.in_ok-write_parted.ensures.text c.take-4.ensures)))
