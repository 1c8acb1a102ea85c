use Rattle.std.proofs.Common.{◌-◌, ◌<◌, arith}
use lib.Seq.{take-set-lt}
use Rattle.std.proofs.lemmas.List.{drop-set-lt, length-take-le}
use Rattle.book.specs.Marks.{marks_of}
use Rattle.book.proofs.Rows.{within}
use Rattle.book.proofs.held.Book.act.Goals as goal

pub returns-clause-rows : goal.returns-clause-rows
returns-clause-rows c =
    let b = c.args.self.now in
    let w = b.whole in
    let f = b.few in
    let k = within (marks_of b) c.args.cube c.in_ok-state.field-0 c.in_ok-state.ensures in
    let t = length-take-le b.count b.marks (omega arith) in
    let i : c.args.cube - 1 < b.count = omega arith in
    record { marks = take-set-lt b.count b.marks (c.args.cube - 1) c.in_ok-next.next i; free = drop-set-lt b.count b.marks (c.args.cube - 1) c.in_ok-next.next i }
