use Rattle.book.specs.Marks.{marks_of}
use Rattle.holder.specs.Held.{loans_of}
use Rattle.holder_tests.proofs.Agreeing.{taken_counts, settles, back_agree}
use Rattle.holder_tests.proofs.office.Office.give_back.Goals as goal

pub unwrap-spent-requires : goal.unwrap-spent-requires
unwrap-spent-requires c =
    let before = c.args.self.now in
    let left = c.take.new.self in
    let l = c.in-Some.loan in
    settles (marks_of before.book) (loans_of before.loans) (loans_of left) l before.agree (taken_counts c.args.cube before.loans left l c.in-Some.ensures) c.settle.result c.settle.ensures.value

pub invariant_of-self-2 : goal.invariant_of-self-2
invariant_of-self-2 c =
    let before = c.args.self.now in
    let left = c.take.new.self in
    let l = c.in-Some.loan in
    record {
      agree = back_agree (marks_of before.book) (loans_of before.loans) (loans_of left) l before.agree (taken_counts c.args.cube before.loans left l c.in-Some.ensures) (marks_of c.settle.new.self) c.settle.ensures.rows.marks;
    }
