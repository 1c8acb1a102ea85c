use Rattle.book.specs.Marks.{marks_of}
use Rattle.holder.specs.Held.{loans_of}
use Rattle.holder_tests.proofs.Agreeing.{popped_counts, back_agree}
use Rattle.holder_tests.proofs.office.Office.give_back_newest.Goals as goal

pub invariant_of-self-2 : goal.invariant_of-self-2
invariant_of-self-2 c =
    let before = c.args.self.now in
    let left = c.pop.new.self in
    let l = c.in_ok-loan.loan in
    record {
      agree = back_agree (marks_of before.book) (loans_of before.loans) (loans_of left) l before.agree (popped_counts before.loans left l c.in_ok-loan.ensures) (marks_of c.settle.new.self) c.settle.ensures.rows.marks;
    }
