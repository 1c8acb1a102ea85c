use Rattle.std.proofs.Common.{◌≡◌, [], ◌∷◌, ◌++◌, refl, ap, ◌∙◌}
use Rattle.book.specs.Marks.{marks_of, mark_at}
use Rattle.holder.specs.Held.{loans_of}
use Rattle.holder_tests.proofs.Agreeing.{lent_agree}
use Rattle.holder_tests.proofs.office.Office.lend.Goals as goal

pub invariant_of-self-in-Ok-lend : goal.invariant_of-self-in-Ok-lend
invariant_of-self-in-Ok-lend c =
    let before = c.args.self.now in
    let l = c.in-Ok-lend.loan in
    let kept : loans_of c.keep.new.self ≡ loans_of before.loans ++ (l ∷ []) = c.keep.ensures ∙ ap (λ z. z ++ (l ∷ [])) c.reserve.ensures.same in
    record {
      agree = rw (kept, c.lend.ensures.rows.marks) (lent_agree (marks_of before.book) (loans_of before.loans) c.args.cube l (mark_at (marks_of before.book) c.args.cube) refl c.in-Ok-lend.ensures.value before.agree);
    }
