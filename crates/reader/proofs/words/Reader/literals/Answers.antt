use Rattle.std.proofs.Common.{length, sym, ap, ◌∙◌, Err, arith}
use Rattle.std.proofs.lemmas.Result.{err_from_is_err_and}
use Rattle.rules.specs.declared.fault.Reason.TheVariants.{Unended}
use Rattle.rules.specs.Faults.{faulty}
use Rattle.reader.proofs.Rounds.{counting_cut, counting_wrong, counting_ends, counting_more}
use Rattle.reader.proofs.words.Reader.literals.Goals as goal

pub returns-in_err-literal-clause-read : goal.returns-in_err-literal-clause-read
returns-in_err-literal-clause-read c =
    let p = err_from_is_err_and c.from_residual.result c.from_residual.ensures.1 in
    let k = c.in_err-literal.ensures in
    rw (p.1, p.2) (λ ls h. let q = c.loop-word.invariant.3 ls h in counting_wrong q _ _ _ c.in-Some.ensures.word.0 c.in_err-literal.field-0.0 (k.says _ q.marked) (k.marked _ q.marked))

pub returns-in-None-clause-read : goal.returns-in-None-clause-read
returns-in-None-clause-read c = λ ls h. let q = c.loop-word.invariant.3 ls h in counting_ends q _ _ _ c.in-Some.ensures.word.0 _ c.in-None.is (c.in_ok-literal.ensures.says _ q.marked)

pub loop-word-preserved : goal.loop-word-preserved
loop-word-preserved c =
    let k = c.in_ok-literal.ensures in
    let m = c.loop-word.invariant in (
      c.in-Some.ensures.text ∙ m.0,
      omega (arith, m.1, c.in-Some.ensures.word.1),
      k.top ∙ m.2,
      λ ls h. let q = m.3 ls h in counting_more q _ _ _ c.in-Some.ensures.word.0 _ _ c.in-Some-2.is (k.says _ q.marked) (k.marked _ q.marked),
    )

pub returns-clause-read : goal.returns-clause-read
returns-clause-read c =
    let m = c.loop-word.invariant in
    let end = ap (λ t. length t.now) (c.in_default.ensures.text ∙ m.0) in
    λ ls h k. counting_cut (m.3 ls h) c.in_default.ensures.word k ∙ ap (λ i. Err (faulty Unended i)) (sym end) ∙ ap Err (sym c.at.ensures)
