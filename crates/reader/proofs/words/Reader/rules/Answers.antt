use Rattle.std.proofs.Common.{◌+◌, ◌≤◌, length, IfSome, Ok, Err, refl, ap, ◌∙◌, subst, arith}
use Rattle.std.proofs.lemmas.Result.{err_from_is_err_and}
use Rattle.reader.specs.Left.{left}
use Rattle.reader.specs.Turns.{RuleRead}
use Rattle.reader.proofs.Tallies.{gathered_none, gathered_more, gathered_all, gathered_fault}
use Rattle.reader.proofs.words.Reader.rules.Goals as goal

pub loop-rule-init : goal.loop-rule-init
loop-rule-init c =
    let none = c.none-counts.ensures in (
      refl,
      omega (arith, c.new-marks.ensures),
      omega (arith, ap (λ k. k.clauses.rules) none, ap (λ k. k.odds.rules) none),
      omega (arith, ap (λ k. k.clauses.numbers) none, ap (λ k. k.odds.numbers) none),
      gathered_none _ _ _ none,
    )

pub returns-in_err-rule-clause-read : goal.returns-in_err-rule-clause-read
returns-in_err-rule-clause-read c =
    let p = err_from_is_err_and c.from_residual.result c.from_residual.ensures.1 in
    let m = c.loop-rule.invariant in
    let read = subst (λ t. RuleRead c.args.header.variables (length t.now) (left c.loop-rule.reader) (left c.rule.new.self) (Err c.in_err-rule.field-0.0)) m.0 c.in_err-rule.ensures.read in
    rw (p.1, p.2) (gathered_fault m.4 c.in_err-rule.field-0.0 read)

pub loop-rule-preserved : goal.loop-rule-preserved
loop-rule-preserved c =
    let k = c.in_ok-rule.ensures in
    let m = c.loop-rule.invariant in
    let on = subst (λ o. IfSome o (λ h. c.loop-rule.reader.at + h.literals + 1 ≤ c.rule.new.self.at)) c.in-Some.is k.on in
    let read = subst (λ o. RuleRead c.args.header.variables (length c.args.self.text.now) (left c.loop-rule.reader) (left c.rule.new.self) (Ok o)) c.in-Some.is (subst (λ t. RuleRead c.args.header.variables (length t.now) (left c.loop-rule.reader) (left c.rule.new.self) (Ok c.in_ok-rule.field-0)) m.0 k.read) in (
      k.text ∙ m.0,
      omega (arith, on, k.top, m.1),
      omega (arith, on, c.with-counts.ensures.rules, m.2),
      omega (arith, on, c.with-counts.ensures.numbers, m.3),
      gathered_more m.4 c.in-Some.rule _ read c.with-counts.ensures.value,
    )

pub returns-clause-read : goal.returns-clause-read
returns-clause-read c =
    let m = c.loop-rule.invariant in
    gathered_all m.4 (subst (λ o. RuleRead c.args.header.variables (length c.args.self.text.now) (left c.loop-rule.reader) (left c.rule.new.self) (Ok o)) c.in_default.is (subst (λ t. RuleRead c.args.header.variables (length t.now) (left c.loop-rule.reader) (left c.rule.new.self) (Ok c.in_ok-rule.field-0)) m.0 c.in_ok-rule.ensures.read))
