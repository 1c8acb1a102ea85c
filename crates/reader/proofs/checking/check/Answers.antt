use Rattle.std.proofs.Common.{length, Ok, Err, Result, sym, refl, ap, ◌∙◌, subst}
use Rattle.std.proofs.lemmas.Result.{err_from_is_err_and}
use Rattle.rules.specs.declared.fault.Fault.{Fault}
use Rattle.reader.specs.declared.counts.Counts.{Counts}
use Rattle.reader.specs.declared.parts.Header.{Header}
use Rattle.reader.specs.Left.{left}
use Rattle.reader.specs.Turns.{HeaderRead, RulesRead}
use Rattle.reader.proofs.Wholes.{header_fault, rules_fault, count_fault, planned}
use Rattle.reader.proofs.checking.check.Goals as goal
use Rattle.reader.proofs.checking.check.Goals.{After-header, In_ok-header}

-- what the header and the rules were read from is the text that was given
from_text : (c : After-header) (r : Result Header Fault) → HeaderRead c.new-reader.result.text.now c.new-reader.result.at (left c.header.new.self) r → HeaderRead c.args.text.now 0 (left c.header.new.self) r
from_text c r h =
    let ts = left c.header.new.self in
    subst (λ i. HeaderRead c.args.text.now i ts r) c.new-reader.ensures.at (subst (λ t. HeaderRead t.now c.new-reader.result.at ts r) c.new-reader.ensures.text h)

rules_from : (c : In_ok-header) (r : Result Counts Fault) → RulesRead c.in_ok-header.header.variables (length c.header.new.self.text.now) (left c.header.new.self) r → RulesRead c.in_ok-header.header.variables (length c.args.text.now) (left c.header.new.self) r
rules_from c r h = subst (λ t. RulesRead c.in_ok-header.header.variables (length t.now) (left c.header.new.self) r) (c.in_ok-header.ensures.text ∙ c.new-reader.ensures.text) h

pub returns-in_err-header : goal.returns-in_err-header
returns-in_err-header c =
    let p = err_from_is_err_and c.from_residual.result c.from_residual.ensures.1 in
    let n = (goal.at.returns-in_err-header c).After-header in
    rw (p.1, p.2) (header_fault c.args.text.now (left c.header.new.self) _ (from_text n (Err c.in_err-header.field-0.0) c.in_err-header.ensures.read))

pub returns-in_err-counts : goal.returns-in_err-counts
returns-in_err-counts c =
    let p = err_from_is_err_and c.from_residual-in_err-counts.result c.from_residual-in_err-counts.ensures.1 in
    let n = (goal.at.returns-in_err-counts c).After-header in
    let k = (goal.at.returns-in_err-counts c).In_ok-header in
    rw (p.1, p.2)
    (rules_fault c.args.text.now _ c.in_ok-header.header (from_text n (Ok c.in_ok-header.header) c.in_ok-header.ensures.read) _ (rules_from k (Err c.in_err-counts.field-0.0) c.in_err-counts.ensures.read))

pub returns-then-counts-header : goal.returns-then-counts-header
returns-then-counts-header c =
    let n = (goal.at.returns-then-counts-header c).After-header in
    let k = (goal.at.returns-then-counts-header c).In_ok-header in
    count_fault c.args.text.now _ c.in_ok-header.header (from_text n (Ok c.in_ok-header.header) c.in_ok-header.ensures.read) _ (rules_from k (Ok c.in_ok-counts.counts) c.in_ok-counts.ensures.read) c.if-counts-header.true
    ∙ ap Err (sym c.at.ensures)

pub returns : goal.returns
returns c =
    let n = (goal.at.returns c).After-header in
    let k = (goal.at.returns c).In_ok-header in
    planned c.args.text.now _ c.in_ok-header.header (from_text n (Ok c.in_ok-header.header) c.in_ok-header.ensures.read) _ (rules_from k (Ok c.in_ok-counts.counts) c.in_ok-counts.ensures.read)
    c.header.new.self refl c.if-counts-header.false
