use Rattle.std.proofs.Common.{[], ◌∷◌, length, Ok, Err, sym, subst}
use Rattle.std.proofs.lemmas.Result.{err_from_is_err_and}
use Rattle.reader.specs.Left.{left}
use Rattle.reader.specs.Turns.{LiteralsRead}
use Rattle.reader.proofs.Rounds.{no_rule, odd_rule, odd_fault, first_wrong, empty_clause, first_marked, clause_rule, clause_fault}
use Rattle.reader.proofs.words.Reader.rule.Goals as goal

pub returns-in_default-clause-read : goal.returns-in_default-clause-read
returns-in_default-clause-read c = no_rule _ _ _ [] c.in_default.ensures.word

pub returns-in_err-literals-clause-read : goal.returns-in_err-literals-clause-read
returns-in_err-literals-clause-read c =
    let p = err_from_is_err_and c.from_residual.result c.from_residual.ensures.1 in
    let w = c.in-Some.ensures in
    let read = subst (λ r. LiteralsRead c.args.header.variables (length r.now) [] (left c.next_word.new.self) (left c.literals.new.self) (Err c.in_err-literals.field-0.0)) w.text (c.in_err-literals.ensures.read [] c.begin.ensures.none) in
    rw (p.1, p.2) (odd_fault _ _ _ _ _ _ w.word.0 (sym c.if-is_odd.ensures) (left c.literals.new.self) read)

pub returns-then-is_odd-clause-read : goal.returns-then-is_odd-clause-read
returns-then-is_odd-clause-read c =
    let w = c.in-Some.ensures in
    let read = subst (λ r. LiteralsRead c.args.header.variables (length r.now) [] (left c.next_word.new.self) (left c.literals.new.self) (Ok c.in_ok-literals.literals)) w.text (c.in_ok-literals.ensures.read [] c.begin.ensures.none) in
    odd_rule _ _ _ _ _ _ w.word.0 (sym c.if-is_odd.ensures) _ read

pub returns-in_err-literal-clause-read : goal.returns-in_err-literal-clause-read
returns-in_err-literal-clause-read c =
    let p = err_from_is_err_and c.from_residual-in_err-literal.result c.from_residual-in_err-literal.ensures.1 in
    let k = c.in_err-literal.ensures in
    rw (p.1, p.2) (first_wrong _ _ _ _ _ _ c.in-Some.ensures.word.0 (sym c.if-is_odd.ensures) _ [] (k.says [] c.begin.ensures.none) (k.marked [] c.begin.ensures.none))

pub returns-in_default-2-clause-read : goal.returns-in_default-2-clause-read
returns-in_default-2-clause-read c = empty_clause _ _ _ _ _ _ c.in-Some.ensures.word.0 (sym c.if-is_odd.ensures) _ c.in_default-2.is (c.in_ok-literal.ensures.says [] c.begin.ensures.none)

pub returns-in_err-more-clause-read : goal.returns-in_err-more-clause-read
returns-in_err-more-clause-read c =
    let p = err_from_is_err_and c.from_residual-in_err-more.result c.from_residual-in_err-more.ensures.1 in
    let w = c.in-Some.ensures in
    let l = c.in_ok-literal.ensures in
    let z = c.in-Some-2.field-0 in
    let says = l.says [] c.begin.ensures.none in
    let marked = first_marked _ 0 _ _ _ _ w.word.0 (sym c.if-is_odd.ensures) _ z c.in-Some-2.is says (l.marked [] c.begin.ensures.none) in
    let read = subst (λ r. LiteralsRead c.args.header.variables (length r.now) (z ∷ []) (left c.next_word.new.self) (left c.literals-2.new.self) (Err c.in_err-more.field-0.0)) w.text (c.in_err-more.ensures.read (z ∷ []) marked) in
    rw (p.1, p.2) (clause_fault _ _ _ _ _ _ w.word.0 (sym c.if-is_odd.ensures) _ z c.in-Some-2.is says (left c.literals-2.new.self) read)

pub returns-clause-read : goal.returns-clause-read
returns-clause-read c =
    let w = c.in-Some.ensures in
    let l = c.in_ok-literal.ensures in
    let z = c.in-Some-2.field-0 in
    let says = l.says [] c.begin.ensures.none in
    let marked = first_marked _ 0 _ _ _ _ w.word.0 (sym c.if-is_odd.ensures) _ z c.in-Some-2.is says (l.marked [] c.begin.ensures.none) in
    let read = subst (λ r. LiteralsRead c.args.header.variables (length r.now) (z ∷ []) (left c.next_word.new.self) (left c.literals-2.new.self) (Ok c.in_ok-more.more)) w.text (c.in_ok-more.ensures.read (z ∷ []) marked) in
    clause_rule _ _ _ _ _ _ w.word.0 (sym c.if-is_odd.ensures) _ z c.in-Some-2.is says _ read
