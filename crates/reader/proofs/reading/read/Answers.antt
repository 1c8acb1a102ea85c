use Rattle.std.proofs.Common.{length, Err, ap, ◌∙◌}
use Rattle.std.proofs.lemmas.Result.{err_from_is_err_and}
use Rattle.rules.specs.declared.kind.Kind.TheVariants.{Clause, Odd}
use Rattle.rules.specs.Rules.{clauses, odds}
use Rattle.reader.proofs.Wholes.{refused_answer, refused_table, short_answer, short_table, clauses_fit, odds_fit, full_table}
use Rattle.reader.proofs.Formats.{read_as}
use Rattle.reader.proofs.reading.read.Goals as goal

pub returns-in_err-plan : goal.returns-in_err-plan
returns-in_err-plan c =
    let p = err_from_is_err_and c.from_residual.result c.from_residual.ensures.1 in
    let e = c.in_err-plan.ensures in
    let a = refused_answer (length c.args.text.now) (length c.args.clauses.now) (length c.args.odds.now) _ c.in_err-plan.field-0.0 e in
    let x = refused_table clauses (length c.args.clauses.now) (length c.args.odds.now) c.args.clauses.now _ _ e in
    let y = refused_table odds (length c.args.clauses.now) (length c.args.odds.now) c.args.odds.now _ _ e in
    rw (p.1, p.2) (record { answer = a; clauses = x; odds = y; spelled = read_as c.args.text.now c.args.clauses.now c.args.odds.now _ _ _ a x y })

pub returns-then-not-fit : goal.returns-then-not-fit
returns-then-not-fit c =
    let h = c.in_ok-plan.ensures in
    let no = c.if-not-fit.ensures in
    let a = ap Err c.at.ensures ∙ short_answer _ _ h _ _ no in
    let x = short_table _ _ h _ _ no clauses c.args.clauses.now in
    let y = short_table _ _ h _ _ no odds c.args.odds.now in
    record { answer = a; clauses = x; odds = y; spelled = read_as c.args.text.now c.args.clauses.now c.args.odds.now _ _ _ a x y }

pub fill-requires : goal.fill-requires
fill-requires c = record { clauses = clauses_fit _ _ c.in_ok-plan.ensures _ _ c.if-not-fit.ensures; odds = odds_fit _ _ c.in_ok-plan.ensures _ _ c.if-not-fit.ensures }

pub returns-clause-clauses : goal.returns-clause-clauses
returns-clause-clauses c = c.fill.ensures.clauses ∙ full_table _ _ c.in_ok-plan.ensures _ _ c.if-not-fit.ensures Clause c.args.clauses.now

pub returns-clause-odds : goal.returns-clause-odds
returns-clause-odds c = c.fill.ensures.odds ∙ full_table _ _ c.in_ok-plan.ensures _ _ c.if-not-fit.ensures Odd c.args.odds.now
