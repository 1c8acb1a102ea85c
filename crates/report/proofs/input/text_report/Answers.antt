use Rattle.std.proofs.Common.{◌≡◌, pos, IfOk, Ok, Err, string_bytes, ◌∙◌, subst}
use Rattle.std.proofs.lemmas.List.{length-replicate}
use Rattle.report.specs.Report.{read_line}
use Rattle.report.proofs.Reports.{reported}
use Rattle.report.proofs.input.text_report.Goals as goal

pub returns-in-Ok : goal.returns-in-Ok
returns-in-Ok c =
    let k = c.open-tables.ensures.counts c.args.text.now c.in-Ok.ensures.from in
    let h = c.counted.ensures in
    subst (λ bs. IfOk c.accepted.result (λ s. string_bytes s ≡ bs))
    ((λ i. read_line ((h.variables ∙ k.variables) i) ((h.clauses ∙ k.clause_count) i) ((h.odds ∙ k.odd_count) i))
    ∙ reported c.args.text.now _ _ (Ok c.in-Ok.counts) (length-replicate 16384 (pos 0)) (length-replicate 16384 (pos 0)) c.in-Ok.ensures.answer)
    c.accepted.ensures

pub returns-in-Err : goal.returns-in-Err
returns-in-Err c =
    subst (λ bs. IfOk c.refused.result (λ s. string_bytes s ≡ bs))
    (reported c.args.text.now _ _ (Err c.in-Err.fault) (length-replicate 16384 (pos 0)) (length-replicate 16384 (pos 0)) c.in-Err.ensures.answer)
    c.refused.ensures
