use Rattle.std.proofs.Common.{◌≡◌, ◌∙◌}
use Rattle.std.proofs.lemmas.Result.{err_from_is_err_and}
use Rattle.stores.specs.Numbers.{fault_of}
use Rattle.meaning.specs.Spelt.{both_fault}
use Rattle.meaning.proofs.Spelt.{filled_open, fault_first, fault_second, fault_third}
use Rattle.tables.proofs.both.Tables.check.Goals as goal

pub returns-in_err-check : goal.returns-in_err-check
returns-in_err-check c =
    let n = c.args.vars in
    let cs = c.args.clauses.now in
    let os = c.args.odds.now in
    let p = err_from_is_err_and c.from_residual.result c.from_residual.ensures.1 in
    let e : fault_of c.from_residual.result ≡ both_fault n cs os = rw (p.1, p.2) (fault_first n cs os _ c.in_err-check.ensures.value) in
    record { value = e; filled = λ rs h. e ∙ filled_open n rs cs os h }

pub returns-in_err-check-2 : goal.returns-in_err-check-2
returns-in_err-check-2 c =
    let n = c.args.vars in
    let cs = c.args.clauses.now in
    let os = c.args.odds.now in
    let p = err_from_is_err_and c.from_residual-in_err-check-2.result c.from_residual-in_err-check-2.ensures.1 in
    let e : fault_of c.from_residual-in_err-check-2.result ≡ both_fault n cs os = rw (p.1, p.2) (fault_second n cs os _ c.in_ok-check.ensures.value c.in_err-check-2.ensures.value) in
    record { value = e; filled = λ rs h. e ∙ filled_open n rs cs os h }

pub returns : goal.returns
returns c =
    let n = c.args.vars in
    let cs = c.args.clauses.now in
    let os = c.args.odds.now in
    let e : fault_of c.check_together.result ≡ both_fault n cs os = fault_third n cs os _ c.in_ok-check.ensures.value c.in_ok-check-2.ensures.value c.check_together.ensures in
    record { value = e; filled = λ rs h. e ∙ filled_open n rs cs os h }
