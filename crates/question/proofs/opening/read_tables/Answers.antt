use Rattle.question.proofs.From.{read_from, made_opens}
use Rattle.question.proofs.opening.read_tables.Goals as goal

pub returns : goal.returns
returns c =
    let e = c.read.ensures in
    let f = read_from c.args.text.now c.args.clauses.now c.read.new.clauses c.args.odds.now c.read.new.odds c.read.result e.spelled in
    record { answer = e.answer; clauses = e.clauses; odds = e.odds; spelled = e.spelled; from = f; opens = made_opens c.args.text.now c.read.new.clauses c.read.new.odds c.read.result f }
