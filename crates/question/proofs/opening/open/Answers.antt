use Rattle.std.proofs.Common.{length, take, sym, ap, ◌∙◌, subst}
use Rattle.meaning.specs.Spelt.{Filled}
use Rattle.meaning.specs.Tables.{parts}
use Rattle.question.proofs.From.{means_text, clauses_counted, odds_counted}
use Rattle.question.proofs.opening.open.Goals as goal

pub returns : goal.returns
returns c =
    let k = c.args.counts in
    let cs = c.args.clauses.now in
    let uc = c.used.ensures in
    let uo = c.used-2.ensures in
    let f = c.open.ensures.first in
    let g = c.open.ensures.second in
    record {
      joined = c.open.ensures.joined;
      means = λ text h. means_text h _
          (λ rs e. c.open.ensures.means rs
          (subst (λ u. Filled k.variables rs u c.used-2.result.now) (sym uc)
          (subst (λ u. Filled k.variables rs (take k.clauses.numbers cs) u) (sym uo) e)));
      counts = λ text h. record {
        variables = f.1.1;
        clause_count = ap (λ t. length (parts t.now)) f.1.0 ∙ (ap (λ u. length (parts u)) uc ∙ clauses_counted h);
        odd_count = ap (λ t. length (parts t.now)) g.1.0 ∙ (ap (λ u. length (parts u)) uo ∙ odds_counted h);
      };
    }
