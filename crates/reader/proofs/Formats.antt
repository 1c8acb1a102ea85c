-- A call of `read` in the words of the format.
use Rattle.std.proofs.Common.{◌≡◌, ℕ, Bool, true, false, cond, ◌&&◌, leb, List, length, ℤ, Ok, Err, Result, sym, refl, ap, ◌∙◌, subst}
use Rattle.rules.specs.declared.fault.Fault.{Fault}
use Rattle.rules.specs.declared.fault.Reason.TheVariants.{Short}
use Rattle.rules.specs.declared.kind.Kind.TheVariants.{Clause, Odd}
use Rattle.rules.specs.Rules.{clauses, odds, numbers}
use Rattle.reader.specs.declared.counts.Counts.{Counts}
use Rattle.reader.specs.declared.parts.Plan.{Plan}
use Rattle.rules.specs.Faults.{faulty}
use Rattle.reader.specs.Reading.{Question, parse, roomy, counts_of, answer, laid, filled}
use Rattle.reader.specs.Theorem.{Accepted, ReadAs}
use Rattle.reader.specs.Left.{left}
use Rattle.reader.specs.Turns.{Planned}
use Rattle.reader.specs.Filling.{sent_by}
use Rattle.reader.proofs.Spelled.{reading_right}
use Rattle.reader.proofs.Wholes.{full_answer, full_table}

module _ (text : List ℕ) (cs os : List ℤ) where
  -- by what the text parses to, and whether the tables have room
  by : (q : Result Question Fault) → parse text ≡ q → ReadAs text cs (filled clauses (length cs) (length os) cs q) os (filled odds (length cs) (length os) os q) (answer (length text) (length cs) (length os) q)
  by (Err f) e = record { clauses_kept = refl; odds_kept = refl; malformed = λ n rs s. absurd (reading_right.refused text f e n rs s) }
  by (Ok q) e = with_room (roomy (length cs) (length os) q.rules) refl
    where
      with_room : (b : Bool) → roomy (length cs) (length os) q.rules ≡ b → ReadAs text cs (cond b (laid (numbers (clauses q.rules)) cs) cs) os (cond b (laid (numbers (odds q.rules)) os) os) (cond b (Ok (counts_of q)) (Err (faulty Short (length text))))
      with_room true b = record {
        variables = q.variables;
        rules = q.rules;
        spelled = reading_right.sound text q e;
        room = b;
        counted = refl;
        clauses_laid = refl;
        odds_laid = refl;
      }
      with_room false b = record {
        clauses_kept = refl;
        odds_kept = refl;
        malformed = λ n rs s. ap (roomy (length cs) (length os)) (reading_right.one_question text n q.variables rs q.rules s (reading_right.sound text q e)).1 ∙ b;
      }

  pub read_as : (cs' os' : List ℤ) (r : Result Counts Fault) → r ≡ answer (length text) (length cs) (length os) (parse text) → cs' ≡ filled clauses (length cs) (length os) cs (parse text) → os' ≡ filled odds (length cs) (length os) os (parse text) → ReadAs text cs cs' os os' r
  read_as cs' os' r a c o =
      subst (λ x. ReadAs text cs cs' os os' x) (sym a)
      (subst (λ x. ReadAs text cs x os os' (answer (length text) (length cs) (length os) (parse text))) (sym c)
      (subst (λ x. ReadAs text cs (filled clauses (length cs) (length os) cs (parse text)) os x (answer (length text) (length cs) (length os) (parse text))) (sym o) (by (parse text) refl)))

-- where both tables have room, by what was counted and what was written
pub accepted : (text : List ℕ) (p : Plan) (h : Planned text p) (cs os cs' os' : List ℤ) → true ≡ (leb p.counts.clauses.numbers (length cs) && leb p.counts.odds.numbers (length os)) → cs' ≡ laid (sent_by Clause Clause (left p.ahead)) cs → os' ≡ laid (sent_by Odd Clause (left p.ahead)) os → Accepted text cs cs' os os' p.counts
accepted text p h cs os cs' os' fits c o =
    read_as text cs os cs' os' (Ok p.counts) (full_answer text p h (length cs) (length os) fits) (c ∙ full_table text p h (length cs) (length os) fits Clause cs)
    (o ∙ full_table text p h (length cs) (length os) fits Odd os)
