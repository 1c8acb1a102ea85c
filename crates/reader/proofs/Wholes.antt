-- A text as a whole: the header, the rules, their number, the tables.
use Rattle.std.proofs.Common.{◌≡◌, ℕ, ◌+◌, ◌≤◌, true, false, cond, ◌&&◌, eqb, leb, List, [], ◌∷◌, length, ℤ, Ok, Err, Result, sym, refl, ap, ◌∙◌, subst, arith}
use Rattle.std.proofs.lemmas.Bool.{cond-true, cond-false, eq-eqb, ne_eqb, leb-true, and_parts}
use Rattle.rules.specs.declared.fault.Fault.{Fault}
use Rattle.rules.specs.declared.fault.Reason.TheVariants.{Count, Short}
use Rattle.rules.specs.Rules.{Rule, clause, odd, clauses, odds, numbers}
use Rattle.reader.specs.declared.parts.Header.{Header}
use Rattle.reader.specs.declared.parts.Plan.{Plan}
use Rattle.reader.specs.declared.counts.Counts.{Counts}
use Rattle.reader.specs.declared.words.Reader.{Reader}
use Rattle.rules.specs.declared.kind.Kind.{Kind}
use Rattle.rules.specs.declared.kind.Kind.TheVariants.{Clause, Odd}
use Rattle.reader.specs.Tokens.{Token}
use Rattle.reader.specs.Left.{left}
use Rattle.rules.specs.Faults.{faulty}
use Rattle.reader.specs.Reading.{Head, scan, between, Question, counted, after_header, parse, roomy, counts_of, answer, laid, filled}
use Rattle.reader.specs.Turns.{HeaderRead, RulesRead, Planned}
use Rattle.reader.specs.Filling.{sent_by}
use Rattle.reader.proofs.Sending.{part, sent_is}

count_both : (rs : List Rule) → length rs ≡ length (clauses rs) + length (odds rs)
count_both [] = refl
count_both (clause ls ∷ rs) = omega (arith, count_both rs)
count_both (odd ls ∷ rs) = omega (arith, count_both rs)

-- ---- the check
module _ (text : List ℕ) (ts : List Token) where
  pub header_fault : (f : Fault) → HeaderRead text 0 ts (Err f) → parse text ≡ Err f
  unfolding parse
  header_fault f e = ap (after_header text) e

  module _ (h : Header) (r : HeaderRead text 0 ts (Ok h)) where
    head : Head
    head = record { variables = h.variables; rules = h.rules }

    then_rules : parse text ≡ counted (length text) head (scan h.variables (length text) between ts)
    unfolding parse head
    then_rules = ap (after_header text) r.1 ∙ ap (λ us. counted (length text) head (scan h.variables (length text) between us)) (sym r.2)

    pub rules_fault : (f : Fault) → RulesRead h.variables (length text) ts (Err f) → parse text ≡ Err f
    unfolding head
    rules_fault f e = then_rules ∙ ap (counted (length text) head) e

    module _ (c : Counts) (q : RulesRead h.variables (length text) ts (Ok c)) where
      total : length q.0 ≡ c.clauses.rules + c.odds.rules
      total = omega (arith, count_both q.0, ap (λ k. k.clauses.rules) q.2, ap (λ k. k.odds.rules) q.2)

      by_count : parse text ≡ cond (eqb (length q.0) h.rules) (Ok (record { variables = h.variables; rules = q.0 })) (Err (faulty Count (length text)))
      unfolding head
      by_count = then_rules ∙ ap (counted (length text) head) q.1

      pub count_fault : (c.clauses.rules + c.odds.rules ≡ h.rules → ⊥) → parse text ≡ Err (faulty Count (length text))
      count_fault n = by_count ∙ cond-false (eqb (length q.0) h.rules) _ _ (ne_eqb (length q.0) h.rules (λ e. n (sym total ∙ e)))

      pub planned : (a : Reader) → left a ≡ ts → c.clauses.rules + c.odds.rules ≡ h.rules → Planned text (record { counts = c; ahead = a })
      planned a here e =
          let same : h.variables ≡ c.variables = sym (ap (λ k. k.variables) q.2) in
          record {
            rules = q.0;
            parsed = by_count ∙ (cond-true (eqb (length q.0) h.rules) _ _ (eq-eqb (length q.0) h.rules (total ∙ e)) ∙ ap (λ n. Ok (record { variables = n; rules = q.0 })) same);
            scanned = subst (λ n. scan n (length text) between (left a) ≡ Ok q.0) same (ap (scan h.variables (length text) between) here ∙ q.1);
            counted = q.2 ∙ ap (λ n. counts_of (record { variables = n; rules = q.0 })) same;
            few = subst (λ n. n ≤ 2048) same h.few;
          }

-- ---- the tables
pub refused_answer : (end c o : ℕ) (r : Result Question Fault) (f : Fault) → r ≡ Err f → Err f ≡ answer end c o r
refused_answer end c o r f e = sym (ap (answer end c o) e)

pub refused_table : (side : List Rule → List (List ℤ)) (c o : ℕ) (table : List ℤ) (r : Result Question Fault) (f : Fault) → r ≡ Err f → table ≡ filled side c o table r
refused_table side c o table r f e = sym (ap (filled side c o table) e)

module _ (text : List ℕ) (p : Plan) (h : Planned text p) (c o : ℕ) where
  -- whether both tables have room, by what was counted
  room : (leb p.counts.clauses.numbers c && leb p.counts.odds.numbers o) ≡ roomy c o h.rules
  room = ap (λ k. leb k.clauses.numbers c && leb k.odds.numbers o) h.counted

  module _ (short : false ≡ (leb p.counts.clauses.numbers c && leb p.counts.odds.numbers o)) where
    pub short_answer : Err (faulty Short (length text)) ≡ answer (length text) c o (parse text)
    short_answer = sym (ap (answer (length text) c o) h.parsed ∙ cond-false (roomy c o h.rules) _ _ (sym (short ∙ room)))

    pub short_table : (side : List Rule → List (List ℤ)) (table : List ℤ) → table ≡ filled side c o table (parse text)
    short_table side table = sym (ap (filled side c o table) h.parsed ∙ cond-false (roomy c o h.rules) _ _ (sym (short ∙ room)))

  module _ (fits : true ≡ (leb p.counts.clauses.numbers c && leb p.counts.odds.numbers o)) where
    pub full_answer : Ok p.counts ≡ answer (length text) c o (parse text)
    full_answer = ap Ok h.counted ∙ sym (ap (answer (length text) c o) h.parsed ∙ cond-true (roomy c o h.rules) _ _ (sym (fits ∙ room)))

    sent_part : (which : Kind) → sent_by which Clause (left p.ahead) ≡ numbers (part which h.rules)
    sent_part which = sent_is which p.counts.variables (length text) (left p.ahead) h.rules h.few h.scanned

    pub clauses_fit : length (sent_by Clause Clause (left p.ahead)) ≤ c
    clauses_fit =
        let le = leb-true p.counts.clauses.numbers c (and_parts (leb p.counts.clauses.numbers c) (leb p.counts.odds.numbers o) (sym fits)).0 in
        omega (arith, ap length (sent_part Clause), ap (λ k. k.clauses.numbers) h.counted, le)

    pub odds_fit : length (sent_by Odd Clause (left p.ahead)) ≤ o
    odds_fit =
        let le = leb-true p.counts.odds.numbers o (and_parts (leb p.counts.clauses.numbers c) (leb p.counts.odds.numbers o) (sym fits)).1 in
        omega (arith, ap length (sent_part Odd), ap (λ k. k.odds.numbers) h.counted, le)

    pub full_table : (which : Kind) (table : List ℤ) → laid (sent_by which Clause (left p.ahead)) table ≡ filled (part which) c o table (parse text)
    full_table which table =
        ap (λ zs. laid zs table) (sent_part which)
        ∙ sym (ap (filled (part which) c o table) h.parsed ∙ cond-true (roomy c o h.rules) _ _ (sym (fits ∙ room)))
