-- From what was read to what is opened.
use Rattle.std.proofs.Common.{◌≡◌, ℕ, ◌≤◌, min, true, leb, List, length, take, drop, ℤ, IfOk, Ok, Err, Result, sym, ap, ◌∙◌, subst, arith}
use mathlib.Core.Option.{none, some}
use native.Mathlib.Nat.{min-le_right}
use Rattle.std.proofs.lemmas.List.{take_at, length-take}
use Rattle.std.proofs.lemmas.Bool.{cond-true, le-leb, and_from}
use Rattle.rules.specs.declared.fault.Fault.{Fault}
use Rattle.rules.specs.Literals.{Each}
use Rattle.rules.specs.Rules.{Rule, clauses, odds, numbers, literals, Fits}
use Rattle.reader.specs.declared.counts.Counts.{Counts}
use Rattle.reader.specs.Reading.{laid}
use Rattle.reader.specs.Theorem.{Accepted, ReadAs}
use Rattle.reader.proofs.Spelled.{reading_right}
use Rattle.stores.specs.Stores.{Store}
use Rattle.meaning.specs.Spelt.{Filled, MeansRules}
use Rattle.meaning.specs.Tables.{parts}
use Rattle.meaning.proofs.Spelt.{filled_open, clauses_fit, odds_fit}
use Rattle.meaning.proofs.Tables.{parts_numbers}
use Rattle.question.specs.Questions.{ReadFrom, long_enough, used_fault, MeansText}

front : (zs cs : List ℤ) (n : ℕ) → n ≡ length zs → take n (laid zs cs) ≡ zs
front zs cs n e = take_at zs (drop (length zs) cs) n (sym e)

-- what the reader accepted
accepted_from : (text : List ℕ) (cs cs' os os' : List ℤ) (k : Counts) → Accepted text cs cs' os os' k → ReadFrom text k cs' os'
accepted_from text cs cs' os os' k h = record {
  variables = h.variables;
  rules = h.rules;
  spelled = h.spelled;
  counted = h.counted;
  clauses_are = ap (take k.clauses.numbers) h.clauses_laid ∙ front (numbers (clauses h.rules)) cs _ (ap (λ c. c.clauses.numbers) h.counted);
  odds_are = ap (take k.odds.numbers) h.odds_laid ∙ front (numbers (odds h.rules)) os _ (ap (λ c. c.odds.numbers) h.counted);
}

pub read_from : (text : List ℕ) (cs cs' os os' : List ℤ) (r : Result Counts Fault) → ReadAs text cs cs' os os' r → IfOk r (λ k. ReadFrom text k cs' os')
read_from text cs cs' os os' (Ok k) h = accepted_from text cs cs' os os' k h
read_from text cs cs' os os' (Err f) h = tt

fits_in : (n : ℕ) (cs zs : List ℤ) → take n cs ≡ zs → n ≡ length zs → n ≤ length cs
fits_in n cs zs e s =
    let m : min n (length cs) ≡ n = sym (length-take n cs) ∙ (ap length e ∙ sym s) in
    let le : min n (length cs) ≤ length cs = min-le_right n (length cs) in
    omega (arith, m, le)

module _ {text : List ℕ} {k : Counts} {cs os : List ℤ} (h : ReadFrom text k cs os) where
  filled : Filled k.variables h.rules (take k.clauses.numbers cs) (take k.odds.numbers os)
  filled = record {
    ruled = record {
      few_vars = subst (λ n. n ≤ 2048) (sym (ap (λ c. c.variables) h.counted)) h.spelled.few_variables;
      few_rules = h.spelled.few_rules;
      fit = subst (λ n. Each (λ r. Fits n (literals r)) h.rules) (sym (ap (λ c. c.variables) h.counted)) h.spelled.fit;
    };
    clauses_are = h.clauses_are;
    odds_are = h.odds_are;
  }

  long : long_enough k cs os ≡ true
  long =
      and_from (leb k.clauses.numbers (length cs)) (leb k.odds.numbers (length os))
      (le-leb k.clauses.numbers (length cs) (fits_in k.clauses.numbers cs _ h.clauses_are (ap (λ c. c.clauses.numbers) h.counted)))
      (le-leb k.odds.numbers (length os) (fits_in k.odds.numbers os _ h.odds_are (ap (λ c. c.odds.numbers) h.counted)))

  pub opens : used_fault k cs os ≡ none
  opens = cond-true (long_enough k cs os) _ (some (19, 0)) long ∙ filled_open _ _ _ _ filled

  -- the store is satisfied by just what satisfies the text's rules
  pub means_text : (s : Store) → ((rs : List Rule) → Filled k.variables rs (take k.clauses.numbers cs) (take k.odds.numbers os) → MeansRules s k.variables rs) → MeansText text s
  means_text s m = record {
    same = λ n rs sp.
        let one = reading_right.one_question text n h.variables rs h.rules sp h.spelled in
        subst (λ i. MeansRules s i rs) (ap (λ c. c.variables) h.counted ∙ sym one.0)
        (subst (MeansRules s k.variables) (sym one.1) (m h.rules filled));
  }

  -- each table holds as many rules as were read
  pub clauses_counted : length (parts (take k.clauses.numbers cs)) ≡ k.clauses.rules
  clauses_counted =
      ap (λ t. length (parts t)) h.clauses_are
      ∙ (ap length (parts_numbers h.variables (clauses h.rules) (clauses_fit h.variables h.rules h.spelled.fit)) ∙ sym (ap (λ c. c.clauses.rules) h.counted))

  pub odds_counted : length (parts (take k.odds.numbers os)) ≡ k.odds.rules
  odds_counted =
      ap (λ t. length (parts t)) h.odds_are
      ∙ (ap length (parts_numbers h.variables (odds h.rules) (odds_fit h.variables h.rules h.spelled.fit)) ∙ sym (ap (λ c. c.odds.rules) h.counted))

pub made_opens : (text : List ℕ) (cs os : List ℤ) (r : Result Counts Fault) → IfOk r (λ k. ReadFrom text k cs os) → IfOk r (λ k. used_fault k cs os ≡ none)
made_opens text cs os (Ok k) h = opens h
made_opens text cs os (Err f) h = tt
