-- Reading and spelling agree: a text is accepted if and only if it is well formed, and then gives what it spells.
use Rattle.std.specs.Prelude.{◌≡◌, ℕ, true, false, List, length, ℤ, Ok, Err, Result}
use Rattle.rules.specs.declared.fault.Fault.{Fault}
use Rattle.rules.specs.Rules.{Rule, satisfies, clauses, odds, numbers}
use Rattle.reader.specs.declared.counts.Counts.{Counts}
use Rattle.reader.specs.Spelling.{Spells}
use Rattle.reader.specs.Reading.{Question, parse, roomy, counts_of, laid}

-- for every list of numbers as text, bytes or not
pub record ReadingRight : Type 0 where
  -- what a text spells is read from it
  pub complete : (text : List ℕ) (n : ℕ) (rs : List Rule) → Spells text n rs → parse text ≡ Ok (record { variables = n; rules = rs })
  -- what is read from a text, it spells
  pub sound : (text : List ℕ) (q : Question) → parse text ≡ Ok q → Spells text q.variables q.rules
  -- a text is refused if and only if it spells nothing
  pub refused : (text : List ℕ) (f : Fault) → parse text ≡ Err f → (n : ℕ) (rs : List Rule) → Spells text n rs → ⊥
  pub malformed : (text : List ℕ) → ((n : ℕ) (rs : List Rule) → Spells text n rs → ⊥) → (f : Fault) × (parse text ≡ Err f)
  -- no text spells two questions
  pub one_question : (text : List ℕ) (n n' : ℕ) (rs rs' : List Rule) → Spells text n rs → Spells text n' rs' → (n ≡ n') × (rs ≡ rs')
  pub one_meaning : (text : List ℕ) (n n' : ℕ) (rs rs' : List Rule) → Spells text n rs → Spells text n' rs' → (a : List ℕ) → satisfies a rs ≡ satisfies a rs'

-- What a call of `read` says in the words of the format, with the tables cs and os before it and cs' and os' after it.
-- It is accepted: the text spells rules, the tables have room for them and now hold them from their start on,
pub record Accepted (text : List ℕ) (cs cs' os os' : List ℤ) (k : Counts) : Type 0 where
  pub variables : ℕ
  pub rules : List Rule
  pub spelled : Spells text variables rules
  pub room : roomy (length cs) (length os) rules ≡ true
  pub counted : k ≡ counts_of (record { variables = variables; rules = rules })
  pub clauses_laid : cs' ≡ laid (numbers (clauses rules)) cs
  pub odds_laid : os' ≡ laid (numbers (odds rules)) os

-- or refused: the tables are as before, and the text spells no rules for which they have room.
pub record Refused (text : List ℕ) (cs cs' os os' : List ℤ) : Type 0 where
  pub clauses_kept : cs' ≡ cs
  pub odds_kept : os' ≡ os
  pub malformed : (n : ℕ) (rs : List Rule) → Spells text n rs → roomy (length cs) (length os) rs ≡ false

abbrev pub ReadAs : List ℕ → List ℤ → List ℤ → List ℤ → List ℤ → Result Counts Fault → Type 0
ReadAs text cs cs' os os' (Ok k) = Accepted text cs cs' os os' k
ReadAs text cs cs' os os' (Err f) = Refused text cs cs' os os'
