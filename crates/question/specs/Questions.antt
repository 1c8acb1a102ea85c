-- What a text means is what the store over its tables means.
use Rattle.std.specs.Prelude.{◌≡◌, ℕ, Bool, cond, ◌&&◌, List, length, take, ℤ, nat_le}
use Rattle.std.proofs.Math.Option.{Option, some}
use Rattle.rules.specs.Rules.{Rule, clauses, odds, numbers}
use Rattle.reader.specs.declared.counts.Counts.{Counts}
use Rattle.reader.specs.Spelling.{Spells}
use Rattle.reader.specs.Reading.{counts_of}
use Rattle.stores.specs.Stores.{Store}
use Rattle.meaning.specs.Spelt.{MeansRules, both_fault}

-- the used parts of the tables cs and os hold the rules that the text spells
pub record ReadFrom (text : List ℕ) (k : Counts) (cs os : List ℤ) : Type 0 where
  pub variables : ℕ
  pub rules : List Rule
  pub spelled : Spells text variables rules
  pub counted : k ≡ counts_of (record { variables = variables; rules = rules })
  pub clauses_are : take k.clauses.numbers cs ≡ numbers (clauses rules)
  pub odds_are : take k.odds.numbers os ≡ numbers (odds rules)

-- the tables are as long as their used parts
abbrev pub long_enough : Counts → List ℤ → List ℤ → Bool
long_enough k cs os = nat_le k.clauses.numbers (length cs) && nat_le k.odds.numbers (length os)

-- what opening the used parts refuses: number and index
abbrev pub used_fault : Counts → List ℤ → List ℤ → Option (ℕ × ℕ)
used_fault k cs os = cond (long_enough k cs os) (both_fault k.variables (take k.clauses.numbers cs) (take k.odds.numbers os)) (some (19, 0))

-- A store means what a text spells: its satisfying assignments are exactly those of the text's rules.
pub record MeansText (text : List ℕ) (s : Store) : Type 0 where
  pub same : (n : ℕ) (rs : List Rule) → Spells text n rs → MeansRules s n rs

-- and the stores of the clauses and of the odd rules count what was read
pub record CountedBy (k : Counts) (c o : Store) : Type 0 where
  pub variables : c.n ≡ k.variables
  pub clause_count : c.m ≡ k.clauses.rules
  pub odd_count : o.m ≡ k.odds.rules
