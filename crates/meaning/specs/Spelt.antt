-- What a list of rules, clauses and odd rules mixed, means as two stores joined.
use Rattle.std.specs.Prelude.{◌≡◌, ℕ, ◌+◌, ◌≤◌, true, cond, List, length, ℤ, nat_lt}
use Rattle.std.proofs.Math.Option.{Option, none, some}
use Rattle.rules.specs.Literals.{Each, Full}
use Rattle.rules.specs.Rules.{Rule, literals, satisfies, Fits, clauses, odds, numbers}
use Rattle.stores.specs.Stores.{Store, Satisfies}
use Rattle.stores.specs.Joins.{joins}
use Rattle.rules.specs.declared.kind.Kind.TheVariants.{Clause, Odd}
use Rattle.meaning.specs.Listed.{listed}
use Rattle.meaning.specs.Tables.{ends, open_fault}

-- the rules of a file: within the limits, over n variables, none of them twice in a rule
pub record Ruled (n : ℕ) (rs : List Rule) : Type 0 where
  pub few_vars : n ≤ 2048
  pub few_rules : length rs ≤ 16384
  pub fit : Each (λ r. Fits n (literals r)) rs

-- its clauses as one store and its odd rules as another, joined
abbrev pub joined_rules : ℕ → List Rule → Store
joined_rules n rs = joins (listed Clause n (clauses rs)) (listed Odd n (odds rs))

-- a store is satisfied by just the full assignments that satisfy the rules
pub record MeansRules (s : Store) (n : ℕ) (rs : List Rule) : Type 0 where
  pub sound : (a : List ℕ) → Satisfies s a → Full n a × (satisfies a rs ≡ true)
  pub whole : (a : List ℕ) → Full n a → satisfies a rs ≡ true → Satisfies s a

-- ---- two tables, one of clauses and one of odd rules
-- the tables that a reader fills for the rules
pub record Filled (n : ℕ) (rs : List Rule) (c o : List ℤ) : Type 0 where
  pub ruled : Ruled n rs
  pub clauses_are : c ≡ numbers (clauses rs)
  pub odds_are : o ≡ numbers (odds rs)

-- what opening both refuses: the first fault of the clauses, then that of the odd rules, then too many rules together
abbrev pub or_fault : Option (ℕ × ℕ) → Option (ℕ × ℕ) → Option (ℕ × ℕ)
or_fault (some x) g = some x
or_fault none g = g

abbrev pub together_fault : List ℤ → List ℤ → Option (ℕ × ℕ)
together_fault c o = cond (nat_lt 16384 (ends c + ends o)) (some (19, 0)) none

abbrev pub both_fault : ℕ → List ℤ → List ℤ → Option (ℕ × ℕ)
both_fault n c o = or_fault (open_fault n c) (or_fault (open_fault n o) (together_fault c o))
