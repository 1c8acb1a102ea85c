-- What the parts of the reader do to the words that are ahead: ts before, ts' after.
use Rattle.std.specs.Prelude.{◌≡◌, ℕ, ◌+◌, ◌≤◌, List, [], ◌++◌, length, drop, ℤ, Some, None, Ok, Err, Option, Result}
use Rattle.rules.specs.declared.fault.Fault.{Fault}
use Rattle.reader.specs.declared.parts.Shape.{Shape}
use Rattle.reader.specs.declared.parts.Plan.{Plan}
use Rattle.reader.specs.declared.counts.Counts.{Counts}
use Rattle.reader.specs.declared.counts.Size.{Size}
use Rattle.rules.specs.declared.kind.Kind.{Kind}
use Rattle.rules.specs.declared.kind.Kind.TheVariants.{Clause, Odd}
use Rattle.rules.specs.Rules.{Rule}
use Rattle.reader.specs.declared.parts.Header.{Header}
use Rattle.reader.specs.declared.cursor.Mode.TheVariants.{Start}
use Rattle.reader.specs.Lines.{lines}
use Rattle.reader.specs.Tokens.{Token, tokens}
use Rattle.reader.specs.Left.{left}
use Rattle.reader.specs.Reading.{scan, between, inside, rule_of, with_rule, find_header, parse, counts_of}

-- after the literals ls of a rule: as many more as counted, and the rule ends; or the fault that the whole text has
abbrev pub LiteralsRead : ℕ → ℕ → List ℤ → List Token → List Token → Result ℕ Fault → Type 0
LiteralsRead n end ls ts ts' (Ok count) = (more : List ℤ) × (length more ≡ count) × ((k : Kind) → scan n end (inside k ls) ts ≡ with_rule (rule_of k (ls ++ more)) (scan n end between ts'))
LiteralsRead n end ls ts ts' (Err f) = (k : Kind) → scan n end (inside k ls) ts ≡ Err f

-- between two rules: one rule of that shape, or none is left, or the fault
abbrev pub RuleRead : ℕ → ℕ → List Token → List Token → Result (Option Shape) Fault → Type 0
RuleRead n end ts ts' (Ok (Some s)) = (ls : List ℤ) × (length ls ≡ s.literals) × (scan n end between ts ≡ with_rule (rule_of s.kind ls) (scan n end between ts'))
RuleRead n end ts ts' (Ok None) = scan n end between ts ≡ Ok []
RuleRead n end ts ts' (Err f) = scan n end between ts ≡ Err f

-- from the place at on: a header, after which the words ts of the next line on are ahead; or the fault
abbrev pub HeaderRead : List ℕ → ℕ → List Token → Result Header Fault → Type 0
HeaderRead text at ts (Ok h) = (next : ℕ) × (find_header (length text) at (lines (drop at text)) ≡ Ok (record { head = record { variables = h.variables; rules = h.rules }; next = next })) × (ts ≡ tokens next Start (drop next text))
HeaderRead text at ts (Err f) = find_header (length text) at (lines (drop at text)) ≡ Err f

-- one rule of n literals more in a table, which holds them and a 0
abbrev pub one_more : ℕ → Size → Size
one_more n s = record { rules = s.rules + 1; numbers = s.numbers + n + 1 }

abbrev pub kind_more : Counts → Kind → ℕ → Counts
kind_more c Clause n = record { variables = c.variables; clauses = one_more n c.clauses; odds = c.odds }
kind_more c Odd n = record { variables = c.variables; clauses = c.clauses; odds = one_more n c.odds }

abbrev pub counted_with : Counts → Shape → Counts
counted_with c s = kind_more c s.kind s.literals

-- all the rules that are ahead, counted, or the fault
abbrev pub RulesRead : ℕ → ℕ → List Token → Result Counts Fault → Type 0
RulesRead n end ts (Ok c) = (rs : List Rule) × (scan n end between ts ≡ Ok rs) × (c ≡ counts_of (record { variables = n; rules = rs }))
RulesRead n end ts (Err f) = scan n end between ts ≡ Err f

-- the text is well formed, is counted, and has its rules' words ahead; or the fault
pub record Planned (text : List ℕ) (p : Plan) : Type 0 where
  pub rules : List Rule
  pub parsed : parse text ≡ Ok (record { variables = p.counts.variables; rules = rules })
  pub scanned : scan p.counts.variables (length text) between (left p.ahead) ≡ Ok rules
  pub counted : p.counts ≡ counts_of (record { variables = p.counts.variables; rules = rules })
  pub few : p.counts.variables ≤ 2048

abbrev pub Checked : List ℕ → Result Plan Fault → Type 0
Checked text (Ok p) = Planned text p
Checked text (Err f) = parse text ≡ Err f
