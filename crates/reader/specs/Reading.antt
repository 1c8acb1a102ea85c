-- What reading a text answers: the rules, or the first thing that is wrong with it.
use Rattle.std.specs.Prelude.{ℕ, ◌+◌, Bool, true, false, cond, ◌&&◌, ◌||◌, List, [], ◌∷◌, ◌++◌, length, drop, ℤ, Some, None, Ok, Err, codes, Option, Result, ◌==◌, nat_le, nat_lt, unsigned_abs}
use Rattle.std.specs.Str.{bytes_eq}
use Rattle.rules.specs.declared.fault.Fault.{Fault}
use Rattle.rules.specs.declared.fault.Reason.{Reason}
use Rattle.rules.specs.declared.fault.Reason.TheVariants.{Header, Form, Variable, Repeated, Unended, Count, Short}
use Rattle.rules.specs.declared.kind.Kind.{Kind}
use Rattle.rules.specs.declared.kind.Kind.TheVariants.{Clause, Odd}
use Rattle.rules.specs.Faults.{faulty}
use Rattle.rules.specs.Literals.{place}
use Rattle.rules.specs.Rules.{Rule, clause, odd, clauses, odds, numbers}
use Rattle.reader.specs.declared.cursor.Mode.TheVariants.{Start}
use Rattle.reader.specs.declared.counts.Counts.{Counts}
use Rattle.reader.specs.declared.counts.Size.{Size}
use Rattle.reader.specs.Lines.{lines, words, comment}
use Rattle.reader.specs.Numerals.{numeral, signed_numeral}
use Rattle.reader.specs.Tokens.{Token, tokens}

-- ---- the header
pub record Head : Type 0 where
  pub variables : ℕ
  pub rules : ℕ

-- numbers within the limits
abbrev pub limited : Option ℕ → Option ℕ → Option Head
limited None c = None
limited (Some v) None = None
limited (Some v) (Some c) = cond (nat_le v 2048 && nat_le c 16384) (Some (record { variables = v; rules = c })) None

-- exactly four words: p, cnf and two numbers
abbrev pub head_of : List (List ℕ) → Option Head
head_of [] = None
head_of (p ∷ []) = None
head_of (p ∷ f ∷ []) = None
head_of (p ∷ f ∷ v ∷ []) = None
head_of (p ∷ f ∷ v ∷ c ∷ []) = cond (bytes_eq p (codes "p") && bytes_eq f (codes "cnf")) (limited (numeral v) (numeral c)) None
head_of (p ∷ f ∷ v ∷ c ∷ w ∷ ws) = None

-- a header, and the place where the next line begins
pub record Found : Type 0 where
  pub head : Head
  pub next : ℕ

abbrev pub found_at : ℕ → List ℕ → Option Head → Result Found Fault
found_at at l None = Err (faulty Header at)
found_at at l (Some h) = Ok (record { head = h; next = at + length l + 1 })

abbrev pub is_silent : List ℕ → List (List ℕ) → Bool
is_silent l [] = true
is_silent l (w ∷ ws) = comment l

-- the first line that is neither blank nor a comment, of lines that begin at the place at; the text ends at end
abbrev pub find_header : ℕ → ℕ → List (List ℕ) → Result Found Fault
find_header end at [] = Err (faulty Header end)
find_header end at (l ∷ ls) = cond (is_silent l (words l)) (find_header end (at + length l + 1) ls) (found_at at l (head_of (words l)))

-- ---- the rules
-- between two rules, or inside one of this kind that has these literals so far
pub data Stage : Type 0 where
  between : Stage
  inside : Kind → List ℤ → Stage

-- what a word says there
pub data Said : Type 0 where
  wrong : Reason → Said
  parity : Said
  gives : ℤ → Said
  ends : Said

-- the variable of z is one of those of the literals
abbrev pub named : ℤ → List ℤ → Bool
named z [] = false
named z (l ∷ ls) = place l == place z || named z ls

abbrev pub literal_says : ℕ → List ℤ → Option ℤ → Said
literal_says n ls None = wrong Form
literal_says n ls (Some z) = cond (unsigned_abs z == 0) ends (cond (nat_lt n (unsigned_abs z)) (wrong Variable) (cond (named z ls) (wrong Repeated) (gives z)))

abbrev pub says : ℕ → Stage → List ℕ → Said
says n between w = cond (bytes_eq w (codes "odd")) parity (literal_says n [] (signed_numeral w))
says n (inside k ls) w = literal_says n ls (signed_numeral w)

-- between two rules a word that is not `odd` belongs to a clause
abbrev pub kind_in : Stage → Kind
kind_in between = Clause
kind_in (inside k ls) = k

abbrev pub so_far : Stage → List ℤ
so_far between = []
so_far (inside k ls) = ls

abbrev pub rule_of : Kind → List ℤ → Rule
rule_of Clause ls = clause ls
rule_of Odd ls = odd ls

abbrev pub with_rule : Rule → Result (List Rule) Fault → Result (List Rule) Fault
with_rule r (Ok rs) = Ok (r ∷ rs)
with_rule r (Err f) = Err f

abbrev pub follow : (Stage → Result (List Rule) Fault) → Stage → ℕ → Said → Result (List Rule) Fault
follow go s at (wrong r) = Err (faulty r at)
follow go s at parity = go (inside Odd [])
follow go s at (gives z) = go (inside (kind_in s) (so_far s ++ (z ∷ [])))
follow go s at ends = with_rule (rule_of (kind_in s) (so_far s)) (go between)

abbrev pub at_end : ℕ → Stage → Result (List Rule) Fault
at_end end between = Ok []
at_end end (inside k ls) = Err (faulty Unended end)

-- the rules of the words, or the first word that is at fault, or an end inside a rule
unfoldable pub scan : ℕ → ℕ → Stage → List Token → Result (List Rule) Fault
scan n end s [] = at_end end s
scan n end s (t ∷ ts) = follow (λ u. scan n end u ts) s t.place (says n s t.bytes)

-- ---- the text
pub record Question : Type 0 where
  pub variables : ℕ
  pub rules : List Rule

abbrev pub counted : ℕ → Head → Result (List Rule) Fault → Result Question Fault
counted end h (Err f) = Err f
counted end h (Ok rs) = cond (length rs == h.rules) (Ok (record { variables = h.variables; rules = rs })) (Err (faulty Count end))

abbrev pub after_header : List ℕ → Result Found Fault → Result Question Fault
after_header text (Err f) = Err f
after_header text (Ok h) = counted (length text) h.head (scan h.head.variables (length text) between (tokens h.next Start (drop h.next text)))

-- a text read whole: its question, or what is wrong with it
unfoldable pub parse : List ℕ → Result Question Fault
parse text = after_header text (find_header (length text) 0 (lines text))

-- both tables are long enough
abbrev pub roomy : ℕ → ℕ → List Rule → Bool
roomy c o rs = nat_le (length (numbers (clauses rs))) c && nat_le (length (numbers (odds rs))) o

-- what a table holds with these rules
abbrev pub size_of : List (List ℤ) → Size
size_of ls = record { rules = length ls; numbers = length (numbers ls) }

abbrev pub counts_of : Question → Counts
counts_of q = record { variables = q.variables; clauses = size_of (clauses q.rules); odds = size_of (odds q.rules) }

-- the answer with tables of c and o places
abbrev pub answer : ℕ → ℕ → ℕ → Result Question Fault → Result Counts Fault
answer end c o (Err f) = Err f
answer end c o (Ok q) = cond (roomy c o q.rules) (Ok (counts_of q)) (Err (faulty Short end))

-- a table after its numbers are laid from its start
abbrev pub laid : List ℤ → List ℤ → List ℤ
laid zs table = zs ++ drop (length zs) table

-- the two tables after the answer: filled if and only if the text is accepted and both are long enough
abbrev pub filled : (List Rule → List (List ℤ)) → ℕ → ℕ → List ℤ → Result Question Fault → List ℤ
filled part c o table (Err f) = table
filled part c o table (Ok q) = cond (roomy c o q.rules) (laid (numbers (part q.rules)) table) table
