-- The code's answers and memory as the definitions have them.
use Rattle.std.specs.Prelude.{◌≡◌, ℕ, zero, suc, ◌≤◌, true, false, cond, List, [], ◌∷◌, ◌++◌, map, length, take, ℤ, Some, None, Option, Ok, Err, Result}
use Rattle.std.proofs.Math.Option.{Option as Best, none, some}
use Rattle.rules.specs.Literals.{put, is_true, Literal, Each}
use Rattle.stores.specs.Stores.{Store}
use Rattle.stores.specs.Walks.{gained}
use Rattle.closing.specs.declared.ending.Clash.{Clash}
use Rattle.stack.specs.declared.kinds.Record.{Record}
use Rattle.cutoff.specs.declared.kinds.Cutoff.{Cutoff}
use Rattle.lookahead.specs.declared.kinds.Gains.{Gains}
use Rattle.lookahead.specs.declared.trials.Kept.{Kept}
use Rattle.lookahead.specs.declared.trials.Left.{Left}
use Rattle.lookahead.specs.declared.trials.Left.TheVariants as side
use Rattle.lookahead.specs.declared.kinds.Outcome.{Outcome}
use Rattle.lookahead.specs.declared.kinds.Outcome.TheVariants as outcome
use Rattle.lookahead.specs.Trials.{Scored, Pass, dead, alive, scored, rank_of, literal_of}
use Rattle.lookahead.specs.Nodes.{Node, refuted, model, cube, decided, Worked}

-- what a byte is in the model
abbrev pub model_byte : ℕ → ℕ
model_byte zero = 2
model_byte (suc b) = suc b

-- What is new at place i, where p has the byte x and q the byte y.
abbrev pub new_at : ℕ → ℕ → ℕ → Option ℤ
new_at i zero zero = None
new_at i zero (suc zero) = Some (literal_of i true)
new_at i zero (suc (suc b)) = Some (literal_of i false)
new_at i (suc x) y = None

abbrev pub added : Option ℤ → List ℤ → List ℤ
added None ls = ls
added (Some l) ls = l ∷ ls

-- The literals that q sets and p does not, from place i on. They stand on unused trail places.
abbrev pub news : ℕ → List ℕ → List ℕ → List ℤ
news i [] q = []
news i (x ∷ p) [] = []
news i (x ∷ p) (y ∷ q) = added (new_at i x y) (news (suc i) p q)

-- P with these literals set, one after another
abbrev pub set_all : List ℕ → List ℤ → List ℕ
set_all p [] = p
set_all p (l ∷ ls) = set_all (put p l) ls

-- the literals that are true on the other side too
abbrev pub held : List ℕ → List ℤ → List ℤ
held r [] = []
held r (l ∷ ls) = cond (is_true r l) (l ∷ held r ls) (held r ls)

-- the sides that are left, by how the true side and the false side ended
abbrev pub sides_left : Result Kept Clash → Result (Unit {0}) Clash → Result Left Clash
sides_left (Err e) (Err f) = Err f
sides_left (Err e) (Ok u) = Ok side.False
sides_left (Ok k) (Err e) = Ok (side.True k)
sides_left (Ok k) (Ok u) = Ok (side.Both k)

-- a turn in which both sides closed, by how closing what they share ended
abbrev pub ranked_by : Result (Unit {0}) Clash → Gains → Result (Option Gains) Clash
ranked_by (Err e) g = Err e
ranked_by (Ok u) g = Ok (Some g)

-- What is kept of the true side that left q, where it closed: its gain, and its new literals at the start of the places.
pub record Taken (s : Store) (p q : List ℕ) (places : List ℤ) (gain k : ℕ) : Type 0 where
  pub gains : gain ≡ gained s p q
  pub few : k ≤ length places
  pub front : take k places ≡ news 0 p q
  pub literals : Each (Literal (length p)) (take k places)

-- how a pass goes on after a variable's turn that left p
abbrev pub goes_on : Result (Option Gains) Clash → (List ℕ → List Scored → Pass) → List ℕ → ℕ → List Scored → Pass
goes_on (Err e) go p i xs = dead
goes_on (Ok None) go p i xs = go p xs
goes_on (Ok (Some g)) go p i xs = go p (xs ++ (scored i (rank_of g.yes g.no) ∷ []))

-- A scored variable stands in an unused branch record: its literal as the decision, its score as the height.
abbrev pub noted : Record → Scored
noted r = record { literal = r.decision; score = r.height }

-- the pass's answer: refuted, or how many variables were scored
abbrev pub passed : Result ℕ Clash → List ℕ → List Record → Pass
passed (Err e) p notes = dead
passed (Ok k) p notes = alive p (map noted (take k notes))

-- the best so far, as the code holds it, and the literal of the best
abbrev pub best_note : Option Record → Best Scored
best_note None = none
best_note (Some r) = some (noted r)

abbrev pub literal_in : Best Scored → Option ℤ
literal_in none = None
literal_in (some x) = Some x.literal

-- what becomes of a branch that is neither settled nor cut, by the literal that was chosen
abbrev pub decided_as : Option ℤ → Outcome
decided_as None = outcome.Cube
decided_as (Some l) = outcome.Decided l

-- the node's answer, with the partial that it leaves
abbrev pub node_of : Outcome → List ℕ → Node
node_of outcome.Refuted p = refuted
node_of outcome.Model p = model p
node_of outcome.Cube p = cube
node_of (outcome.Decided l) p = decided l p

abbrev pub worked : Cutoff → Outcome → List ℕ → Worked
worked c r p = record { cutoff = c; result = node_of r p }
