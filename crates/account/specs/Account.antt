-- The account of the tree: what a splitter stands for, and the calls on it.
use Rattle.std.specs.Prelude.{ℕ, Bool, List, [], ◌∷◌, replicate, ℤ}
use Rattle.std.proofs.Math.Option.{Option, none}
use Rattle.outlet.specs.Entries.{Entry}
use Rattle.book.specs.declared.held.Mark.{Mark}
use Rattle.book.specs.declared.held.Word.{Word}
use Rattle.cutoff.specs.declared.kinds.Cutoff.{Cutoff}

-- a branch: its decisions, oldest first, and the partial beside them
pub record Branch : Type 0 where
  pub decisions : List ℤ
  pub partial : List ℕ

-- The cutoff, the open branches with the current one first, what was written to the outlet, the state of each cube,
-- the model if one is kept, and how many steps were accepted.
pub record Account : Type 0 where
  pub cutoff : Cutoff
  pub pile : List Branch
  pub entries : List Entry
  pub states : List Mark
  pub kept : Option (List ℕ)
  pub steps : ℕ

-- at first one branch is open, without decisions and all free
abbrev pub root : ℕ → Branch
root n = record { decisions = []; partial = replicate n 0 }

abbrev pub first : ℕ → Cutoff → Account
first n c = record { cutoff = c; pile = root n ∷ []; entries = []; states = []; kept = none; steps = 0 }

-- of an outlet the account takes only which next entries fit
abbrev pub Fitting : Type 0
Fitting = List Entry → Entry → Bool

-- A step is given a store with n variables and m rules, and bytes of scratch; an offer a store and an assignment;
-- lend and settle a cube's number, settle also what the holder says of it.
pub data Call : Type 0 where
  step : ℕ → ℕ → ℕ → Call
  cut : Call
  lend : ℕ → Call
  settle : ℕ → Word → Call
  offer : ℕ → ℕ → List ℕ → Call
  verdict : Call

-- what a verdict says
pub data Opinion : Type 0 where
  a_model : Opinion
  undecided : Opinion
  none_is : Opinion

-- A step decides a literal, refutes, writes a cube of this number, or finds a model; a cut writes a cube; a cube is lent
-- or settled; an offer is kept; a verdict has counts; a refusal has its number, and a place or a value, else 0.
pub data Answer : Type 0 where
  decides : ℤ → Answer
  refutes : Answer
  cubes : ℕ → Answer
  models : Answer
  cuts : ℕ → Answer
  lends : ℕ → Answer
  settles : Word → ℕ → Answer
  keeps : Answer
  says : Opinion → List ℕ → Answer
  refused : ℕ → ℕ → Answer

-- what a call answers, and the account after it
pub record Turn : Type 0 where
  pub answer : Answer
  pub account : Account
