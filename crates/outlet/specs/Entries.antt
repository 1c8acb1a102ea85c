-- What an outlet holds: entries, each a cube or a learnt clause, with its literals.
use Rattle.std.specs.Prelude.{◌≡◌, ℕ, Bool, cond, List, [], ◌∷◌, ◌++◌, ℤ, Ok, Err, Result}
use Rattle.outlet.specs.declared.kinds.Kind.{Kind}
use Rattle.outlet.specs.declared.kinds.Kind.TheVariants.{Cube, Learnt}
use Rattle.outlet.specs.declared.kinds.Refusal.{Refusal}
use Rattle.outlet.specs.declared.kinds.Refusal.TheVariants.{NoRoom}

pub data Entry : Type 0 where
  cube : List ℤ → Entry
  learnt : List ℤ → Entry

abbrev pub entry_of : Kind → List ℤ → Entry
entry_of Cube ls = cube ls
entry_of Learnt ls = learnt ls

abbrev pub literals : Entry → List ℤ
literals (cube ls) = ls
literals (learnt ls) = ls

abbrev pub number_of : Refusal → ℕ
number_of NoRoom = 24

-- an entry that fits is taken and stands last; otherwise 24 comes and the list stays
abbrev pub put_reply : Bool → Result (Unit {0}) Refusal
put_reply fit = cond fit (Ok tt) (Err NoRoom)

abbrev pub put_after : Bool → List Entry → Entry → List Entry
put_after fit es e = cond fit (es ++ e ∷ []) es

-- What every outlet owes of its meaning, and of what its puts keep: an outlet means one list only,
-- and what each put keeps is kept by any number of them.
pub record OutletLaws {S : Type 0} (means : S → List Entry → Type 0) (keeps : S → S → Type 0) : Type 0 where
  pub one_list : (o : S) (es fs : List Entry) → means o es → means o fs → es ≡ fs
  pub keeps_none : (o : S) → keeps o o
  pub keeps_more : (o p q : S) → keeps o p → keeps p q → keeps o q
