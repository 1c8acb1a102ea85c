-- The open branches, as the splitter's trail and branch records hold them.
use Rattle.std.specs.Prelude.{◌≡◌, ℕ, ◌+◌, ◌<◌, Bool, true, false, cond, List, [], ◌∷◌, ◌++◌, length, take, replicate, ℤ, pos, neg_ℤ, slice_index_or}
use Rattle.std.proofs.Math.Option.{Option, none, some}
use Rattle.rules.specs.Literals.{put, free, Literal, Each}
use Rattle.stack.specs.declared.kinds.Record.{Record}
use Rattle.lookahead.specs.Answers.{set_all}
use Rattle.account.specs.Account.{Branch}

-- the partial of a trail, oldest literal first
abbrev pub partial_of : ℕ → List ℤ → List ℕ
partial_of n trail = set_all (replicate n 0) trail

-- the literal of the side that is being searched
abbrev pub taken : Record → ℤ
taken r = cond r.second (neg_ℤ r.decision) r.decision

-- the decisions of the current branch; records come newest first
abbrev pub path : List Record → List ℤ
path [] = []
path (r ∷ rs) = path rs ++ (taken r ∷ [])

-- the second side of a record whose first side is being searched
abbrev pub second_side : ℕ → List ℤ → Record → List Record → Branch
second_side n trail r rs =
    record { decisions = path rs ++ (neg_ℤ r.decision ∷ []); partial = put (partial_of n (take r.height trail)) (neg_ℤ r.decision) }

abbrev pub pending_by : Bool → Branch → List Branch → List Branch
pending_by true b below = below
pending_by false b below = b ∷ below

-- the second sides that have still to be searched, the newest first
abbrev pub pending : ℕ → List ℤ → List Record → List Branch
pending n trail [] = []
pending n trail (r ∷ rs) = pending_by r.second (second_side n trail r rs) (pending n trail rs)

-- the current branch on top of them
abbrev pub pile_of : ℕ → List ℤ → List Record → List Branch
pile_of n trail rs = record { decisions = path rs; partial = partial_of n trail } ∷ pending n trail rs

-- heights rise from record to record, and each is below the trail's end
abbrev pub Tall : ℕ → List Record → Type 0
Tall h [] = Unit {0}
Tall h (r ∷ rs) = (r.height < h) × Tall r.height rs

-- What trail and records keep: each decision stands on the trail at its height, and each literal of the trail, one of
-- the n variables', took a variable that was free.
pub record Fit (n : ℕ) (trail : List ℤ) (rs : List Record) : Type 0 where
  pub tall : Tall (length trail) rs
  pub stands : Each (λ (r : Record). slice_index_or trail r.height (pos 0) ≡ taken r) rs
  pub literals : Each (Literal n) trail
  pub fresh : free (partial_of n trail) + length trail ≡ n

-- trail and records after the current branch is taken off: back to the newest record whose first side is being searched
pub record Place : Type 0 where
  pub trail : List ℤ
  pub records : List Record

abbrev pub back_by : Bool → List ℤ → Record → List Record → Option Place → Option Place
back_by true trail r rs later = later
back_by false trail r rs later =
    some
    (record {
      trail = take r.height trail ++ (neg_ℤ r.decision ∷ []);
      records = record { decision = r.decision; height = r.height; second = true } ∷ rs;
    })

abbrev pub back : List ℤ → List Record → Option Place
back trail [] = none
back trail (r ∷ rs) = back_by r.second trail r rs (back trail rs)

-- the open branches at a place; none where there is no place
abbrev pub open_at : ℕ → Option Place → List Branch
open_at n none = []
open_at n (some q) = pile_of n q.trail q.records

abbrev pub FitAt : ℕ → Option Place → Type 0
FitAt n none = Unit {0}
FitAt n (some q) = Fit n q.trail q.records

-- That trail and records stand for the pile: a decision, and taking the current branch off, do to both alike.
pub record PilesRight (n : ℕ) : Type 0 where
  pub decided :
      (trail more : List ℤ) (rs : List Record) (l : ℤ) → Tall (length trail) rs →
      pile_of n ((trail ++ more) ++ (l ∷ [])) (record { decision = l; height = length (trail ++ more); second = false } ∷ rs)
      ≡ record { decisions = path rs ++ (l ∷ []); partial = put (partial_of n (trail ++ more)) l }
      ∷ record { decisions = path rs ++ (neg_ℤ l ∷ []); partial = put (partial_of n (trail ++ more)) (neg_ℤ l) }
      ∷ pending n trail rs
  pub taken_off : (trail : List ℤ) (rs : List Record) → Tall (length trail) rs → open_at n (back trail rs) ≡ pending n trail rs
  pub back_fits : (trail : List ℤ) (rs : List Record) → Fit n trail rs → FitAt n (back trail rs)
