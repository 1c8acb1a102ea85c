-- How a branch is laid at the start of the trail's memory, and moved back.
use Rattle.std.specs.Prelude.{ℕ, suc, cond, List, [], ◌∷◌, ℤ, pos, slice_index_or, slice_set}
use Rattle.rules.specs.Literals.{opposite}
use Rattle.stack.specs.declared.kinds.Record.{Record}
use Rattle.outlet.specs.declared.kinds.Kind.{Kind}
use Rattle.outlet.specs.declared.kinds.Kind.TheVariants.{Cube, Learnt}

-- the literal of the side that is being searched, in 32 bits
abbrev pub searched : Record → ℤ
searched r = cond r.second (opposite r.decision) r.decision

-- what a record adds to an entry of this kind
abbrev pub written : Kind → Record → ℤ
written Cube r = searched r
written Learnt r = opposite (searched r)

-- the cell at i goes to the record's height, and the record's literal to i
abbrev pub laid_one : Kind → ℕ → Record → List ℤ → List ℤ
laid_one kind i r cells = slice_set (slice_set cells r.height (slice_index_or cells i (pos 0))) i (written kind r)

-- the cell at the record's height goes to i again, and the side being searched to the height
abbrev pub moved_one : ℕ → Record → List ℤ → List ℤ
moved_one i r cells = slice_set (slice_set cells i (slice_index_or cells r.height (pos 0))) r.height (searched r)

-- all records, oldest first, from place i on: laid from the oldest to the newest, moved back from the newest to the oldest
abbrev pub laid : Kind → ℕ → List Record → List ℤ → List ℤ
laid kind i [] cells = cells
laid kind i (r ∷ rs) cells = laid kind (suc i) rs (laid_one kind i r cells)

abbrev pub moved_back : ℕ → List Record → List ℤ → List ℤ
moved_back i [] cells = cells
moved_back i (r ∷ rs) cells = moved_one i r (moved_back (suc i) rs cells)
