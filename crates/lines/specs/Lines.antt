-- Entries as text: a line for each.
use Rattle.std.specs.Prelude.{ℕ, ◌+◌, ◌^◌, ◌<◌, List, [], ◌∷◌, ◌++◌, ℤ, decimal, flat_map}
use Rattle.std.specs.Int.Signed.{mag}
use Rattle.std.specs.Fmt.{signed_decimal}
use Rattle.std.specs.List.{AllByRecursion}
use Rattle.outlet.specs.declared.kinds.Kind.{Kind}
use Rattle.outlet.specs.declared.kinds.Kind.TheVariants.{Cube, Learnt}
use Rattle.lines.specs.declared.write.Line.{Line}
use Rattle.outlet.specs.Entries.{Entry, cube, learnt, literals}

-- `C` or `L`
abbrev pub letter : Kind → ℕ
letter Cube = 67
letter Learnt = 76

-- literals in decimal, each after a space,
abbrev pub spaced : List ℤ → List ℕ
spaced = flat_map (λ l. 32 ∷ signed_decimal l)

-- or parted by single spaces
abbrev pub parted : List ℤ → List ℕ
parted [] = []
parted (l ∷ ls) = signed_decimal l ++ spaced ls

-- a letter, the number within the kind and the literals, commas between the three, and a line feed
abbrev pub line : Kind → ℕ → List ℤ → List ℕ
line k n ls = letter k ∷ 44 ∷ (decimal n ++ (44 ∷ (parted ls ++ 10 ∷ [])))

abbrev pub line_of : Line → List ℕ
line_of l = line l.kind l.number l.lits.now

-- the lines of entries that come after c cubes and l learnt clauses
abbrev pub lines : ℕ → ℕ → List Entry → List ℕ
lines c l [] = []
lines c l (cube ls ∷ es) = line Cube (c + 1) ls ++ lines (c + 1) l es
lines c l (learnt ls ∷ es) = line Learnt (l + 1) ls ++ lines c (l + 1) es

abbrev pub text : List Entry → List ℕ
text es = lines 0 0 es

-- how many entries are cubes, and how many are learnt clauses
abbrev pub cubes_in : List Entry → ℕ
cubes_in [] = 0
cubes_in (cube ls ∷ es) = cubes_in es + 1
cubes_in (learnt ls ∷ es) = cubes_in es

abbrev pub learnt_in : List Entry → ℕ
learnt_in [] = 0
learnt_in (cube ls ∷ es) = learnt_in es
learnt_in (learnt ls ∷ es) = learnt_in es + 1

abbrev pub of_kind : Kind → ℕ → ℕ → ℕ
of_kind Cube c l = c
of_kind Learnt c l = l

-- a literal is a signed number of 32 bits
abbrev pub Narrow : ℤ → Type 0
Narrow l = mag l < 2 ^ 31

abbrev pub NarrowEntry : Entry → Type 0
NarrowEntry e = AllByRecursion Narrow (literals e)
