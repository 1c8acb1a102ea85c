-- How many entries of each kind there are, and the line that comes next.
use Rattle.std.specs.Prelude.{ℕ, ◌+◌, List, ℤ}
use Rattle.outlet.specs.declared.kinds.Kind.{Kind}
use Rattle.outlet.specs.declared.kinds.Kind.TheVariants.{Cube, Learnt}
use Rattle.outlet.specs.Entries.{Entry}
use Rattle.lines.specs.Lines.{line, of_kind, cubes_in, learnt_in}
use Rattle.textoutlet.specs.declared.counts.Counts.{Counts}

abbrev pub counts_of : List Entry → Counts
counts_of es = record { cubes = cubes_in es; learnt = learnt_in es }

-- one more of a kind
abbrev pub counted : Kind → Counts → Counts
counted Cube c = record { cubes = c.cubes + 1; learnt = c.learnt }
counted Learnt c = record { cubes = c.cubes; learnt = c.learnt + 1 }

-- the line of an entry that comes after so many
abbrev pub next_line : Counts → Kind → List ℤ → List ℕ
next_line c k ls = line k (of_kind k c.cubes c.learnt + 1) ls
