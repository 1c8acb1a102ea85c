-- What the looks at a table's rules have left.
use Rattle.std.specs.Prelude.{List, map}
use Rattle.stores.specs.declared.look.Look.{Look}
use Rattle.meaning.specs.Listed.{look_at}
use Rattle.meaning.specs.Tables.{parts}
use Rattle.tables.specs.declared.table.Looks.{Looks}

abbrev pub looks_left : Looks → List Look
looks_left s = map (look_at s.kind s.partial.now) (parts s.table.now)
