use Rattle.std.proofs.Common.{◌≡◌, ◌≤◌, length}
use Rattle.meaning.specs.Tables.{parts, start_of}
use Rattle.tables.proofs.table.Table.start.Given as goal

-- the rule k begins here
abbrev pub invariant-loop-k : goal.invariant-loop-k
invariant-loop-k l = (l.at ≡ start_of (parts l.self.table.now) l._k) × (l.at ≤ length l.self.table.now)
