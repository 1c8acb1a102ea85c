-- The store of a table that was opened.
use Rattle.std.proofs.Common.{◌≡◌, ℕ, List, ℤ, ap, ◌∙◌, Bor}
use Rattle.rules.specs.declared.kind.Kind.{Kind}
use Rattle.meaning.specs.Listed.{listed}
use Rattle.meaning.specs.Tables.{parts}
use Rattle.tables.specs.declared.table.Table.{Table}
use Rattle.tables.specs.Laws.{table_store}

pub opened_store : (s : Table) (kind : Kind) (table : Bor (List ℤ)) (n : ℕ) → s.kind ≡ kind → s.table ≡ table → s.vars ≡ n → table_store s ≡ listed kind n (parts table.now)
opened_store s kind table n a b c = ap (λ k. listed k s.vars (parts s.table.now)) a ∙ ap (λ m. listed kind m (parts s.table.now)) c ∙ ap (λ u. listed kind n (parts u.now)) b
