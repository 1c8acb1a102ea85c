-- A table that opens is a lawful store, of either kind.
use Rattle.stores.specs.Stores.{Store, Lawful}
use Rattle.meaning.specs.Listed.{listed}
use Rattle.meaning.specs.Tables.{parts}
use Rattle.meaning.proofs.Keeps.{listed_keep}
use Rattle.meaning.proofs.Tables.{opened_rules}
use Rattle.tables.specs.declared.table.Table.{Table}

-- the store that a table is: the list of the rules that it holds
abbrev pub table_store : Table → Store
table_store s = listed s.kind s.vars (parts s.table.now)

pub table_laws : Lawful table_store
table_laws =
    record {
      keeps = λ s. listed_keep s.kind s.vars (parts s.table.now) (opened_rules s.vars s.table.now s.sound).fit;
      few_vars = λ s. (opened_rules s.vars s.table.now s.sound).few_vars;
      few_rules = λ s. (opened_rules s.vars s.table.now s.sound).few_rules;
    }
