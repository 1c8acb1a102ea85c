use Rattle.std.proofs.Common.{◌≡◌, true, drop, sym, ap, ◌∙◌, subst}
use Rattle.meaning.specs.Tables.{parts, opens}
use Rattle.tables.proofs.Places.{opens_from, parts_from, rest_all}
use Rattle.tables.proofs.table.Table.from.Goals as goal

pub returns-clause-sound : goal.returns-clause-sound
returns-clause-sound c =
    let s = c.args.self.now in
    ap (opens s.vars) (rest_all s.table.now c.start.result) ∙ subst (λ a. opens s.vars (drop a s.table.now) ≡ true) (sym c.start.ensures.value) (opens_from s.vars s.table.now s.sound c.args.rule)

pub returns-clause-parts : goal.returns-clause-parts
returns-clause-parts c =
    let s = c.args.self.now in
    ap parts (rest_all s.table.now c.start.result) ∙ ap (λ a. parts (drop a s.table.now)) c.start.ensures.value ∙ parts_from s.vars s.table.now s.sound c.args.rule
