use Rattle.std.proofs.Common.{◌≡◌, ◌≤◌, Ok, sym, refl, ap, ◌∙◌, subst}
use Rattle.stores.specs.Numbers.{answer_of}
use Rattle.stores.specs.Stores.{look_reply}
use Rattle.stores.proofs.Replies.{replied, said}
use Rattle.tables.specs.Laws.{table_store, table_laws}
use Rattle.tables.proofs.Places.{rule_from}
use Rattle.tables.proofs.looks.TableRules.look.Goals as goal

pub returns-then-is_partial-clause-says : goal.returns-then-is_partial-clause-says
returns-then-is_partial-clause-says c =
    let s = c.args.self.now in
    let p = c.args.partial.now in
    let h = rule_from s.rules c.args.rule c.if-not-has_rule.ensures in
    let high : c.args.rule ≤ (table_store s).m = subst (λ m. c.args.rule ≤ m) (sym s.counted) h.1 in
    let e : answer_of c.seen.result ≡ look_reply (table_store s) c.args.rule p = ap answer_of c.seen.ensures ∙ sym (replied (table_store s) c.args.rule p h.0 high (c.if-is_partial.ensures.fits refl)) in
    said (table_store s) c.args.rule p (table_laws.keeps s) (Ok c.seen.result) e
