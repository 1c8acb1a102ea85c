use Rattle.std.proofs.Common.{◌≡◌, length, get_or, ℤ, pos, nat_abs, sym, refl, ap, ◌∙◌, arith, w32, SFits, to_z, of_z, rules}
use mathlib.Core.Option.{some}
use Rattle.std.proofs.lemmas.Int.{to_z-of_z}
use Rattle.std.specs.List.{between}
use Rattle.meaning.specs.Tables.{has_var}
use Rattle.tables.proofs.Rows.{end_bits, lit_bits}
use Rattle.tables.proofs.Checking.{checked_end, checked_lit, checked_above, checked_twice, checked_unended, checked_none}
use Rattle.tables.proofs.opening.check_rules.Goals as goal
use Rattle.tables.proofs.opening.check_rules.Goals.{then-z-eq0, else-z-eq0+else-unsigned_abs-vars+else-has_var}

pub returns-then-unsigned_abs-vars : goal.returns-then-unsigned_abs-vars
returns-then-unsigned_abs-vars c =
    let z : ℤ = get_or c.args.table.now c.loop-i.i (pos 0) in
    let f : SFits w32 z = search rules in
    let v : c.unsigned_abs.result ≡ nat_abs z = c.unsigned_abs.ensures.value ∙ ap nat_abs (to_z-of_z w32 z f) in
    checked_above c.loop-i.invariant z (omega arith) refl (lit_bits z c.if-z-eq0.false) (omega (arith, v))

pub returns-then-has_var : goal.returns-then-has_var
returns-then-has_var c =
    let z : ℤ = get_or c.args.table.now c.loop-i.i (pos 0) in
    let f : SFits w32 z = search rules in
    let e : to_z w32 (of_z w32 z) ≡ z = to_z-of_z w32 z f in
    let v : c.unsigned_abs.result ≡ nat_abs z = c.unsigned_abs.ensures.value ∙ ap nat_abs e in
    checked_twice c.loop-i.invariant z (omega arith) refl (lit_bits z c.if-z-eq0.false) (omega (arith, v)) (ap (has_var (between c.loop-i.start c.loop-i.i c.args.table.now)) (sym e) ∙ sym c.if-has_var.ensures)

pub loop-i-preserved : goal.loop-i-preserved
loop-i-preserved c =
    let z : ℤ = get_or c.args.table.now c.loop-i.i (pos 0) in
    let f : SFits w32 z = search rules in
    elim c.if-z-eq0.branch [
      | then-z-eq0 w ↦ checked_end c.loop-i.invariant z (omega arith) refl (end_bits z f w.if-z-eq0.true) _ w.start-is
      | else-z-eq0+else-unsigned_abs-vars+else-has_var w ↦
          let e : to_z w32 (of_z w32 z) ≡ z = to_z-of_z w32 z f in
          let v : w.unsigned_abs.result ≡ nat_abs z = w.unsigned_abs.ensures.value ∙ ap nat_abs e in
          checked_lit c.loop-i.invariant z (omega arith) refl (lit_bits z w.if-z-eq0.false) (omega (arith, v, w.if-unsigned_abs-vars.false)) (ap (has_var (between c.loop-i.start c.loop-i.i c.args.table.now)) (sym e) ∙ sym w.if-has_var.ensures) _ w.start-is
    ]

pub returns-then-start-table : goal.returns-then-start-table
returns-then-start-table c =
    let at_end : c.loop-i.i ≡ length c.args.table.now = omega arith in
    ap (λ i. some (15, i)) (sym at_end) ∙ checked_unended c.loop-i.invariant at_end (omega arith)

pub returns : goal.returns
returns c = checked_none c.loop-i.invariant (omega arith) (omega arith)
