use Rattle.std.proofs.Common.{◌≡◌, get_or, drop, ℤ, pos, nat_abs, sym, ap, ◌∙◌, subst, arith, w32, SFits, to_z, of_z, rules}
use Rattle.std.proofs.lemmas.Int.{to_z-of_z}
use Rattle.std.proofs.lemmas.List.{at_drop_all}
use Rattle.meaning.specs.Tables.{has_var}
use Rattle.tables.proofs.Checking.{has_yes, has_no}
use Rattle.tables.proofs.opening.has_var.Goals as goal

-- a parameter of a signed type stands in an invariant by its bits
kept : (c : goal.After-loop-y) → has_var (drop c.loop-y.y-index c.args.literals.now) c.args.literal ≡ has_var c.args.literals.now c.args.literal
kept c = subst (λ y. has_var (drop c.loop-y.y-index c.args.literals.now) y ≡ has_var c.args.literals.now y) (to_z-of_z w32 c.args.literal c.ranges.literal) c.loop-y.invariant

pub returns-then-unsigned_abs-v : goal.returns-then-unsigned_abs-v
returns-then-unsigned_abs-v c =
    let z : ℤ = get_or c.args.literals.now c.loop-y.y-index (pos 0) in
    let f : SFits w32 z = search rules in
    let e : to_z w32 (of_z w32 z) ≡ z = to_z-of_z w32 z f in
    let g : to_z w32 (of_z w32 c.args.literal) ≡ c.args.literal = to_z-of_z w32 c.args.literal c.ranges.literal in
    let v : nat_abs z ≡ nat_abs c.args.literal = sym (c.unsigned_abs.ensures.value ∙ ap nat_abs e) ∙ c.if-unsigned_abs-v.true ∙ c.unsigned_abs-v.ensures.value ∙ ap nat_abs g in
    sym (has_yes c.args.literals.now c.args.literal c.loop-y.y-index (omega arith) v)
    ∙ subst (λ y. has_var (drop c.loop-y.y-index c.args.literals.now) y ≡ has_var c.args.literals.now y) g c.loop-y.invariant

pub loop-y-preserved : goal.loop-y-preserved
loop-y-preserved c =
    let z : ℤ = get_or c.args.literals.now c.loop-y.y-index (pos 0) in
    let f : SFits w32 z = search rules in
    let v : c.unsigned_abs.result ≡ nat_abs z = c.unsigned_abs.ensures.value ∙ ap nat_abs (to_z-of_z w32 z f) in
    sym (has_no c.args.literals.now _ c.loop-y.y-index (omega arith) (λ e. c.if-unsigned_abs-v.false (v ∙ e ∙ sym c.unsigned_abs-v.ensures.value))) ∙ c.loop-y.invariant

pub returns : goal.returns
returns c = sym (at_drop_all (λ xs. has_var xs c.args.literal) c.args.literals.now c.loop-y.y-index (omega arith)) ∙ kept c
