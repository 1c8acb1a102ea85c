use Rattle.std.proofs.Common.{◌≡◌, ℕ, ◌≤◌, true, cond, List, pos, sym, ap, ◌∙◌, subst, arith}
use Rattle.stores.specs.Numbers.{answer_of}
use Rattle.stores.specs.Stores.{Means, is_partial, answers}
use Rattle.lookahead_tests.specs.Contrary.{contrary, contrary_keeps}
use Rattle.lookahead_tests.proofs.contrary.ContraryRules.look.Goals as goal

asked : (r : ℕ) (p : List ℕ) → r ≡ 1 → is_partial 4 p ≡ true → answers contrary r p ≡ true
asked r p e f = ap (λ k. answers contrary k p) e ∙ f

pub returns-then-is_partial : goal.returns-then-is_partial
returns-then-is_partial c =
    let r = c.args.rule in
    let p = c.args.partial.now in
    let fits = c.is_partial.ensures.fits c.if-is_partial.true in
    let there = asked r p c.if-rule-eq1.true (sym c.if-is_partial.ensures.value) in
    let low : 1 ≤ r = omega arith in
    let high : r ≤ 1 = omega arith in
    record {
      value = ap answer_of c.look_by.ensures ∙ ap (λ b. cond b (answer_of (contrary.look r p)) (18, pos 0)) (sym there);
      says = subst (Means contrary r p) (sym c.look_by.ensures) (contrary_keeps r p low high fits);
    }
