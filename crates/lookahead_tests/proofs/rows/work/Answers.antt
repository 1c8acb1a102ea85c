use Rattle.std.proofs.Common.{◌≡◌, ℕ, zero, suc, ◌-◌, ◌≤◌, List, [], ◌∷◌, length, take, subst, arith}
use Rattle.std.proofs.lemmas.List.{length-take-le}
use Rattle.rules.specs.Literals.{Partial, free}
use Rattle.lookahead_tests.proofs.rows.work.Goals as goal

free_low : (p : List ℕ) → free p ≤ length p
free_low [] = omega arith
free_low (zero ∷ p) = omega (arith, free_low p)
free_low (suc b ∷ p) = omega (arith, free_low p)

pub node-requires : goal.node-requires
node-requires g c =
    let p = c.args.partial.now in
    let blank : List ℕ = 0 ∷ 0 ∷ 0 ∷ 0 ∷ 0 ∷ 0 ∷ 0 ∷ [] in
    let few : length p ≤ 7 = omega arith in
    let room : length p - 0 ≤ length blank = omega arith in
    let free_few : free p ≤ 7 = omega (arith, free_low p) in
    let long : length (take (length p - 0) blank) ≡ length p = omega (arith, length-take-le (length p - 0) blank room) in
    (subst (λ n. Partial n p) c.variables.ensures (c.is_partial.ensures.fits c.if-not-is_partial.false), (long, (free_few, free_few)))
