use Rattle.std.proofs.Common.{◌≡◌, ◌++◌, IfOk, string_bytes, codes, decimal, subst, rules}
use Rattle.report.proofs.lines.refused.Goals as goal

pub returns : goal.returns
returns c =
    let h : IfOk c.format.result (λ s. string_bytes s ≡ codes "refused," ++ (decimal c.number-number.result ++ (codes "," ++ (decimal c.args.fault.place ++ codes "\n")))) = search rules in
    subst (λ n. IfOk c.format.result (λ s. string_bytes s ≡ codes "refused," ++ (decimal n ++ (codes "," ++ (decimal c.args.fault.place ++ codes "\n"))))) c.number-number.ensures h
