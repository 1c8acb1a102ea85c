use Rattle.std.proofs.Common.{◌≡◌, refl, sym, ap, ◌∙◌, arith}
use Rattle.std.specs.Prelude.{◌==◌}
use Rattle.std.proofs.lemmas.Bool.Decides.{nat_tests}
use Rattle.std.proofs.lemmas.List.Quantifiers.{position-Some}
use Rattle.book.specs.declared.held.Loan.{Loan}
use Rattle.holder.specs.Held.{loans_of}
use Rattle.holder.proofs.Taking.{none_found, one_less}
use Rattle.holder.proofs.held.Loans.take.Goals as goal

pub returns-in_err-i : goal.returns-in_err-i
returns-in_err-i c = rw c.from_residual.ensures (none_found c.args.cube (loans_of c.args.self.now) (sym c.find.ensures ∙ c.in_err-i.was), refl)

pub returns : goal.returns
returns c =
    let ls = loans_of c.args.self.now in
    let l = c.remove.result in
    let value = c.remove.ensures.value in
    let at = position-Some (λ (x : Loan). x.cube == c.args.cube) ls c.in_ok-i.i l (sym c.find.ensures ∙ c.in_ok-i.was) in
    let of_cube : l.cube ≡ c.args.cube = grind (arith, nat_tests, at, value) in
    record {
      cube_is = of_cube;
      fresh = ap (λ z. z.settled) value ∙ c.args.self.now.fresh c.in_ok-i.i l at.0;
      counts = λ k. (let less = one_less k ls c.in_ok-i.i l at.0 in grind (arith, less, value, of_cube, c.remove.ensures.by_index));
      room = omega arith;
    }
