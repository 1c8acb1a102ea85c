use Rattle.std.proofs.Common.{◌≡◌, ◌&&◌, length, sym, ap, ◌∙◌}
use Rattle.std.proofs.lemmas.Bool.{eq-eqb}
use Rattle.stores.specs.Stores.{legal, is_partial}
use Rattle.stores.proofs.Replies.{partial_from}
use Rattle.stores.proofs.partial.is_partial.Goals as goal

pub returns-then-bytes-vars : goal.returns-then-bytes-vars
returns-then-bytes-vars c =
    let p = c.args.bytes.now in
    let n = c.args.vars in
    let e : c.is_legal.result ≡ is_partial n p = c.is_legal.ensures ∙ ap (λ b. b && legal p) (sym (eq-eqb (length p) n c.if-bytes-vars.true)) in
    record { value = e; fits = λ h. partial_from n p (sym e ∙ h) }
