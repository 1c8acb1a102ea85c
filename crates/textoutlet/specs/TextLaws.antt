-- The text outlet keeps the laws: above all, the entries can be told back from the text.
use Rattle.std.proofs.Common.{sym, ◌∙◌}
use Rattle.outlet.specs.Entries.{OutletLaws}
use Rattle.outlet.specs.Memory.{kept_none, kept_more}
use Rattle.lines.proofs.Told.{text_told}
use Rattle.textoutlet.specs.TextHeld.{HoldsText, KeepsText}

pub text_laws : OutletLaws HoldsText KeepsText
text_laws = record {
  one_list = λ o es fs m n. text_told es fs m.narrow n.narrow (sym m.held ∙ n.held);
  keeps_none = λ o. kept_none o.text;
  keeps_more = λ o p q. kept_more o.text p.text q.text;
}
