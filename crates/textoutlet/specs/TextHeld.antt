-- What a text outlet means.
use Rattle.std.specs.Prelude.{◌≡◌, ℕ, Bool, List, [], ◌∷◌, ◌++◌, length, ℤ, nat_le}
use Rattle.std.specs.List.{AllByRecursion}
use Rattle.stack.specs.Items.{items, spares}
use Rattle.outlet.specs.declared.kinds.Kind.{Kind}
use Rattle.outlet.specs.Entries.{Entry}
use Rattle.outlet.specs.Memory.{Kept}
use Rattle.lines.specs.Lines.{text, NarrowEntry}
use Rattle.textoutlet.specs.Counting.{counts_of, next_line}
use Rattle.textoutlet.specs.declared.out.TextOutlet.{TextOutlet}

-- the entries' text is the written part of the memory
pub record HoldsText (o : TextOutlet) (es : List Entry) : Type 0 where
  pub held : items o.text ≡ text es
  pub counts : o.counts ≡ counts_of es
  pub narrow : AllByRecursion NarrowEntry es

-- an entry fits if the text with its line is within the memory
abbrev pub text_fit : ℕ → List Entry → Entry → Bool
text_fit size es e = nat_le (length (text (es ++ e ∷ []))) size

-- whether an entry fits, by what the outlet holds: its line fits into the unused places
abbrev pub room_for : TextOutlet → Kind → List ℤ → Bool
room_for o k ls = nat_le (length (next_line o.counts k ls)) (length (spares o.text))

-- a put writes into the same memory, behind what was written
abbrev pub KeepsText : TextOutlet → TextOutlet → Type 0
KeepsText o p = Kept o.text p.text
