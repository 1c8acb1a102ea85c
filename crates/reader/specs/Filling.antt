-- What the words of a text that was checked write into the two tables.
use Rattle.std.specs.Prelude.{ℕ, cond, List, [], ◌∷◌, map, ℤ, pos, codes, ◌==◌, unsigned_abs}
use Rattle.std.specs.Option.{unwrap_or}
use Rattle.std.specs.Str.{bytes_eq}
use Rattle.rules.specs.declared.kind.Kind.{Kind}
use Rattle.rules.specs.declared.kind.Kind.TheVariants.{Clause, Odd}
use Rattle.reader.specs.Numerals.{signed_numeral}
use Rattle.reader.specs.Tokens.{Token}

-- a word's number; in a text that was checked, every word but `odd` has one
abbrev pub number_in : List ℕ → ℤ
number_in w = unwrap_or (signed_numeral w) (pos 0)

-- the 0 ends a rule, and no rule is odd before the word `odd`
abbrev pub kind_after : Kind → ℤ → Kind
kind_after k z = cond (unsigned_abs z == 0) Clause k

-- a number goes into the table of its rule's kind
abbrev pub goes_to : Kind → Kind → ℤ → List ℤ → List ℤ
goes_to Clause Clause z zs = z ∷ zs
goes_to Clause Odd z zs = zs
goes_to Odd Clause z zs = zs
goes_to Odd Odd z zs = z ∷ zs

-- the numbers that words send to a table, from inside a rule of this kind
abbrev pub sent : Kind → Kind → List (List ℕ) → List ℤ
sent which k [] = []
sent which k (w ∷ ws) = cond (bytes_eq w (codes "odd")) (sent which Odd ws) (goes_to which k (number_in w) (sent which (kind_after k (number_in w)) ws))

abbrev pub sent_by : Kind → Kind → List Token → List ℤ
sent_by which k ts = sent which k (map (λ (t : Token). t.bytes) ts)
