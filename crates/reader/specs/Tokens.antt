-- The words that a cursor meets, each with the place of its first byte.
use Rattle.std.specs.Prelude.{ℕ, suc, Bool, true, cond, ◌||◌, List, [], ◌∷◌, drop, ◌==◌}
use Rattle.reader.specs.Lines.{blank}
use Rattle.reader.specs.declared.cursor.Mode.{Mode}
use Rattle.reader.specs.declared.cursor.Mode.TheVariants.{Start, Within, Comment}

pub record Token : Type 0 where
  pub place : ℕ
  pub bytes : List ℕ

abbrev pub token : ℕ → List ℕ → Token
token at w = record { place = at; bytes = w }

-- whether a byte is passed over, where no word has begun
abbrev pub skips : Mode → ℕ → Bool
skips Start b = blank b || b == 99
skips Within b = blank b
skips Comment b = true

abbrev pub turned : Mode → ℕ → Mode
turned Start b = cond (b == 99) Comment Within
turned Within b = Within
turned Comment b = Comment

-- where the cursor stands after such a byte
abbrev pub passed : Mode → ℕ → Mode
passed m b = cond (b == 10) Start (turned m b)

abbrev pub extends : ℕ → ℕ → List Token → List Token
extends at b [] = record { place = at; bytes = b ∷ [] } ∷ []
extends at b (t ∷ ts) = record { place = at; bytes = b ∷ t.bytes } ∷ ts

-- a byte that begins a word, or goes before the word that follows at once
abbrev pub opens : ℕ → ℕ → List ℕ → List Token → List Token
opens at b [] ts = record { place = at; bytes = b ∷ [] } ∷ ts
opens at b (c ∷ bs) ts = cond (blank c) (record { place = at; bytes = b ∷ [] } ∷ ts) (extends at b ts)

-- the words of the bytes from the place at on
unfoldable pub tokens : ℕ → Mode → List ℕ → List Token
tokens at m [] = []
tokens at m (b ∷ bs) = cond (skips m b) (tokens (suc at) (passed m b) bs) (opens at b bs (tokens (suc at) Within bs))

-- the words that a cursor at the place at still meets
abbrev pub ahead : List ℕ → ℕ → Mode → List Token
ahead text at m = tokens at m (drop at text)
