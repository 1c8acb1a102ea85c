-- Runs of bytes: a word up to the next blank, blanks up to the next word, a line up to its line feed.
use Rattle.std.specs.Prelude.{ℕ, suc, not, List, [], ◌∷◌, take, drop, ◌==◌}
use Rattle.std.specs.List.{prefix_len}
use Rattle.reader.specs.Lines.{blank}

-- how many blanks come first
abbrev pub gap_len : List ℕ → ℕ
gap_len bs = prefix_len blank bs

-- how many bytes come before the first blank
abbrev pub word_len : List ℕ → ℕ
word_len bs = prefix_len (λ b. not (blank b)) bs

-- and how many before the first line feed
abbrev pub line_len : List ℕ → ℕ
line_len bs = prefix_len (λ b. not (b == 10)) bs

-- a word before other words, if it is one
abbrev pub led : List ℕ → List (List ℕ) → List (List ℕ)
led [] ws = ws
led (b ∷ bs) ws = (b ∷ bs) ∷ ws

-- the first line of a text, and what follows its line feed
abbrev pub line_of : List ℕ → List ℕ
line_of bs = take (line_len bs) bs

abbrev pub after_line : List ℕ → List ℕ
after_line bs = drop (suc (line_len bs)) bs
