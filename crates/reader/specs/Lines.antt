-- The lines of a text and the words of a line. A text is a list of bytes.
use Rattle.std.specs.Prelude.{ℕ, Bool, false, cond, ◌||◌, List, [], ◌∷◌, ◌++◌, ◌==◌}

-- space, tab, carriage return and line feed part words
abbrev pub blank : ℕ → Bool
blank b = b == 32 || (b == 9 || (b == 13 || b == 10))

-- a byte before the first of some lists of bytes
abbrev pub onto : ℕ → List (List ℕ) → List (List ℕ)
onto b [] = (b ∷ []) ∷ []
onto b (l ∷ ls) = (b ∷ l) ∷ ls

-- the lines: what stands before, between and after the line feeds
abbrev pub lines : List ℕ → List (List ℕ)
lines [] = [] ∷ []
lines (b ∷ bs) = cond (b == 10) ([] ∷ lines bs) (onto b (lines bs))

-- a byte that is no blank begins a word, or goes before the word that follows at once
abbrev pub begins : ℕ → List ℕ → List (List ℕ) → List (List ℕ)
begins b [] ws = (b ∷ []) ∷ ws
begins b (c ∷ bs) ws = cond (blank c) ((b ∷ []) ∷ ws) (onto b ws)

-- the words of a line: its longest runs of bytes that are no blanks
abbrev pub words : List ℕ → List (List ℕ)
words [] = []
words (b ∷ bs) = cond (blank b) (words bs) (begins b bs (words bs))

-- a line whose first byte is `c` is a comment
abbrev pub comment : List ℕ → Bool
comment [] = false
comment (b ∷ bs) = b == 99

-- the words of the lines that are no comments
abbrev pub said : List (List ℕ) → List (List ℕ)
said [] = []
said (l ∷ ls) = cond (comment l) (said ls) (words l ++ said ls)
