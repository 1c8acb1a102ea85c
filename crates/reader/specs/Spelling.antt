-- What a rule file is: a relation between a text and the rules that it spells.
use Rattle.std.specs.Prelude.{◌≡◌, ℕ, ◌≤◌, false, List, [], ◌∷◌, ◌++◌, map, length, codes, decimal}
use Rattle.std.specs.List.{flat_map}
use Rattle.std.specs.Fmt.{signed_decimal}
use Rattle.rules.specs.Literals.{Each}
use Rattle.rules.specs.Rules.{Rule, clause, odd, literals, Fits}
use Rattle.reader.specs.Lines.{lines, words, comment, said}

-- a rule is written as its literals and a 0, an odd rule with the word `odd` before them
abbrev pub rule_words : Rule → List (List ℕ)
rule_words (clause ls) = map signed_decimal ls ++ (codes "0" ∷ [])
rule_words (odd ls) = codes "odd" ∷ (map signed_decimal ls ++ (codes "0" ∷ []))

-- The text spells the rules rs over n variables: blank lines and comments, then the header, then the
-- words of the rules in their order, over lines or not and with comments anywhere between the lines.
pub record Spells (text : List ℕ) (n : ℕ) (rs : List Rule) : Type 0 where
  pub before : List (List ℕ)
  pub header : List ℕ
  pub after : List (List ℕ)
  pub cut : lines text ≡ before ++ (header ∷ after)
  pub silent : said before ≡ []
  pub told : comment header ≡ false
  pub names : words header ≡ codes "p" ∷ codes "cnf" ∷ decimal n ∷ decimal (length rs) ∷ []
  pub body : said after ≡ flat_map rule_words rs
  pub few_variables : n ≤ 2048
  pub few_rules : length rs ≤ 16384
  pub fit : Each (λ r. Fits n (literals r)) rs
