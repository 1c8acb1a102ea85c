-- The cursor meets the words that the lines say.
use Rattle.std.proofs.Common.{◌≡◌, ℕ, suc, Bool, true, false, cond, ◌||◌, eqb, List, [], ◌∷◌, ◌++◌, map, sym, refl, ap, ◌∙◌, arith}
use Rattle.std.proofs.lemmas.Bool.{both_ways, cond-true, cond-false}
use Rattle.std.proofs.lemmas.Bool.Decides.{nat_tests}
use Rattle.reader.specs.declared.cursor.Mode.{Mode}
use Rattle.reader.specs.declared.cursor.Mode.TheVariants.{Start, Within, Comment}
use Rattle.reader.specs.Lines.{blank, onto, lines, begins, words, said}
use Rattle.reader.specs.Tokens.{Token, skips, passed, extends, opens, tokens}

abbrev pub bytes_of : List Token → List (List ℕ)
bytes_of ts = map (λ (t : Token). t.bytes) ts

-- the words that a cursor meets in lines, by where it stands in the first of them
abbrev pub heard : Mode → List (List ℕ) → List (List ℕ)
heard Start ls = said ls
heard Within [] = []
heard Within (l ∷ ls) = words l ++ said ls
heard Comment [] = []
heard Comment (l ∷ ls) = said ls

-- ---- one byte more
feed_blank : (b : ℕ) → eqb b 10 ≡ true → blank b ≡ true
feed_blank b e = grind (arith, nat_tests)

onto_comment : (b : ℕ) (ls : List (List ℕ)) → heard Comment (onto b ls) ≡ heard Comment ls
onto_comment b [] = refl
onto_comment b (l ∷ ls) = refl

onto_said : (b : ℕ) (ls : List (List ℕ)) → said (onto b ls) ≡ cond (eqb b 99) (heard Comment ls) (heard Within (onto b ls))
onto_said b [] = refl
onto_said b (l ∷ ls) = refl

onto_blank : (b : ℕ) (ls : List (List ℕ)) → blank b ≡ true → heard Within (onto b ls) ≡ heard Within ls
onto_blank b [] e = rw e
onto_blank b (l ∷ ls) e = rw e

-- a word that goes on in its line
onto_begins : (b c : ℕ) (l : List ℕ) (us : List (List ℕ)) → onto b (begins c l (words l) ++ us) ≡ onto b (begins c l (words l)) ++ us
onto_begins b c [] us = refl
onto_begins b c (d ∷ l) us = by (blank d) (words (d ∷ l))
  where
    by : (t : Bool) (ws : List (List ℕ)) → onto b (cond t ((c ∷ []) ∷ ws) (onto c ws) ++ us) ≡ onto b (cond t ((c ∷ []) ∷ ws) (onto c ws)) ++ us
    by true ws = refl
    by false [] = refl
    by false (w ∷ ws) = refl

goes_on : (b c : ℕ) (l : List ℕ) (us : List (List ℕ)) → blank b ≡ false → (t : Bool) → blank c ≡ t → words (b ∷ c ∷ l) ++ us ≡ cond t ((b ∷ []) ∷ (words (c ∷ l) ++ us)) (onto b (words (c ∷ l) ++ us))
goes_on b c l us e true k = rw (e, k)
goes_on b c l us e false k = rw (e, k) (sym (onto_begins b c l us))

goes_onto : (b c : ℕ) (ls : List (List ℕ)) → blank b ≡ false → (t : Bool) → blank c ≡ t → heard Within (onto b (onto c ls)) ≡ cond t ((b ∷ []) ∷ heard Within (onto c ls)) (onto b (heard Within (onto c ls)))
goes_onto b c [] e t k = goes_on b c [] [] e t k
goes_onto b c (l ∷ ls) e t k = goes_on b c l (said ls) e t k

onto_word : (b : ℕ) (bs : List ℕ) → blank b ≡ false → heard Within (onto b (lines bs)) ≡ begins b bs (heard Within (lines bs))
onto_word b [] e = rw e
onto_word b (c ∷ cs) e = by (eqb c 10) refl (blank c) refl
  where
    by : (f : Bool) → eqb c 10 ≡ f → (t : Bool) → blank c ≡ t → heard Within (onto b (cond f ([] ∷ lines cs) (onto c (lines cs)))) ≡ cond t ((b ∷ []) ∷ heard Within (cond f ([] ∷ lines cs) (onto c (lines cs)))) (onto b (heard Within (cond f ([] ∷ lines cs) (onto c (lines cs)))))
    by true p true k = rw e
    by true p false k = absurd (both_ways (blank c) k (feed_blank c p))
    by false p t k = goes_onto b c (lines cs) e t k

-- ---- the cursor
bytes_extends : (at b : ℕ) (ts : List Token) → bytes_of (extends at b ts) ≡ onto b (bytes_of ts)
bytes_extends at b [] = refl
bytes_extends at b (t ∷ ts) = refl

bytes_opens : (at b : ℕ) (bs : List ℕ) (ts : List Token) → bytes_of (opens at b bs ts) ≡ begins b bs (bytes_of ts)
bytes_opens at b [] ts = refl
bytes_opens at b (c ∷ bs) ts = by (blank c)
  where
    by : (t : Bool) → bytes_of (cond t (record { place = at; bytes = b ∷ [] } ∷ ts) (extends at b ts)) ≡ cond t ((b ∷ []) ∷ bytes_of ts) (onto b (bytes_of ts))
    by true = refl
    by false = bytes_extends at b ts

module _ (at b : ℕ) (bs : List ℕ) (ih : (m : Mode) → bytes_of (tokens (suc at) m bs) ≡ heard m (lines bs)) where
  in_line : (k : Bool) → blank b ≡ k → bytes_of (cond k (tokens (suc at) Within bs) (opens at b bs (tokens (suc at) Within bs))) ≡ heard Within (onto b (lines bs))
  in_line true k = ih Within ∙ sym (onto_blank b (lines bs) k)
  in_line false k = bytes_opens at b bs (tokens (suc at) Within bs) ∙ ap (begins b bs) (ih Within) ∙ sym (onto_word b bs k)

  at_start : (f k c : Bool) → eqb b 10 ≡ f → blank b ≡ k → eqb b 99 ≡ c → bytes_of (cond (k || c) (tokens (suc at) (cond f Start (cond c Comment Within)) bs) (opens at b bs (tokens (suc at) Within bs))) ≡ said (cond f ([] ∷ lines bs) (onto b (lines bs)))
  at_start true true c p k e = ih Start
  at_start true false c p k e = absurd (both_ways (blank b) k (feed_blank b p))
  at_start false true true p k e = ih Comment ∙ sym (onto_said b (lines bs) ∙ cond-true (eqb b 99) _ _ e)
  at_start false false true p k e = ih Comment ∙ sym (onto_said b (lines bs) ∙ cond-true (eqb b 99) _ _ e)
  at_start false true false p k e = in_line true k ∙ sym (onto_said b (lines bs) ∙ cond-false (eqb b 99) _ _ e)
  at_start false false false p k e = in_line false k ∙ sym (onto_said b (lines bs) ∙ cond-false (eqb b 99) _ _ e)

  later_on : (f k : Bool) → eqb b 10 ≡ f → blank b ≡ k → bytes_of (cond k (tokens (suc at) (cond f Start Within) bs) (opens at b bs (tokens (suc at) Within bs))) ≡ heard Within (cond f ([] ∷ lines bs) (onto b (lines bs)))
  later_on true true p k = ih Start
  later_on true false p k = absurd (both_ways (blank b) k (feed_blank b p))
  later_on false t p k = in_line t k

  in_comment : (f : Bool) → bytes_of (tokens (suc at) (cond f Start Comment) bs) ≡ heard Comment (cond f ([] ∷ lines bs) (onto b (lines bs)))
  in_comment true = ih Start
  in_comment false = ih Comment ∙ sym (onto_comment b (lines bs))

  one_byte : (m : Mode) → bytes_of (cond (skips m b) (tokens (suc at) (passed m b) bs) (opens at b bs (tokens (suc at) Within bs))) ≡ heard m (lines (b ∷ bs))
  one_byte Start = at_start (eqb b 10) (blank b) (eqb b 99) refl refl refl
  one_byte Within = later_on (eqb b 10) (blank b) refl refl
  one_byte Comment = in_comment (eqb b 10)

pub tokens_heard : (bs : List ℕ) (at : ℕ) (m : Mode) → bytes_of (tokens at m bs) ≡ heard m (lines bs)
unfolding tokens
tokens_heard [] at Start = refl
tokens_heard [] at Within = refl
tokens_heard [] at Comment = refl
tokens_heard (b ∷ bs) at m = one_byte at b bs (λ k. tokens_heard bs (suc at) k) m
