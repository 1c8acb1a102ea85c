-- What the cursor keeps from byte to byte and from word to word.
use Rattle.std.proofs.Common.{◌≡◌, ℕ, suc, ◌+◌, ◌<◌, ◌≤◌, Bool, true, false, cond, not, eqb, List, [], ◌∷◌, length, get_or, take, drop, sym, refl, ap, ◌∙◌, ⊎_elim, add-zero, add-one, one-add, arith}
use Rattle.std.specs.List.{prefix_len}
use Rattle.std.proofs.lemmas.List.{at_drop_more, at_drop_all, drop-drop, drop_more}
use Rattle.std.proofs.lemmas.List.Sums.{prefix_len-drop_yes}
use Rattle.std.proofs.lemmas.Bool.{cond-true, cond-false, or_parts, both_ways, not_from_false, cases_Bool}
use Rattle.reader.specs.declared.cursor.Mode.{Mode}
use Rattle.reader.specs.declared.cursor.Mode.TheVariants.{Start, Within, Comment}
use Rattle.reader.specs.Lines.{blank}
use Rattle.reader.specs.Tokens.{skips, passed, extends, opens, tokens, ahead}

-- a byte of a word
abbrev in_word : ℕ → Bool
in_word b = not (blank b)

-- from the place start in the mode m the cursor has come to at, and no word lay between
pub record Skipped (text : List ℕ) (start : ℕ) (m : Mode) (at : ℕ) (k : Mode) : Type 0 where
  pub same : ahead text at k ≡ ahead text start m
  pub on : start ≤ at

pub skipped_more : {text : List ℕ} {start : ℕ} {m : Mode} {at : ℕ} {k : Mode} → Skipped text start m at k → at < length text → skips k (get_or text at 0) ≡ true → Skipped text start m (at + 1) (passed k (get_or text at 0))
unfolding tokens
skipped_more {text} {start} {m} {at} {k} s lt skip =
    let b = get_or text at 0 in
    let rest = drop (at + 1) text in
    let one : tokens at k (drop at text) ≡ cond (skips k b) (tokens (suc at) (passed k b) rest) (opens at b rest (tokens (suc at) Within rest)) = at_drop_more (tokens at k) text at 0 lt in
    record {
      same = ap (λ i. tokens i (passed k b) rest) (add-one at) ∙ (sym (one ∙ cond-true (skips k b) _ _ skip) ∙ s.same);
      on = omega (arith, s.on);
    }

pub nothing_ahead : (text : List ℕ) (at : ℕ) (m : Mode) → length text ≤ at → ahead text at m ≡ []
unfolding tokens
nothing_ahead text at m h = at_drop_all (tokens at m) text at h

dark_byte : (m : Mode) (b : ℕ) → skips m b ≡ false → in_word b ≡ true
dark_byte Start b h = not_from_false (blank b) (or_parts (blank b) (eqb b 99) h).0
dark_byte Within b h = not_from_false (blank b) h
dark_byte Comment b h = absurd (both_ways true h refl)

-- a word goes on to the next blank
Run : ℕ → ℕ → List ℕ → Type 0
unfolding tokens
Run at b bs = opens at b bs (tokens (suc at) Within bs) ≡ record { place = at; bytes = b ∷ take (prefix_len (in_word) bs) bs } ∷ tokens (suc at + prefix_len (in_word) bs) Within (drop (prefix_len (in_word) bs) bs)

ends_here : (at b c : ℕ) (bs : List ℕ) → blank c ≡ true → Run at b (c ∷ bs)
unfolding tokens Run
ends_here at b c bs e = simp (e, add-zero)

shift : (a n : ℕ) → suc (suc a) + n ≡ suc a + suc n
shift a n = omega arith

goes_on : (at b c : ℕ) (bs : List ℕ) → blank c ≡ false → Run (suc at) c bs → Run at b (c ∷ bs)
unfolding tokens Run
goes_on at b c bs e r =
    simp (e, one-add)
    (ap (extends at b) r ∙ ap (λ i. record { place = at; bytes = b ∷ c ∷ take (prefix_len (in_word) bs) bs } ∷ tokens i Within (drop (prefix_len (in_word) bs) bs)) (shift at (prefix_len (in_word) bs)))

run : (at b : ℕ) (bs : List ℕ) → Run at b bs
unfolding tokens Run
run at b [] = refl
run at b (c ∷ bs) = ⊎_elim (ends_here at b c bs) (λ e. goes_on at b c bs e (run (suc at) c bs)) (cases_Bool (blank c))

-- where the cursor stands at a word
module _ (text : List ℕ) (at : ℕ) (m : Mode) (lt : at < length text) (is : skips m (get_or text at 0) ≡ false) where
  size : ℕ
  size = prefix_len (in_word) (drop at text)

  size_is : size ≡ 1 + prefix_len (in_word) (drop (at + 1) text)
  unfolding size
  size_is = prefix_len-drop_yes (in_word) text at 0 lt (dark_byte m (get_or text at 0) is)

  pub word_some : 0 < prefix_len (in_word) (drop at text)
  unfolding size
  word_some = omega (arith, size_is)

  pub word_ahead : ahead text at m ≡ record { place = at; bytes = take (prefix_len (in_word) (drop at text)) (drop at text) } ∷ ahead text (at + prefix_len (in_word) (drop at text)) Within
  unfolding tokens Run size
  word_ahead =
      let b = get_or text at 0 in
      let rest = drop (at + 1) text in
      let one : tokens at m (drop at text) ≡ cond (skips m b) (tokens (suc at) (passed m b) rest) (opens at b rest (tokens (suc at) Within rest)) = at_drop_more (tokens at m) text at 0 lt in
      let two = one ∙ (cond-false (skips m b) _ _ is ∙ run at b rest) in
      let w : take size (drop at text) ≡ b ∷ take (prefix_len (in_word) rest) rest = rw (size_is, drop_more text at 0 lt, one-add) in
      let e : at + size ≡ suc at + prefix_len (in_word) rest = omega (arith, size_is) in
      let d : drop (at + size) text ≡ drop (prefix_len (in_word) rest) rest = ap (λ i. drop i text) (omega (arith, size_is)) ∙ sym (drop-drop (prefix_len (in_word) rest) (at + 1) text) in
      two ∙ sym (λ i. record { place = at; bytes = w i } ∷ tokens (e i) Within (d i))
