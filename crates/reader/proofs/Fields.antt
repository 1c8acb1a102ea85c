-- The first word of a line, and lines that have none.
use Rattle.std.proofs.Common.{◌≡◌, ℕ, ◌<◌, Bool, true, false, cond, ◌&&◌, List, [], ◌∷◌, length, get_or, take, drop, sym, refl, ap, ◌∙◌, subst, ⊎_elim, one-add, arith}
use Rattle.std.specs.List.{list_all}
use Rattle.std.proofs.lemmas.Bool.{cond-true, cond-false, and_parts, both_ways, cases_Bool}
use Rattle.reader.specs.Lines.{blank, onto, begins, words, comment}
use Rattle.reader.specs.Runs.{gap_len, word_len, led}
use Rattle.reader.specs.Reading.{is_silent}

-- ---- the first word of a line
past_blanks : (bs : List ℕ) → words bs ≡ words (drop (gap_len bs) bs)
past_blanks [] = refl
past_blanks (b ∷ bs) = ⊎_elim (one_blank b bs (past_blanks bs)) (no_blank b bs) (cases_Bool (blank b))
  where
    one_blank : (b : ℕ) (bs : List ℕ) → words bs ≡ words (drop (gap_len bs) bs) → blank b ≡ true → words (b ∷ bs) ≡ words (drop (gap_len (b ∷ bs)) (b ∷ bs))
    one_blank b bs h e = simp (e, one-add) h

    no_blank : (b : ℕ) (bs : List ℕ) → blank b ≡ false → words (b ∷ bs) ≡ words (drop (gap_len (b ∷ bs)) (b ∷ bs))
    no_blank b bs e = simp e

-- a word goes on to the next blank
Run : ℕ → List ℕ → Type 0
Run b bs = begins b bs (words bs) ≡ (b ∷ take (word_len bs) bs) ∷ words (drop (word_len bs) bs)

ends_here : (b c : ℕ) (bs : List ℕ) → blank c ≡ true → Run b (c ∷ bs)
unfolding Run
ends_here b c bs e = simp e

goes_on : (b c : ℕ) (bs : List ℕ) → Run c bs → blank c ≡ false → Run b (c ∷ bs)
unfolding Run
goes_on b c bs r e = simp (e, one-add) (ap (onto b) r)

first_run : (b : ℕ) (bs : List ℕ) → Run b bs
unfolding Run
first_run b [] = refl
first_run b (c ∷ bs) = ⊎_elim (ends_here b c bs) (goes_on b c bs (first_run c bs)) (cases_Bool (blank c))

-- a line that does not begin with a blank
abbrev Ready : List ℕ → Type 0
Ready bs = 0 < length bs → blank (get_or bs 0 0) ≡ false

first_led : (bs : List ℕ) → Ready bs → words bs ≡ led (take (word_len bs) bs) (words (drop (word_len bs) bs))
unfolding Run
first_led [] h = refl
first_led (b ∷ bs) h = let e : blank b ≡ false = h (omega arith) in simp (e, one-add) (first_run b bs)

no_first : (bs : List ℕ) → Ready bs → take (word_len bs) bs ≡ [] → words bs ≡ []
no_first [] h t = refl
no_first (b ∷ bs) h t =
    let e : blank b ≡ false = h (omega arith) in
    let some : b ∷ take (word_len bs) bs ≡ [] = simp (e, one-add) at t in
    absurd (let z : ◌≡◌ {A = ℕ} 0 1 = cc in omega arith)

-- after its blanks a line begins with a word, if it goes on
stops : (bs : List ℕ) → Ready (drop (gap_len bs) bs)
stops [] = λ h. absurd (omega arith)
stops (b ∷ bs) = ⊎_elim (one_blank b bs (stops bs)) (no_blank b bs) (cases_Bool (blank b))
  where
    one_blank : (b : ℕ) (bs : List ℕ) → Ready (drop (gap_len bs) bs) → blank b ≡ true → Ready (drop (gap_len (b ∷ bs)) (b ∷ bs))
    one_blank b bs h e = simp (e, one-add) h

    no_blank : (b : ℕ) (bs : List ℕ) → blank b ≡ false → Ready (drop (gap_len (b ∷ bs)) (b ∷ bs))
    no_blank b bs e = simp e (λ _. refl)

-- what a split of a line at its first word gives
module _ (line rest first after : List ℕ) (from : rest ≡ drop (gap_len line) line) (f : first ≡ take (word_len rest) rest) (a : after ≡ drop (word_len rest) rest) where
  ready : Ready rest
  ready = subst Ready (sym from) (stops line)

  skipped : words line ≡ words rest
  skipped = past_blanks line ∙ ap words (sym from)

  pub split_words : words line ≡ led first (words after)
  split_words = skipped ∙ (first_led rest ready ∙ (λ i. led (sym f i) (words (sym a i))))

  pub split_none : first ≡ [] → words line ≡ []
  split_none e = skipped ∙ no_first rest ready (sym f ∙ e)

-- a line of blanks has no word, and any other has one
all_blank : (bs : List ℕ) → list_all blank bs ≡ true → words bs ≡ []
all_blank [] h = refl
all_blank (b ∷ bs) h =
    let p = and_parts (blank b) (list_all blank bs) h in
    cond-true (blank b) _ _ p.0 ∙ all_blank bs p.1

onto_some : (b : ℕ) (ws : List (List ℕ)) → onto b ws ≡ [] → ⊥
onto_some b [] h = let z : ◌≡◌ {A = ℕ} 0 1 = cc in omega arith
onto_some b (w ∷ ws) h = let z : ◌≡◌ {A = ℕ} 0 1 = cc in omega arith

begins_some : (b : ℕ) (bs : List ℕ) (ws : List (List ℕ)) → begins b bs ws ≡ [] → ⊥
begins_some b [] ws h = let z : ◌≡◌ {A = ℕ} 0 1 = cc in omega arith
begins_some b (c ∷ bs) ws h = by_blank (blank c) h
  where
    by_blank : (t : Bool) → cond t ((b ∷ []) ∷ ws) (onto b ws) ≡ [] → ⊥
    by_blank true h = let z : ◌≡◌ {A = ℕ} 0 1 = cc in omega arith
    by_blank false h = onto_some b ws h

some_word : (bs : List ℕ) → list_all blank bs ≡ false → words bs ≡ [] → ⊥
some_word [] n h = both_ways true n refl
some_word (b ∷ bs) n h =
    ⊎_elim
    (λ e. some_word bs (ap (λ t. t && list_all blank bs) (sym e) ∙ n) (sym (cond-true (blank b) _ _ e) ∙ h))
    (λ e. begins_some b bs (words bs) (sym (cond-false (blank b) _ _ e) ∙ h))
    (cases_Bool (blank b))

-- a line that is no comment is skipped if it is blank
pub skipped_blank : (l : List ℕ) → false ≡ comment l → list_all blank l ≡ is_silent l (words l)
skipped_blank l told = by (list_all blank l) refl
  where
    by_words : (ws : List (List ℕ)) → (ws ≡ [] → ⊥) → false ≡ is_silent l ws
    by_words [] n = absurd (n refl)
    by_words (w ∷ ws) n = told

    by : (t : Bool) → list_all blank l ≡ t → t ≡ is_silent l (words l)
    by true e = sym (ap (is_silent l) (all_blank l e))
    by false e = by_words (words l) (some_word l e)
