-- The search for the header, from line to line.
use Rattle.std.proofs.Common.{◌≡◌, ℕ, suc, ◌+◌, ◌-◌, ◌<◌, ◌≤◌, min, true, false, cond, not, eqb, List, [], ◌∷◌, length, take, drop, Some, None, Ok, Err, Option, Result, sym, refl, ap, ◌∙◌, ⊎_elim, one-add, arith}
use native.Mathlib.Nat.{min-eq_left, min-eq_right}
use Rattle.std.proofs.lemmas.List.{drop-drop, drop_all, length-drop, length-take-le, take_all}
use Rattle.std.proofs.lemmas.List.Sums.{prefix_len-le-length}
use Rattle.std.proofs.lemmas.Bool.{cases_Bool, cases_lt, cond-true, cond-false}
use Rattle.rules.specs.declared.fault.Fault.{Fault}
use Rattle.reader.specs.declared.cursor.Mode.TheVariants.{Start}
use Rattle.reader.specs.declared.parts.Header.{Header as Headline}
use Rattle.reader.specs.Lines.{lines, onto, words}
use Rattle.reader.specs.Runs.{line_len}
use Rattle.reader.specs.Tokens.{Token, tokens, ahead}
use Rattle.reader.specs.Reading.{Head, head_of, found_at, is_silent, find_header}
use Rattle.reader.specs.Heads.{HeaderIs}
use Rattle.reader.specs.Turns.{HeaderRead}
use Rattle.reader.proofs.Walks.{nothing_ahead}

-- ---- the first line of a text
cut_more : (b : ℕ) (bs l : List ℕ) (ls : List (List ℕ)) → eqb b 10 ≡ false → lines bs ≡ l ∷ ls → lines (b ∷ bs) ≡ (b ∷ l) ∷ ls
cut_more b bs l ls e h = simp e (ap (onto b) h)

-- a line feed ends it
pub first_line : (bs : List ℕ) → line_len bs < length bs → lines bs ≡ take (line_len bs) bs ∷ lines (drop (suc (line_len bs)) bs)
first_line [] h = absurd (omega arith)
first_line (b ∷ bs) h = ⊎_elim (at_feed b bs) (λ e. on b bs e h (first_line bs)) (cases_Bool (eqb b 10))
  where
    at_feed : (b : ℕ) (bs : List ℕ) → eqb b 10 ≡ true → lines (b ∷ bs) ≡ take (line_len (b ∷ bs)) (b ∷ bs) ∷ lines (drop (suc (line_len (b ∷ bs))) (b ∷ bs))
    at_feed b bs e = simp e

    on : (b : ℕ) (bs : List ℕ) → eqb b 10 ≡ false → line_len (b ∷ bs) < length (b ∷ bs) → (line_len bs < length bs → lines bs ≡ take (line_len bs) bs ∷ lines (drop (suc (line_len bs)) bs)) → lines (b ∷ bs) ≡ take (line_len (b ∷ bs)) (b ∷ bs) ∷ lines (drop (suc (line_len (b ∷ bs))) (b ∷ bs))
    on b bs e h go =
        let k : line_len (b ∷ bs) ≡ suc (line_len bs) = ap (λ t. cond (not t) (1 + line_len bs) 0) e ∙ one-add (line_len bs) in
        let lt : line_len bs < length bs = omega arith in
        cut_more b bs _ _ e (go lt) ∙ (λ i. take (sym k i) (b ∷ bs) ∷ lines (drop (suc (sym k i)) (b ∷ bs)))

-- or the text does
pub only_line : (bs : List ℕ) → line_len bs ≡ length bs → lines bs ≡ bs ∷ []
only_line [] h = refl
only_line (b ∷ bs) h = ⊎_elim (at_feed b bs h) (λ e. cut_more b bs bs [] e (only_line bs (shorter b bs e h))) (cases_Bool (eqb b 10))
  where
    at_feed : (b : ℕ) (bs : List ℕ) → line_len (b ∷ bs) ≡ length (b ∷ bs) → eqb b 10 ≡ true → lines (b ∷ bs) ≡ (b ∷ bs) ∷ []
    at_feed b bs h e = let z : 0 ≡ length (b ∷ bs) = sym (ap (λ t. cond (not t) (1 + line_len bs) 0) e) ∙ h in absurd (omega arith)

    shorter : (b : ℕ) (bs : List ℕ) → eqb b 10 ≡ false → line_len (b ∷ bs) ≡ length (b ∷ bs) → line_len bs ≡ length bs
    shorter b bs e h = let k : line_len (b ∷ bs) ≡ suc (line_len bs) = ap (λ t. cond (not t) (1 + line_len bs) 0) e ∙ one-add (line_len bs) in omega arith

-- ---- one line of the search
module _ (text : List ℕ) (at at' : ℕ) (line : List ℕ) (lt : at < length text) (is_line : line ≡ take (line_len (drop at text)) (drop at text)) (on : at' ≡ min (at + line_len (drop at text) + 1) (length text)) where
  size : ℕ
  size = line_len (drop at text)

  within : size ≤ length (drop at text)
  unfolding size
  within = prefix_len-le-length ((λ b. not (eqb b 10))) (drop at text)

  left : length (drop at text) ≡ length text - at
  left = length-drop at text

  long : length line ≡ size
  unfolding size
  long = ap length is_line ∙ length-take-le size (drop at text) within

  -- the line ends with a line feed, or with the text
  data Line : Type 0 where
    fed : at + length line + 1 ≡ at' → lines (drop at text) ≡ line ∷ lines (drop at' text) → Line
    last : at' ≡ length text → length text ≤ at + length line + 1 → lines (drop at text) ≡ line ∷ [] → Line

  cut_line : Line
  unfolding size
  cut_line = ⊎_elim more all (cases_lt size (length (drop at text)))
    where
      more : size < length (drop at text) → Line
      more h =
          let fits : at + size + 1 ≤ length text = omega (arith, left) in
          let e : at + size + 1 ≡ at' = sym (on ∙ min-eq_left fits) in
          let f : at + suc size ≡ at' = omega (arith, e) in
          fed (omega (arith, long, e)) (first_line (drop at text) h ∙ (λ i. sym is_line i ∷ lines ((drop-drop (suc size) at text ∙ ap (λ j. drop j text) f) i)))

      all : length (drop at text) ≤ size → Line
      all h =
          let e : size ≡ length (drop at text) = omega (arith, within) in
          let far : length text ≤ at + size + 1 = omega (arith, left, e) in
          last (on ∙ min-eq_right far) (omega (arith, long, left, e)) (only_line (drop at text) e ∙ ap (λ l. l ∷ []) (sym (is_line ∙ take_all size (drop at text) h)))

  -- a line that says nothing is passed over
  pub line_skipped : true ≡ is_silent line (words line) → find_header (length text) at' (lines (drop at' text)) ≡ find_header (length text) at (lines (drop at text))
  line_skipped q = by cut_line
    where
      by : Line → find_header (length text) at' (lines (drop at' text)) ≡ find_header (length text) at (lines (drop at text))
      by (fed e f) =
          sym (ap (find_header (length text) at) f ∙ (cond-true (is_silent line (words line)) _ _ (sym q) ∙ ap (λ i. find_header (length text) i (lines (drop at' text))) e))
      by (last e g f) =
          ap (λ t. find_header (length text) at' (lines t)) (drop_all at' text (omega arith))
          ∙ sym (ap (find_header (length text) at) f ∙ cond-true (is_silent line (words line)) _ _ (sym q))

  -- any other is the header, or is refused
  told : false ≡ is_silent line (words line) → find_header (length text) at (lines (drop at text)) ≡ found_at at line (head_of (words line))
  told q = by cut_line
    where
      by : Line → find_header (length text) at (lines (drop at text)) ≡ found_at at line (head_of (words line))
      by (fed e f) = ap (find_header (length text) at) f ∙ cond-false (is_silent line (words line)) _ _ (sym q)
      by (last e g f) = ap (find_header (length text) at) f ∙ cond-false (is_silent line (words line)) _ _ (sym q)

  goes_on : ahead text at' Start ≡ tokens (at + length line + 1) Start (drop (at + length line + 1) text)
  goes_on = by cut_line
    where
      by : Line → ahead text at' Start ≡ tokens (at + length line + 1) Start (drop (at + length line + 1) text)
      by (fed e f) = ap (λ i. ahead text i Start) (sym e)
      by (last e g f) = nothing_ahead text at' Start (omega arith) ∙ sym (nothing_ahead text (at + length line + 1) Start g)

  pub line_told : (r : Result Headline Fault) → false ≡ is_silent line (words line) → HeaderIs at (head_of (words line)) r → HeaderRead text at (ahead text at' Start) r
  line_told r q e = by (head_of (words line)) (told q) r e
    where
      by : (o : Option Head) → find_header (length text) at (lines (drop at text)) ≡ found_at at line o → (r : Result Headline Fault) → HeaderIs at o r → HeaderRead text at (ahead text at' Start) r
      by None h (Ok k) e = absurd e
      by None h (Err f) e = h ∙ ap Err (sym e)
      by (Some h) f (Ok k) e = (at + length line + 1, f ∙ (λ i. Ok (record { head = record { variables = sym e.0 i; rules = sym e.1 i }; next = at + length line + 1 })), goes_on)
      by (Some h) f (Err g) e = absurd e

-- a line after it, in the words of the text before it
pub read_before : (text : List ℕ) (start at : ℕ) (ts : List Token) (r : Result Headline Fault) → find_header (length text) at (lines (drop at text)) ≡ find_header (length text) start (lines (drop start text)) → HeaderRead text at ts r → HeaderRead text start ts r
read_before text start at ts (Ok h) e q = (q.0, sym e ∙ q.1, q.2)
read_before text start at ts (Err f) e q = sym e ∙ q
