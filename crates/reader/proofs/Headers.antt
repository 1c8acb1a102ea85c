-- The header that reading finds is the one that cuts the lines, and the next place is where the lines after it begin.
use Rattle.std.proofs.Common.{◌≡◌, ℕ, suc, ◌+◌, ◌≤◌, Bool, true, false, cond, ◌&&◌, eqb, leb, ◌⊎◌, List, [], ◌∷◌, ◌++◌, length, drop, Some, None, Ok, Err, codes, decimal, Option, sym, refl, ap, ◌∙◌, subst, inl, inr, arith}
use Rattle.std.specs.Str.{bytes_eq}
use Rattle.std.proofs.lemmas.Bool.{cond-true, cond-false, and_parts, and_from, le-leb, leb-true, both_ways}
use Rattle.std.proofs.lemmas.Slice.Eq.{bytes_eq-Decides}
use Rattle.std.proofs.lemmas.List.{drop-drop}
use Rattle.rules.specs.declared.fault.Fault.{Fault}
use Rattle.reader.specs.Lines.{onto, lines, words, comment, said}
use Rattle.reader.specs.Numerals.{numeral}
use Rattle.reader.specs.Reading.{Head, Found, limited, head_of, found_at, is_silent, find_header}
use Rattle.reader.proofs.Numbers.{no_some, numeral_decimal, numeral_is}

-- ---- where the lines after a line begin
-- the bytes t are those of the lines, or both are at their end
abbrev pub Follows : List ℕ → List (List ℕ) → Type 0
Follows t ls = (lines t ≡ ls) ⊎ ((t ≡ []) × (ls ≡ []))

pub said_follows : (t : List ℕ) (ls : List (List ℕ)) → Follows t ls → said (lines t) ≡ said ls
said_follows t ls (inl e) = ap said e
said_follows t ls (inr p) = ap (λ u. said (lines u)) p.0 ∙ sym (ap said p.1)

abbrev first : List (List ℕ) → List ℕ
first [] = []
first (l ∷ ls) = l

abbrev later : List (List ℕ) → List (List ℕ)
later [] = []
later (l ∷ ls) = ls

-- the lines after the first of ls, where these begin t
abbrev GoesOn : List ℕ → List (List ℕ) → Type 0
GoesOn t ls = Follows (drop (suc (length (first ls))) t) (later ls)

goes_onto : (b : ℕ) (t : List ℕ) (ls : List (List ℕ)) → GoesOn t ls → GoesOn (b ∷ t) (onto b ls)
goes_onto b t [] h = h
goes_onto b t (l ∷ ls) h = h

goes_on : (t : List ℕ) → GoesOn t (lines t)
goes_on [] = inr (refl, refl)
goes_on (b ∷ t) = by (eqb b 10) (goes_on t)
  where
    by : (f : Bool) → GoesOn t (lines t) → GoesOn (b ∷ t) (cond f ([] ∷ lines t) (onto b (lines t)))
    by true h = inl refl
    by false h = goes_onto b t (lines t) h

next_line : (text : List ℕ) (at : ℕ) (l : List ℕ) (ls : List (List ℕ)) → Follows (drop at text) (l ∷ ls) → Follows (drop (at + length l + 1) text) ls
next_line text at l ls (inl e) =
    let here : GoesOn (drop at text) (l ∷ ls) = subst (GoesOn (drop at text)) e (goes_on (drop at text)) in
    let place : drop (suc (length l)) (drop at text) ≡ drop (at + length l + 1) text =
    drop-drop (suc (length l)) at text ∙ ap (λ k. drop k text) (omega arith)
    in
    subst (λ t. Follows t ls) place here
next_line text at l ls (inr p) = absurd (let z : ◌≡◌ {A = ℕ} 0 1 = cc p.1 in omega arith)

-- ---- lines that say nothing
quiet : (l : List ℕ) (ws us : List (List ℕ)) → is_silent l ws ≡ true → cond (comment l) us (ws ++ us) ≡ us
quiet l [] us e = by (comment l)
  where
    by : (c : Bool) → cond c us us ≡ us
    by true = refl
    by false = refl
quiet l (w ∷ ws) us e = cond-true (comment l) _ _ e

says_nothing : (l : List ℕ) (ws us : List (List ℕ)) → cond (comment l) us (ws ++ us) ≡ [] → (is_silent l ws ≡ true) × (us ≡ [])
says_nothing l [] us h = (refl, by (comment l) h)
  where
    by : (c : Bool) → cond c us us ≡ [] → us ≡ []
    by true g = g
    by false g = g
says_nothing l (w ∷ ws) us h = by (comment l) h
  where
    by : (c : Bool) → cond c us (w ∷ (ws ++ us)) ≡ [] → (c ≡ true) × (us ≡ [])
    by true g = (refl, g)
    by false g = absurd (let z : ◌≡◌ {A = ℕ} 0 1 = cc in omega arith)

speaks : (l : List ℕ) (ws : List (List ℕ)) → is_silent l ws ≡ false → comment l ≡ false
speaks l [] e = absurd (both_ways true e refl)
speaks l (w ∷ ws) e = e

-- ---- the four words
pub record Names (ws : List (List ℕ)) (h : Head) : Type 0 where
  pub said_so : ws ≡ codes "p" ∷ codes "cnf" ∷ decimal h.variables ∷ decimal h.rules ∷ []
  pub few_variables : h.variables ≤ 2048
  pub few_rules : h.rules ≤ 16384

module _ (p f v c : List ℕ) (h : Head) where
  limited_by : (n k : ℕ) → numeral v ≡ Some n → numeral c ≡ Some k → p ≡ codes "p" → f ≡ codes "cnf" → (b : Bool) → (leb n 2048 && leb k 16384) ≡ b → cond b (Some (record { variables = n; rules = k })) None ≡ Some h → Names (p ∷ f ∷ v ∷ c ∷ []) h
  limited_by n k ev ec ep ef false e g = absurd (no_some h g)
  limited_by n k ev ec ep ef true e g =
      let parts = and_parts (leb n 2048) (leb k 16384) e in
      let en : v ≡ decimal n = numeral_is v n ev in
      let ek : c ≡ decimal k = numeral_is c k ec in
      let one : Names (p ∷ f ∷ v ∷ c ∷ []) (record { variables = n; rules = k }) =
      record { said_so = cc; few_variables = leb-true _ _ parts.0; few_rules = leb-true _ _ parts.1 }
      in
      let same : record { variables = n; rules = k } ≡ h = cc in
      subst (Names (p ∷ f ∷ v ∷ c ∷ [])) same one

  limited_is : (o u : Option ℕ) → numeral v ≡ o → numeral c ≡ u → p ≡ codes "p" → f ≡ codes "cnf" → limited o u ≡ Some h → Names (p ∷ f ∷ v ∷ c ∷ []) h
  limited_is None u ev ec ep ef g = absurd (no_some h g)
  limited_is (Some n) None ev ec ep ef g = absurd (no_some h g)
  limited_is (Some n) (Some k) ev ec ep ef g = limited_by n k ev ec ep ef (leb n 2048 && leb k 16384) refl g

  four_words : (b : Bool) → (bytes_eq p (codes "p") && bytes_eq f (codes "cnf")) ≡ b → cond b (limited (numeral v) (numeral c)) None ≡ Some h → Names (p ∷ f ∷ v ∷ c ∷ []) h
  four_words false e g = absurd (no_some h g)
  four_words true e g =
      let parts = and_parts (bytes_eq p (codes "p")) (bytes_eq f (codes "cnf")) e in
      limited_is (numeral v) (numeral c) refl refl ((bytes_eq-Decides p (codes "p")).0 parts.0) ((bytes_eq-Decides f (codes "cnf")).0 parts.1) g

pub head_names : (ws : List (List ℕ)) (h : Head) → head_of ws ≡ Some h → Names ws h
head_names [] h e = absurd (no_some h e)
head_names (p ∷ []) h e = absurd (no_some h e)
head_names (p ∷ f ∷ []) h e = absurd (no_some h e)
head_names (p ∷ f ∷ v ∷ []) h e = absurd (no_some h e)
head_names (p ∷ f ∷ v ∷ c ∷ []) h e = four_words p f v c h (bytes_eq p (codes "p") && bytes_eq f (codes "cnf")) refl e
head_names (p ∷ f ∷ v ∷ c ∷ w ∷ ws) h e = absurd (no_some h e)

pub names_head : (n k : ℕ) → n ≤ 2048 → k ≤ 16384 → head_of (codes "p" ∷ codes "cnf" ∷ decimal n ∷ decimal k ∷ []) ≡ Some (record { variables = n; rules = k })
names_head n k hn hk =
    ap (λ o. limited o (numeral (decimal k))) (numeral_decimal n (omega arith))
    ∙ ap (limited (Some n)) (numeral_decimal k (omega arith))
    ∙ cond-true (leb n 2048 && leb k 16384) _ _ (and_from _ _ (le-leb n 2048 hn) (le-leb k 16384 hk))

-- ---- the search
-- found is the header that cuts the lines, and the text goes on with the lines after it
pub record Cuts (text : List ℕ) (ls : List (List ℕ)) (found : Found) : Type 0 where
  pub before : List (List ℕ)
  pub header : List ℕ
  pub after : List (List ℕ)
  pub cut : ls ≡ before ++ (header ∷ after)
  pub silent : said before ≡ []
  pub told : comment header ≡ false
  pub head : head_of (words header) ≡ Some found.head
  pub rest : Follows (drop found.next text) after

pub no_answer : {A : Type 0} (f : Fault) (x : A) → Err f ≡ Ok x → ⊥
no_answer f x e = let z : ◌≡◌ {A = ℕ} 0 1 = cc in omega arith

cuts_later : (text l : List ℕ) (ls : List (List ℕ)) (found : Found) → is_silent l (words l) ≡ true → Cuts text ls found → Cuts text (l ∷ ls) found
cuts_later text l ls found s k =
    record {
      before = l ∷ k.before;
      header = k.header;
      after = k.after;
      cut = ap (λ u. l ∷ u) k.cut;
      silent = quiet l (words l) (said k.before) s ∙ k.silent;
      told = k.told;
      head = k.head;
      rest = k.rest;
    }

cuts_here : (text : List ℕ) (at : ℕ) (l : List ℕ) (ls : List (List ℕ)) (found : Found) → Follows (drop at text) (l ∷ ls) → is_silent l (words l) ≡ false → (o : Option Head) → head_of (words l) ≡ o → found_at at l o ≡ Ok found → Cuts text (l ∷ ls) found
cuts_here text at l ls found f s None eo e = absurd (no_answer _ found e)
cuts_here text at l ls found f s (Some h) eo e =
    let here : Cuts text (l ∷ ls) (record { head = h; next = at + length l + 1 }) =
    record { before = []; header = l; after = ls; cut = refl; silent = refl; told = speaks l (words l) s; head = eo; rest = next_line text at l ls f }
    in
    let same : record { head = h; next = at + length l + 1 } ≡ found = cc in
    subst (Cuts text (l ∷ ls)) same here

pub find_sound : (text : List ℕ) (end : ℕ) (ls : List (List ℕ)) (at : ℕ) (found : Found) → Follows (drop at text) ls → find_header end at ls ≡ Ok found → Cuts text ls found
find_sound text end [] at found f e = absurd (no_answer _ found e)
find_sound text end (l ∷ ls) at found f e = by (is_silent l (words l)) refl e (find_sound text end ls (at + length l + 1) found (next_line text at l ls f))
  where
    by : (b : Bool) → is_silent l (words l) ≡ b → cond b (find_header end (at + length l + 1) ls) (found_at at l (head_of (words l))) ≡ Ok found → (find_header end (at + length l + 1) ls ≡ Ok found → Cuts text ls found) → Cuts text (l ∷ ls) found
    by true s g rec = cuts_later text l ls found s (rec g)
    by false s g rec = cuts_here text at l ls found f s (head_of (words l)) refl g

pub record Finds (text : List ℕ) (end at : ℕ) (ls after : List (List ℕ)) (h : Head) : Type 0 where
  pub found : Found
  pub finds : find_header end at ls ≡ Ok found
  pub head : found.head ≡ h
  pub rest : Follows (drop found.next text) after

loud : (l : List ℕ) (ws : List (List ℕ)) (h : Head) → head_of ws ≡ Some h → comment l ≡ false → is_silent l ws ≡ false
loud l [] h e c = absurd (no_some h e)
loud l (w ∷ ws) h e c = c

pub find_complete : (text : List ℕ) (end : ℕ) (before : List (List ℕ)) (header : List ℕ) (after : List (List ℕ)) (h : Head) (at : ℕ) → Follows (drop at text) (before ++ (header ∷ after)) → said before ≡ [] → comment header ≡ false → head_of (words header) ≡ Some h → Finds text end at (before ++ (header ∷ after)) after h
find_complete text end [] header after h at f s c e =
    record {
      found = record { head = h; next = at + length header + 1 };
      finds = cond-false (is_silent header (words header)) _ _ (loud header (words header) h e c) ∙ ap (found_at at header) e;
      head = refl;
      rest = next_line text at header after f;
    }
find_complete text end (l ∷ before) header after h at f s c e =
    let quiets = says_nothing l (words l) (said before) s in
    let later_on = find_complete text end before header after h (at + length l + 1) (next_line text at l (before ++ (header ∷ after)) f) quiets.1 c e in
    record {
      found = later_on.found;
      finds = cond-true (is_silent l (words l)) _ _ quiets.0 ∙ later_on.finds;
      head = later_on.head;
      rest = later_on.rest;
    }
