-- Reading gives the rules that a text spells, and a text that spells none is refused.
use Rattle.std.proofs.Common.{◌≡◌, ℕ, Bool, true, false, cond, eqb, List, length, drop, Ok, Err, Result, sym, refl, ap, ◌∙◌, subst, inl}
use Rattle.std.specs.List.{flat_map}
use Rattle.std.proofs.lemmas.Bool.{cond-true, eqb-true, eq-eqb}
use Rattle.rules.specs.declared.fault.Fault.{Fault}
use Rattle.rules.specs.declared.fault.Reason.TheVariants.{Count}
use Rattle.rules.specs.Rules.{Rule, satisfies}
use Rattle.reader.specs.declared.cursor.Mode.TheVariants.{Start}
use Rattle.reader.specs.Lines.{lines, words, said}
use Rattle.reader.specs.Spelling.{rule_words, Spells}
use Rattle.reader.specs.Tokens.{tokens}
use Rattle.rules.specs.Faults.{faulty}
use Rattle.reader.specs.Reading.{Head, Found, head_of, find_header, between, scan, Question, counted, after_header, parse}
use Rattle.reader.specs.Theorem.{ReadingRight}
use Rattle.reader.proofs.Texts.{bytes_of, tokens_heard}
use Rattle.reader.proofs.Headers.{no_answer, Follows, said_follows, head_names, names_head, Cuts, find_sound, find_complete}
use Rattle.reader.proofs.Scans.{scan_sound, scan_complete}

-- the words that the cursor meets after the header
words_after : (text : List ℕ) (at : ℕ) (after : List (List ℕ)) → Follows (drop at text) after → bytes_of (tokens at Start (drop at text)) ≡ said after
words_after text at after f = tokens_heard (drop at text) at Start ∙ said_follows (drop at text) after f

-- ---- what is read is spelled
module _ (text : List ℕ) (h : Found) (cuts : Cuts text (lines text) h) where
  spelled : (rs : List Rule) → scan h.head.variables (length text) between (tokens h.next Start (drop h.next text)) ≡ Ok rs → length rs ≡ h.head.rules → Spells text h.head.variables rs
  spelled rs e count =
      let names = head_names (words cuts.header) h.head cuts.head in
      let body = (scan_sound h.head.variables (length text) (tokens h.next Start (drop h.next text))).outer rs e in
      record {
        before = cuts.before;
        header = cuts.header;
        after = cuts.after;
        cut = cuts.cut;
        silent = cuts.silent;
        told = cuts.told;
        names = rw count names.said_so;
        body = sym (words_after text h.next cuts.after cuts.rest) ∙ body.spelled;
        few_variables = names.few_variables;
        few_rules = rw count names.few_rules;
        fit = body.fit;
      }

  counts_right : (q : Question) (r : Result (List Rule) Fault) → scan h.head.variables (length text) between (tokens h.next Start (drop h.next text)) ≡ r → counted (length text) h.head r ≡ Ok q → Spells text q.variables q.rules
  counts_right q (Err f) er e = absurd (no_answer f q e)
  counts_right q (Ok rs) er e = by (eqb (length rs) h.head.rules) refl e
    where
      by : (b : Bool) → eqb (length rs) h.head.rules ≡ b → cond b (Ok (record { variables = h.head.variables; rules = rs })) (Err (faulty Count (length text))) ≡ Ok q → Spells text q.variables q.rules
      by false b g = absurd (no_answer _ q g)
      by true b g =
          let same : record { variables = h.head.variables; rules = rs } ≡ q = cc in
          subst (λ (u : Question). Spells text u.variables u.rules) same (spelled rs er (eqb-true _ _ b))

sound : (text : List ℕ) (q : Question) → parse text ≡ Ok q → Spells text q.variables q.rules
unfolding parse
sound text q e = by (find_header (length text) 0 (lines text)) refl e
  where
    by : (r : Result Found Fault) → find_header (length text) 0 (lines text) ≡ r → after_header text r ≡ Ok q → Spells text q.variables q.rules
    by (Err f) er g = absurd (no_answer f q g)
    by (Ok h) er g = counts_right text h (find_sound text (length text) (lines text) 0 h (inl refl) er) q _ refl g

-- ---- what is spelled is read
complete : (text : List ℕ) (n : ℕ) (rs : List Rule) → Spells text n rs → parse text ≡ Ok (record { variables = n; rules = rs })
unfolding parse
complete text n rs s =
    let h : Head = record { variables = n; rules = length rs } in
    let named = ap head_of s.names ∙ names_head n (length rs) s.few_variables s.few_rules in
    let finds = find_complete text (length text) s.before s.header s.after h 0 (inl s.cut) s.silent s.told named in
    let next = finds.found.next in
    let ts = tokens next Start (drop next text) in
    let body : bytes_of ts ≡ flat_map rule_words rs = words_after text next s.after finds.rest ∙ s.body in
    let scanned = scan_complete n (length text) s.few_variables rs ts s.fit body in
    ap (λ ls. after_header text (find_header (length text) 0 ls)) s.cut
    ∙ ap (after_header text) finds.finds
    ∙ ap (λ (u : Head). counted (length text) u (scan u.variables (length text) between ts)) finds.head
    ∙ ap (counted (length text) h) scanned
    ∙ cond-true (eqb (length rs) (length rs)) _ _ (eq-eqb _ _ refl)

-- ---- the theorem
one_question : (text : List ℕ) (n n' : ℕ) (rs rs' : List Rule) → Spells text n rs → Spells text n' rs' → (n ≡ n') × (rs ≡ rs')
one_question text n n' rs rs' s s' =
    let p = complete text n rs s in
    let p' = complete text n' rs' s' in
    let same : ◌≡◌ {A = Question} (record { variables = n; rules = rs }) (record { variables = n'; rules = rs' }) = cc in
    (ap (λ (q : Question). q.variables) same, ap (λ (q : Question). q.rules) same)

malformed : (text : List ℕ) → ((n : ℕ) (rs : List Rule) → Spells text n rs → ⊥) → (f : Fault) × (parse text ≡ Err f)
malformed text none = by (parse text) refl
  where
    by : (r : Result Question Fault) → parse text ≡ r → (f : Fault) × (parse text ≡ Err f)
    by (Err f) e = (f, e)
    by (Ok q) e = absurd (none q.variables q.rules (sound text q e))

pub reading_right : ReadingRight
reading_right =
    record {
      complete = complete;
      sound = sound;
      refused = λ text f e n rs s. no_answer f _ (sym e ∙ complete text n rs s);
      malformed = malformed;
      one_question = one_question;
      one_meaning = λ text n n' rs rs' s s' a. ap (satisfies a) (one_question text n n' rs rs' s s').1;
    }
