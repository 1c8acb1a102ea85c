-- A scan gives the rules that the words spell.
use Rattle.std.proofs.Common.{◌≡◌, ℕ, zero, suc, ◌<◌, ◌≤◌, Bool, true, false, cond, eqb, ltb, List, [], ◌∷◌, ◌++◌, map, ℤ, pos, negsuc, nat_abs, Some, None, Ok, Err, codes, Option, Result, sym, refl, ap, ◌∙◌, subst, arith}
use Rattle.std.specs.List.{flat_map}
use Rattle.std.specs.Fmt.{signed_decimal}
use Rattle.std.specs.Str.{bytes_eq}
use Rattle.std.proofs.lemmas.Bool.{cond-true, cond-false, eqb-true, eqb-false, ne_eqb, ltb-false, le-ltb, or_parts, or_from, both_ways}
use Rattle.std.proofs.lemmas.Slice.Eq.{bytes_eq-Decides}
use Rattle.std.proofs.lemmas.List.{append-nil, append_assoc}
use Rattle.rules.specs.declared.fault.Fault.{Fault}
use Rattle.rules.specs.declared.fault.Reason.TheVariants.{Variable, Repeated}
use Rattle.rules.specs.declared.kind.Kind.{Kind}
use Rattle.rules.specs.declared.kind.Kind.TheVariants.{Clause, Odd}
use Rattle.rules.specs.Literals.{place, Literal, Each}
use Rattle.rules.specs.Rules.{Rule, clause, odd, literals, Apart, Fits}
use Rattle.reader.specs.Spelling.{rule_words}
use Rattle.reader.specs.Numerals.{signed_numeral}
use Rattle.reader.specs.Tokens.{Token}
use Rattle.reader.specs.Reading.{Stage, between, inside, Said, wrong, parity, gives, ends, named, literal_says, says, rule_of, with_rule, follow, at_end, scan}
use Rattle.reader.proofs.Numbers.{numeral_signed, signed_is, zero_word, signed_not_odd}
use Rattle.reader.proofs.Texts.{bytes_of}
use Rattle.reader.proofs.Headers.{no_answer}

-- ---- literals
each_push : {A : Type 0} (P : A → Type 0) (xs : List A) (x : A) → Each P xs → P x → Each P (xs ++ (x ∷ []))
each_push P [] x h p = (p, tt)
each_push P (y ∷ xs) x h p = (h.0, each_push P xs x h.1 p)

each_at : {A : Type 0} (P : A → Type 0) (xs : List A) (x : A) (ys : List A) → Each P (xs ++ (x ∷ ys)) → P x
each_at P [] x ys h = h.0
each_at P (y ∷ xs) x ys h = each_at P xs x ys h.1

apart_push : (done : List ℤ) (z : ℤ) → Apart done → named z done ≡ false → Apart (done ++ (z ∷ []))
apart_push [] z a e = (tt, tt)
apart_push (l ∷ done) z a e =
    let parts = or_parts (eqb (place l) (place z)) (named z done) e in
    (each_push (λ k. place k ≡ place l → ⊥) done z a.0 (λ p. eqb-false (place l) (place z) parts.0 (sym p)), apart_push done z a.1 parts.1)

not_named : (done : List ℤ) (z : ℤ) (ls : List ℤ) → Apart (done ++ (z ∷ ls)) → named z done ≡ false
not_named [] z ls a = refl
not_named (l ∷ done) z ls a =
    or_from (eqb (place l) (place z)) (named z done)
    (ne_eqb (place l) (place z) (λ p. each_at (λ k. place k ≡ place l → ⊥) done z ls a.0 (sym p)))
    (not_named done z ls a.1)

fits_push : (n : ℕ) (done : List ℤ) (z : ℤ) → Fits n done → Literal n z → named z done ≡ false → Fits n (done ++ (z ∷ []))
fits_push n done z h l e = (each_push (Literal n) done z h.0 l, apart_push done z h.1 e)

literal_is : (n : ℕ) (z : ℤ) → eqb (nat_abs z) 0 ≡ false → ltb n (nat_abs z) ≡ false → Literal n z
literal_is n (pos zero) e l = absurd (both_ways true e refl)
literal_is n (pos (suc i)) e l = ltb-false n (suc i) l
literal_is n (negsuc i) e l = ltb-false n (suc i) l

literal_abs : (n : ℕ) (z : ℤ) → Literal n z → (0 < nat_abs z) × (nat_abs z ≤ n)
literal_abs n (pos zero) l = absurd l
literal_abs n (pos (suc i)) l = (omega arith, l)
literal_abs n (negsuc i) l = (omega arith, l)

zero_abs : (z : ℤ) → eqb (nat_abs z) 0 ≡ true → z ≡ pos 0
zero_abs (pos n) e = ap pos (eqb-true n 0 e)
zero_abs (negsuc n) e = absurd (omega (arith, eqb-true (suc n) 0 e))

gives_literal : (n : ℕ) (done : List ℤ) (z : ℤ) → Literal n z → named z done ≡ false → literal_says n done (Some z) ≡ gives z
gives_literal n done z l e =
    let b = literal_abs n z l in
    cond-false (eqb (nat_abs z) 0) _ _ (ne_eqb (nat_abs z) 0 (λ p. omega arith))
    ∙ cond-false (ltb n (nat_abs z)) _ _ (le-ltb n (nat_abs z) b.1)
    ∙ cond-false (named z done) _ _ e

-- ---- one word
pub scan_end : (n end : ℕ) (s : Stage) → scan n end s [] ≡ at_end end s
unfolding scan
scan_end n end s = refl

pub scan_step : (n end : ℕ) (s : Stage) (t : Token) (ts : List Token) → scan n end s (t ∷ ts) ≡ follow (λ u. scan n end u ts) s t.place (says n s t.bytes)
unfolding scan
scan_step n end s t ts = refl

follow_between : (go : Stage → Result (List Rule) Fault) (at : ℕ) (x : Said) → follow go between at x ≡ follow go (inside Clause []) at x
follow_between go at (wrong r) = refl
follow_between go at parity = refl
follow_between go at (gives z) = refl
follow_between go at ends = refl

-- between two rules a word that is not `odd` is read as inside a clause that has no literal yet
as_clause : (n end : ℕ) (t : Token) (ts : List Token) → bytes_eq t.bytes (codes "odd") ≡ false → scan n end between (t ∷ ts) ≡ scan n end (inside Clause []) (t ∷ ts)
as_clause n end t ts e =
    scan_step n end between t ts
    ∙ ap (follow (λ u. scan n end u ts) between t.place) (cond-false (bytes_eq t.bytes (codes "odd")) _ _ e)
    ∙ follow_between (λ u. scan n end u ts) t.place (literal_says n [] (signed_numeral t.bytes))
    ∙ sym (scan_step n end (inside Clause []) t ts)

as_odd : (n end : ℕ) (t : Token) (ts : List Token) → bytes_eq t.bytes (codes "odd") ≡ true → scan n end between (t ∷ ts) ≡ scan n end (inside Odd []) ts
as_odd n end t ts e =
    scan_step n end between t ts
    ∙ ap (follow (λ u. scan n end u ts) between t.place) (cond-true (bytes_eq t.bytes (codes "odd")) _ _ e)

-- ---- what a scan that accepts has met
abbrev pub FitAll : ℕ → List Rule → Type 0
FitAll n rs = Each (λ r. Fits n (literals r)) rs

pub record Between (n : ℕ) (ws : List (List ℕ)) (rs : List Rule) : Type 0 where
  pub spelled : ws ≡ flat_map rule_words rs
  pub fit : FitAll n rs

-- inside a rule: its other literals, and the rules after it
pub record Inside (n : ℕ) (k : Kind) (done : List ℤ) (ws : List (List ℕ)) (rs : List Rule) : Type 0 where
  pub more : List ℤ
  pub others : List Rule
  pub splits : rs ≡ rule_of k (done ++ more) ∷ others
  pub spelled : ws ≡ map signed_decimal more ++ (codes "0" ∷ flat_map rule_words others)
  pub fits : Fits n (done ++ more)
  pub rest : FitAll n others

rule_end : (ls : List ℤ) (ws : List (List ℕ)) → (map signed_decimal ls ++ (codes "0" ∷ [])) ++ ws ≡ map signed_decimal ls ++ (codes "0" ∷ ws)
rule_end ls ws = append_assoc (map signed_decimal ls) (codes "0" ∷ []) ws

clause_between : (n : ℕ) (ws : List (List ℕ)) (rs : List Rule) → Inside n Clause [] ws rs → Between n ws rs
clause_between n ws rs i =
    record {
      spelled = i.spelled ∙ sym (rule_end i.more (flat_map rule_words i.others)) ∙ ap (flat_map rule_words) (sym i.splits);
      fit = subst (FitAll n) (sym i.splits) (i.fits, i.rest);
    }

odd_between : (n : ℕ) (w : List ℕ) (ws : List (List ℕ)) (rs : List Rule) → w ≡ codes "odd" → Inside n Odd [] ws rs → Between n (w ∷ ws) rs
odd_between n w ws rs e i =
    record {
      spelled =
          ap (λ u. u ∷ ws) e
          ∙ ap (λ us. codes "odd" ∷ us) (i.spelled ∙ sym (rule_end i.more (flat_map rule_words i.others)))
          ∙ ap (flat_map rule_words) (sym i.splits);
      fit = subst (FitAll n) (sym i.splits) (i.fits, i.rest);
    }

pub record Scanned (n end : ℕ) (ts : List Token) : Type 0 where
  pub outer : (rs : List Rule) → scan n end between ts ≡ Ok rs → Between n (bytes_of ts) rs
  pub inner : (k : Kind) (done : List ℤ) (rs : List Rule) → Fits n done → scan n end (inside k done) ts ≡ Ok rs → Inside n k done (bytes_of ts) rs

module _ (n end : ℕ) (w : List ℕ) (at : ℕ) (ts : List Token) (ih : Scanned n end ts) (k : Kind) (done : List ℤ) (rs : List Rule) (fit : Fits n done) where
  rule_ends : (z : ℤ) → signed_numeral w ≡ Some z → eqb (nat_abs z) 0 ≡ true → (r : Result (List Rule) Fault) → scan n end between ts ≡ r → with_rule (rule_of k done) r ≡ Ok rs → Inside n k done (w ∷ bytes_of ts) rs
  rule_ends z ez e0 (Err f) er e = absurd (no_answer f rs e)
  rule_ends z ez e0 (Ok us) er e =
      let rest = ih.outer us er in
      let word : w ≡ codes "0" = signed_is w z ez ∙ ap signed_decimal (zero_abs z e0) ∙ zero_word in
      let whole : rs ≡ rule_of k done ∷ us = cc in
      record {
        more = [];
        others = us;
        splits = whole ∙ ap (λ ls. rule_of k ls ∷ us) (sym (append-nil done));
        spelled = ap (λ u. u ∷ bytes_of ts) word ∙ ap (λ us. codes "0" ∷ us) rest.spelled;
        fits = subst (Fits n) (sym (append-nil done)) fit;
        rest = rest.fit;
      }

  literal_given : (z : ℤ) → signed_numeral w ≡ Some z → Literal n z → named z done ≡ false → scan n end (inside k (done ++ (z ∷ []))) ts ≡ Ok rs → Inside n k done (w ∷ bytes_of ts) rs
  literal_given z ez l new e =
      let i = ih.inner k (done ++ (z ∷ [])) rs (fits_push n done z fit l new) e in
      let place : (done ++ (z ∷ [])) ++ i.more ≡ done ++ (z ∷ i.more) = append_assoc done (z ∷ []) i.more in
      record {
        more = z ∷ i.more;
        others = i.others;
        splits = i.splits ∙ ap (λ ls. rule_of k ls ∷ i.others) place;
        spelled = ap (λ u. u ∷ bytes_of ts) (signed_is w z ez) ∙ ap (λ us. signed_decimal z ∷ us) i.spelled;
        fits = subst (Fits n) place i.fits;
        rest = i.rest;
      }

  number_met : (z : ℤ) → signed_numeral w ≡ Some z → (b₁ b₂ b₃ : Bool) → eqb (nat_abs z) 0 ≡ b₁ → ltb n (nat_abs z) ≡ b₂ → named z done ≡ b₃ → follow (λ u. scan n end u ts) (inside k done) at (cond b₁ ends (cond b₂ (wrong Variable) (cond b₃ (wrong Repeated) (gives z)))) ≡ Ok rs → Inside n k done (w ∷ bytes_of ts) rs
  number_met z ez true b₂ b₃ e₁ e₂ e₃ e = rule_ends z ez e₁ (scan n end between ts) refl e
  number_met z ez false true b₃ e₁ e₂ e₃ e = absurd (no_answer _ rs e)
  number_met z ez false false true e₁ e₂ e₃ e = absurd (no_answer _ rs e)
  number_met z ez false false false e₁ e₂ e₃ e = literal_given z ez (literal_is n z e₁ e₂) e₃ e

  word_met : (o : Option ℤ) → signed_numeral w ≡ o → follow (λ u. scan n end u ts) (inside k done) at (literal_says n done o) ≡ Ok rs → Inside n k done (w ∷ bytes_of ts) rs
  word_met None eo e = absurd (no_answer _ rs e)
  word_met (Some z) eo e = number_met z eo (eqb (nat_abs z) 0) (ltb n (nat_abs z)) (named z done) refl refl refl e

scanned_none : (n end : ℕ) → Scanned n end []
scanned_none n end =
    record {
      outer = λ rs e.
          let whole : [] ≡ rs = by rs (sym (scan_end n end between) ∙ e) in
          subst (Between n []) whole (record { spelled = refl; fit = tt });
      inner = λ k done rs fit e. absurd (no_answer _ rs (sym (scan_end n end (inside k done)) ∙ e));
    }
  where
    by : (rs : List Rule) → ◌≡◌ {A = Result (List Rule) Fault} (Ok []) (Ok rs) → [] ≡ rs
    by rs e = cc

scanned_more : (n end : ℕ) (t : Token) (ts : List Token) → Scanned n end ts → Scanned n end (t ∷ ts)
scanned_more n end t ts ih = record { outer = λ rs e. by rs (bytes_eq t.bytes (codes "odd")) refl e; inner = deep }
  where
    deep : (k : Kind) (done : List ℤ) (rs : List Rule) → Fits n done → scan n end (inside k done) (t ∷ ts) ≡ Ok rs → Inside n k done (bytes_of (t ∷ ts)) rs
    deep k done rs fit e = word_met n end t.bytes t.place ts ih k done rs fit (signed_numeral t.bytes) refl (sym (scan_step n end (inside k done) t ts) ∙ e)

    by : (rs : List Rule) (b : Bool) → bytes_eq t.bytes (codes "odd") ≡ b → scan n end between (t ∷ ts) ≡ Ok rs → Between n (bytes_of (t ∷ ts)) rs
    by rs true b e =
        odd_between n t.bytes (bytes_of ts) rs ((bytes_eq-Decides t.bytes (codes "odd")).0 b)
        (ih.inner Odd [] rs (tt, tt) (sym (as_odd n end t ts b) ∙ e))
    by rs false b e = clause_between n (bytes_of (t ∷ ts)) rs (deep Clause [] rs (tt, tt) (sym (as_clause n end t ts b) ∙ e))

pub scan_sound : (n end : ℕ) (ts : List Token) → Scanned n end ts
scan_sound n end [] = scanned_none n end
scan_sound n end (t ∷ ts) = scanned_more n end t ts (scan_sound n end ts)

-- ---- words that spell rules are accepted
no_words : (w : List ℕ) (ws : List (List ℕ)) → [] ≡ w ∷ ws → ⊥
no_words w ws e = let z : ◌≡◌ {A = ℕ} 0 1 = cc in omega arith

module _ (n end : ℕ) (small : n ≤ 2048) where
  scan_rule : (ls : List ℤ) (k : Kind) (done : List ℤ) (ts : List Token) (ws : List (List ℕ)) (rs : List Rule) → Fits n (done ++ ls) → bytes_of ts ≡ map signed_decimal ls ++ (codes "0" ∷ ws) → ((us : List Token) → bytes_of us ≡ ws → scan n end between us ≡ Ok rs) → scan n end (inside k done) ts ≡ Ok (rule_of k (done ++ ls) ∷ rs)
  scan_rule [] k done [] ws rs fit e rest = absurd (no_words _ ws e)
  scan_rule [] k done (t ∷ ts) ws rs fit e rest =
      let word : t.bytes ≡ codes "0" = cc in
      let left : bytes_of ts ≡ ws = cc in
      scan_step n end (inside k done) t ts
      ∙ ap (λ w. follow (λ u. scan n end u ts) (inside k done) t.place (literal_says n done (signed_numeral w))) word
      ∙ ap (with_rule (rule_of k done)) (rest ts left)
      ∙ ap (λ ls. Ok (rule_of k ls ∷ rs)) (sym (append-nil done))
  scan_rule (z ∷ ls) k done [] ws rs fit e rest = absurd (no_words _ _ e)
  scan_rule (z ∷ ls) k done (t ∷ ts) ws rs fit e rest =
      let word : t.bytes ≡ signed_decimal z = cc in
      let left : bytes_of ts ≡ map signed_decimal ls ++ (codes "0" ∷ ws) = cc in
      let lit = each_at (Literal n) done z ls fit.0 in
      let abs = literal_abs n z lit in
      let place : (done ++ (z ∷ [])) ++ ls ≡ done ++ (z ∷ ls) = append_assoc done (z ∷ []) ls in
      scan_step n end (inside k done) t ts
      ∙ ap (λ w. follow (λ u. scan n end u ts) (inside k done) t.place (literal_says n done (signed_numeral w))) word
      ∙ ap (λ o. follow (λ u. scan n end u ts) (inside k done) t.place (literal_says n done o)) (numeral_signed z (omega arith))
      ∙ ap (follow (λ u. scan n end u ts) (inside k done) t.place) (gives_literal n done z lit (not_named done z ls fit.1))
      ∙ scan_rule ls k (done ++ (z ∷ [])) ts ws rs (subst (Fits n) (sym place) fit) left rest
      ∙ ap (λ us. Ok (rule_of k us ∷ rs)) place

  -- a clause begins with a number
  clause_first : (ls : List ℤ) (w : List ℕ) (us ws : List (List ℕ)) → Each (Literal n) ls → w ∷ us ≡ map signed_decimal ls ++ (codes "0" ∷ ws) → bytes_eq w (codes "odd") ≡ false
  clause_first [] w us ws h e = let word : w ≡ codes "0" = cc in ap (λ u. bytes_eq u (codes "odd")) word
  clause_first (z ∷ ls) w us ws h e =
      let word : w ≡ signed_decimal z = cc in
      let abs = literal_abs n z h.0 in
      ap (λ u. bytes_eq u (codes "odd")) word ∙ signed_not_odd z (omega arith)

  clause_some : (ls : List ℤ) (ws : List (List ℕ)) → [] ≡ map signed_decimal ls ++ (codes "0" ∷ ws) → ⊥
  clause_some [] ws e = no_words _ ws e
  clause_some (z ∷ ls) ws e = no_words _ _ e

  pub scan_complete : (rs : List Rule) (ts : List Token) → FitAll n rs → bytes_of ts ≡ flat_map rule_words rs → scan n end between ts ≡ Ok rs
  scan_complete [] [] fit e = scan_end n end between
  scan_complete [] (t ∷ ts) fit e = absurd (no_words _ _ (sym e))
  scan_complete (clause ls ∷ rs) [] fit e = absurd (clause_some ls (flat_map rule_words rs) (e ∙ rule_end ls (flat_map rule_words rs)))
  scan_complete (clause ls ∷ rs) (t ∷ ts) fit e =
      let ws = flat_map rule_words rs in
      let words : bytes_of (t ∷ ts) ≡ map signed_decimal ls ++ (codes "0" ∷ ws) = e ∙ rule_end ls ws in
      as_clause n end t ts (clause_first ls t.bytes (bytes_of ts) ws fit.0.0 words)
      ∙ scan_rule ls Clause [] (t ∷ ts) ws rs fit.0 words (λ us h. scan_complete rs us fit.1 h)
  scan_complete (odd ls ∷ rs) [] fit e = absurd (no_words _ _ e)
  scan_complete (odd ls ∷ rs) (t ∷ ts) fit e =
      let ws = flat_map rule_words rs in
      let word : t.bytes ≡ codes "odd" = cc in
      let left : bytes_of ts ≡ (map signed_decimal ls ++ (codes "0" ∷ [])) ++ ws = cc in
      as_odd n end t ts ((bytes_eq-Decides t.bytes (codes "odd")).1 word)
      ∙ scan_rule ls Odd [] ts ws rs fit.0 (left ∙ rule_end ls ws) (λ us h. scan_complete rs us fit.1 h)
