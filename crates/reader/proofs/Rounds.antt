-- What the reader keeps from literal to literal and from rule to rule.
use Rattle.std.proofs.Common.{◌≡◌, ℕ, ◌+◌, true, false, cond, List, [], ◌∷◌, ◌++◌, length, ℤ, Some, None, Ok, Err, codes, Option, sym, refl, ap, ◌∙◌, subst, append_assoc, arith}
use Rattle.std.proofs.lemmas.List.{length_push}
use Rattle.rules.specs.declared.fault.Fault.{Fault}
use Rattle.rules.specs.declared.fault.Reason.TheVariants.{Unended}
use Rattle.rules.specs.declared.kind.Kind.{Kind}
use Rattle.rules.specs.declared.kind.Kind.TheVariants.{Clause, Odd}
use Rattle.rules.specs.Faults.{faulty}
use Rattle.reader.specs.Numerals.{signed_numeral}
use Rattle.reader.specs.Tokens.{Token, token}
use Rattle.reader.specs.Reading.{Said, wrong, parity, gives, ends, between, inside, literal_says, follow, scan}
use Rattle.reader.specs.Marks.{Marked, said_by, grown}
use Rattle.std.specs.Str.{bytes_eq}
use Rattle.reader.specs.Turns.{LiteralsRead, RuleRead}

-- a word inside a rule
word_inside : (n end : ℕ) (k : Kind) (ls : List ℤ) (p : ℕ) (w : List ℕ) (ts : List Token) (s : Said) → s ≡ literal_says n ls (signed_numeral w) → scan n end (inside k ls) (token p w ∷ ts) ≡ follow (λ u. scan n end u ts) (inside k ls) p s
unfolding scan
word_inside n end k ls p w ts s e = ap (follow (λ u. scan n end u ts) (inside k ls) p) (sym e)

-- after count literals of a rule that had the literals ls when the words ts were ahead
pub record Counting (n end : ℕ) (ls : List ℤ) (ts now : List Token) (stamps : List ℕ) (top count : ℕ) : Type 0 where
  pub more : List ℤ
  pub size : length more ≡ count
  pub marked : Marked stamps top (ls ++ more)
  pub same : (k : Kind) → scan n end (inside k ls) ts ≡ scan n end (inside k (ls ++ more)) now

module _ {n end : ℕ} {ls : List ℤ} {ts now : List Token} {stamps : List ℕ} {top count : ℕ} (old : Counting n end ls ts now stamps top count) where
  -- the text ends inside the rule
  pub counting_cut : now ≡ [] → LiteralsRead n end ls ts [] (Err (faulty Unended end))
  unfolding scan
  counting_cut e k = old.same k ∙ ap (λ l. scan n end (inside k (ls ++ old.more)) l) e

  module _ (p : ℕ) (w : List ℕ) (next : List Token) (ahead_is : now ≡ token p w ∷ next) where
    step : (k : Kind) (s : Said) → s ≡ literal_says n (ls ++ old.more) (signed_numeral w) → scan n end (inside k ls) ts ≡ follow (λ u. scan n end u next) (inside k (ls ++ old.more)) p s
    step k s e = old.same k ∙ (ap (scan n end (inside k (ls ++ old.more))) ahead_is ∙ word_inside n end k (ls ++ old.more) p w next s e)

    pub counting_wrong : (f : Fault) → wrong f.reason ≡ literal_says n (ls ++ old.more) (signed_numeral w) → f.place ≡ p → LiteralsRead n end ls ts next (Err f)
    counting_wrong f e at k = step k (wrong f.reason) e ∙ ap (λ i. Err (faulty f.reason i)) (sym at)

    pub counting_ends : (o : Option ℤ) → o ≡ None → said_by (Ok o) ≡ literal_says n (ls ++ old.more) (signed_numeral w) → LiteralsRead n end ls ts next (Ok count)
    counting_ends o is e = (old.more, old.size, λ k. step k ends (ap (λ x. said_by (Ok x)) (sym is) ∙ e))

    pub counting_more : (o : Option ℤ) (z : ℤ) → o ≡ Some z → {stamps' : List ℕ} {top' : ℕ} → said_by (Ok o) ≡ literal_says n (ls ++ old.more) (signed_numeral w) → Marked stamps' top' (grown (ls ++ old.more) o) → Counting n end ls ts next stamps' top' (count + 1)
    counting_more o z is {stamps'} {top'} e m =
        let assoc : (ls ++ old.more) ++ (z ∷ []) ≡ ls ++ (old.more ++ (z ∷ [])) = append_assoc ls old.more (z ∷ []) in
        record {
          more = old.more ++ (z ∷ []);
          size = omega (arith, length_push old.more z, old.size);
          marked = subst (Marked stamps' top') assoc (subst (λ x. Marked stamps' top' (grown (ls ++ old.more) x)) is m);
          same = λ k. step k (gives z) (ap (λ x. said_by (Ok x)) (sym is) ∙ e) ∙ ap (λ l. scan n end (inside k l) next) assoc;
        }

-- ---- between two rules
pub no_rule : (n end : ℕ) (ts ts' : List Token) → ts ≡ [] → RuleRead n end ts ts' (Ok None)
unfolding scan
no_rule n end ts ts' e = ap (scan n end between) e

module _ (n end : ℕ) (ts : List Token) (p : ℕ) (w : List ℕ) (next : List Token) (ahead_is : ts ≡ token p w ∷ next) where
  parity_first : bytes_eq w (codes "odd") ≡ true → scan n end between ts ≡ scan n end (inside Odd []) next
  unfolding scan
  parity_first e = ap (scan n end between) ahead_is ∙ ap (λ b. follow (λ u. scan n end u next) between p (cond b parity (literal_says n [] (signed_numeral w)))) e

  pub odd_rule : bytes_eq w (codes "odd") ≡ true → {count : ℕ} (ts' : List Token) → LiteralsRead n end [] next ts' (Ok count) → RuleRead n end ts ts' (Ok (Some (record { kind = Odd; literals = count })))
  odd_rule e ts' r = (r.0, r.1, parity_first e ∙ r.2 Odd)

  pub odd_fault : bytes_eq w (codes "odd") ≡ true → {f : Fault} (ts' : List Token) → LiteralsRead n end [] next ts' (Err f) → RuleRead n end ts ts' (Err f)
  odd_fault e ts' r = parity_first e ∙ r Odd

  module _ (plain : bytes_eq w (codes "odd") ≡ false) where
    first : (s : Said) → s ≡ literal_says n [] (signed_numeral w) → scan n end between ts ≡ follow (λ u. scan n end u next) between p s
    unfolding scan
    first s e =
        ap (scan n end between) ahead_is
        ∙ (ap (λ b. follow (λ u. scan n end u next) between p (cond b parity (literal_says n [] (signed_numeral w)))) plain
        ∙ ap (follow (λ u. scan n end u next) between p) (sym e))

    pub first_wrong : (f : Fault) (ts' : List Token) → wrong f.reason ≡ literal_says n [] (signed_numeral w) → f.place ≡ p → RuleRead n end ts ts' (Err f)
    first_wrong f ts' e at = first (wrong f.reason) e ∙ ap (λ i. Err (faulty f.reason i)) (sym at)

    pub empty_clause : (o : Option ℤ) → o ≡ None → said_by (Ok o) ≡ literal_says n [] (signed_numeral w) → RuleRead n end ts next (Ok (Some (record { kind = Clause; literals = 0 })))
    empty_clause o is e = ([], refl, first ends (ap (λ x. said_by (Ok x)) (sym is) ∙ e))

    module _ (o : Option ℤ) (z : ℤ) (is : o ≡ Some z) (e : said_by (Ok o) ≡ literal_says n [] (signed_numeral w)) where
      given : scan n end between ts ≡ scan n end (inside Clause (z ∷ [])) next
      given = first (gives z) (ap (λ x. said_by (Ok x)) (sym is) ∙ e)

      pub first_marked : {stamps : List ℕ} {top : ℕ} → Marked stamps top (grown [] o) → Marked stamps top (z ∷ [])
      first_marked {stamps} {top} m = subst (λ x. Marked stamps top (grown [] x)) is m

      pub clause_rule : {count : ℕ} (ts' : List Token) → LiteralsRead n end (z ∷ []) next ts' (Ok count) → RuleRead n end ts ts' (Ok (Some (record { kind = Clause; literals = count + 1 })))
      clause_rule ts' r = (z ∷ r.0, omega (arith, r.1), given ∙ r.2 Clause)

      pub clause_fault : {f : Fault} (ts' : List Token) → LiteralsRead n end (z ∷ []) next ts' (Err f) → RuleRead n end ts ts' (Err f)
      clause_fault ts' r = given ∙ r Clause
