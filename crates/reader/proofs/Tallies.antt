-- What the reader keeps from rule to rule.
use Rattle.std.proofs.Common.{◌≡◌, ℕ, ◌+◌, List, [], ◌∷◌, ◌++◌, length, ℤ, pos, Some, Ok, Err, Result, sym, refl, ap, ◌∙◌, append-nil, arith, length-append}
use Rattle.std.proofs.lemmas.List.{length_push}
use Rattle.rules.specs.declared.fault.Fault.{Fault}
use Rattle.rules.specs.declared.kind.Kind.{Kind}
use Rattle.rules.specs.declared.kind.Kind.TheVariants.{Clause, Odd}
use Rattle.rules.specs.Rules.{Rule, clause, odd, clauses, odds, numbers}
use Rattle.reader.specs.declared.parts.Shape.{Shape}
use Rattle.reader.specs.declared.counts.Counts.{Counts}
use Rattle.reader.specs.Tokens.{Token}
use Rattle.reader.specs.Reading.{scan, between, rule_of, with_rule, size_of, counts_of}
use Rattle.reader.specs.Turns.{RuleRead, RulesRead, one_more, kind_more, counted_with}

-- ---- one rule more in a list of rules
clauses_append : (rs ss : List Rule) → clauses (rs ++ ss) ≡ clauses rs ++ clauses ss
clauses_append [] ss = refl
clauses_append (clause k ∷ rs) ss = ap (λ x. k ∷ x) (clauses_append rs ss)
clauses_append (odd k ∷ rs) ss = clauses_append rs ss

odds_append : (rs ss : List Rule) → odds (rs ++ ss) ≡ odds rs ++ odds ss
odds_append [] ss = refl
odds_append (clause k ∷ rs) ss = odds_append rs ss
odds_append (odd k ∷ rs) ss = ap (λ x. k ∷ x) (odds_append rs ss)

numbers_size : (xs : List (List ℤ)) (ls : List ℤ) → length (numbers (xs ++ (ls ∷ []))) ≡ length (numbers xs) + length ls + 1
numbers_size [] ls = omega (arith, length-append ls (pos 0 ∷ []))
numbers_size (k ∷ xs) ls = omega (arith, numbers_size xs ls, length-append k (pos 0 ∷ numbers (xs ++ (ls ∷ []))), length-append k (pos 0 ∷ numbers xs))

size_more : (xs : List (List ℤ)) (ls : List ℤ) → size_of (xs ++ (ls ∷ [])) ≡ one_more (length ls) (size_of xs)
size_more xs ls =
    let p : length (xs ++ (ls ∷ [])) ≡ length xs + 1 = length_push xs ls in
    λ i. record { rules = p i; numbers = numbers_size xs ls i }

counts_more : (n : ℕ) (rs : List Rule) (k : Kind) (ls : List ℤ) → counts_of (record { variables = n; rules = rs ++ (rule_of k ls ∷ []) }) ≡ kind_more (counts_of (record { variables = n; rules = rs })) k (length ls)
counts_more n rs Clause ls =
    let c = ap size_of (clauses_append rs (clause ls ∷ [])) ∙ size_more (clauses rs) ls in
    let o = odds_append rs (clause ls ∷ []) ∙ append-nil (odds rs) in
    λ i. record { variables = n; clauses = c i; odds = size_of (o i) }
counts_more n rs Odd ls =
    let c = clauses_append rs (odd ls ∷ []) ∙ append-nil (clauses rs) in
    let o = ap size_of (odds_append rs (odd ls ∷ [])) ∙ size_more (odds rs) ls in
    λ i. record { variables = n; clauses = size_of (c i); odds = o i }

-- ---- the rules so far, and what is ahead
pub with_rules : List Rule → Result (List Rule) Fault → Result (List Rule) Fault
with_rules [] r = r
with_rules (x ∷ xs) r = with_rule x (with_rules xs r)

with_push : (xs : List Rule) (x : Rule) (r : Result (List Rule) Fault) → with_rules (xs ++ (x ∷ [])) r ≡ with_rules xs (with_rule x r)
unfolding with_rules
with_push [] x r = refl
with_push (y ∷ xs) x r = ap (with_rule y) (with_push xs x r)

with_none : (xs : List Rule) → with_rules xs (Ok []) ≡ Ok xs
unfolding with_rules
with_none [] = refl
with_none (x ∷ xs) = ap (with_rule x) (with_none xs)

with_fault : (xs : List Rule) (f : Fault) → with_rules xs (Err f) ≡ Err f
unfolding with_rules
with_fault [] f = refl
with_fault (x ∷ xs) f = ap (with_rule x) (with_fault xs f)

pub record Gathered (n end : ℕ) (ts now : List Token) (c : Counts) : Type 0 where
  pub done : List Rule
  pub same : scan n end between ts ≡ with_rules done (scan n end between now)
  pub counted : c ≡ counts_of (record { variables = n; rules = done })

pub gathered_none : (n end : ℕ) (ts : List Token) {c : Counts} → c ≡ counts_of (record { variables = n; rules = [] }) → Gathered n end ts ts c
unfolding with_rules
gathered_none n end ts e = record { done = []; same = refl; counted = e }

module _ {n end : ℕ} {ts now : List Token} {c : Counts} (old : Gathered n end ts now c) where
  pub gathered_more : (s : Shape) (next : List Token) {d : Counts} → RuleRead n end now next (Ok (Some s)) → d ≡ counted_with c s → Gathered n end ts next d
  gathered_more s next r e = record {
    done = old.done ++ (rule_of s.kind r.0 ∷ []);
    same = old.same ∙ (ap (with_rules old.done) r.2 ∙ sym (with_push old.done (rule_of s.kind r.0) (scan n end between next)));
    counted =
        e
        ∙ (ap (λ x. counted_with x s) old.counted
        ∙ (ap (kind_more (counts_of (record { variables = n; rules = old.done })) s.kind) (sym r.1) ∙ sym (counts_more n old.done s.kind r.0)));
  }

  pub gathered_all : scan n end between now ≡ Ok [] → RulesRead n end ts (Ok c)
  gathered_all e = (old.done, old.same ∙ (ap (with_rules old.done) e ∙ with_none old.done), old.counted)

  pub gathered_fault : (f : Fault) → scan n end between now ≡ Err f → RulesRead n end ts (Err f)
  gathered_fault f e = old.same ∙ (ap (with_rules old.done) e ∙ with_fault old.done f)
