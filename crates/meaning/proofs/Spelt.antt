-- The stores of a list of rules, joined, mean the rules.
use Rattle.std.proofs.Common.{◌≡◌, ℕ, zero, suc, ◌+◌, ◌-◌, ◌<◌, ◌≤◌, Bool, true, false, cond, ◌&&◌, eqb, ltb, leb, List, [], ◌∷◌, length, get_or, ℤ, sym, refl, ap, ◌∙◌, subst, arith}
use mathlib.Core.Option.{Option, none, some}
use Rattle.std.proofs.lemmas.Bool.{le-leb, lt-leb, leb-true, leb-false, eq-eqb, and_from, and_parts, ltb-false, le-ltb}
use Rattle.rules.specs.Literals.{Each}
use Rattle.rules.specs.Rules.{Rule, clause, odd, literals, holds, satisfies, Fits, clauses, odds}
use Rattle.stores.specs.Stores.{Satisfies}
use Rattle.stores.specs.Joins.{joinable, joins}
use Rattle.rules.specs.declared.kind.Kind.{Kind}
use Rattle.rules.specs.declared.kind.Kind.TheVariants.{Clause, Odd}
use Rattle.meaning.specs.Listed.{rule_of, nth_rule, listed}
use Rattle.stores.specs.Joins.{join_fault}
use Rattle.meaning.specs.Tables.{parts, ends, open_fault, faultless, HoldsRules}
use Rattle.meaning.specs.Spelt.{Ruled, joined_rules, MeansRules, Filled, or_fault, together_fault, both_fault}
use Rattle.meaning.proofs.Tables.{rules_open, ends_numbers, opened_count}

-- ---- the clauses and the odd rules of a list
pub both_lengths : (rs : List Rule) → length (clauses rs) + length (odds rs) ≡ length rs
both_lengths [] = refl
both_lengths (clause ls ∷ rs) = let h = both_lengths rs in omega arith
both_lengths (odd ls ∷ rs) = let h = both_lengths rs in omega arith

pub clauses_fit : (n : ℕ) (rs : List Rule) → Each (λ r. Fits n (literals r)) rs → Each (Fits n) (clauses rs)
clauses_fit n [] h = tt
clauses_fit n (clause ls ∷ rs) h = (h.0, clauses_fit n rs h.1)
clauses_fit n (odd ls ∷ rs) h = clauses_fit n rs h.1

pub odds_fit : (n : ℕ) (rs : List Rule) → Each (λ r. Fits n (literals r)) rs → Each (Fits n) (odds rs)
odds_fit n [] h = tt
odds_fit n (clause ls ∷ rs) h = odds_fit n rs h.1
odds_fit n (odd ls ∷ rs) h = (h.0, odds_fit n rs h.1)

-- every rule of one kind holds
abbrev all_hold : Kind → List ℕ → List (List ℤ) → Bool
all_hold kind a [] = true
all_hold kind a (ls ∷ rs) = holds a (rule_of kind ls) && all_hold kind a rs

and_move : (b c d : Bool) → (b && (c && d)) ≡ (c && (b && d))
and_move true c d = refl
and_move false true d = refl
and_move false false d = refl

and_same : (b c d : Bool) → (b && (c && d)) ≡ ((b && c) && d)
and_same true c d = refl
and_same false c d = refl

pub satisfies_both : (a : List ℕ) (rs : List Rule) → satisfies a rs ≡ (all_hold Clause a (clauses rs) && all_hold Odd a (odds rs))
satisfies_both a [] = refl
satisfies_both a (clause ls ∷ rs) = ap (λ u. holds a (clause ls) && u) (satisfies_both a rs) ∙ and_same (holds a (clause ls)) (all_hold Clause a (clauses rs)) (all_hold Odd a (odds rs))
satisfies_both a (odd ls ∷ rs) = ap (λ u. holds a (odd ls) && u) (satisfies_both a rs) ∙ and_move (holds a (odd ls)) (all_hold Clause a (clauses rs)) (all_hold Odd a (odds rs))

hold_at : (kind : Kind) (a : List ℕ) (rs : List (List ℤ)) (i : ℕ) → all_hold kind a rs ≡ true → i < length rs → holds a (rule_of kind (get_or rs i [])) ≡ true
hold_at kind a [] i h l = absurd (omega arith)
hold_at kind a (ls ∷ rs) zero h l = (and_parts (holds a (rule_of kind ls)) (all_hold kind a rs) h).0
hold_at kind a (ls ∷ rs) (suc i) h l = hold_at kind a rs i (and_parts (holds a (rule_of kind ls)) (all_hold kind a rs) h).1 (omega arith)

hold_from : (kind : Kind) (a : List ℕ) (rs : List (List ℤ)) → ((i : ℕ) → i < length rs → holds a (rule_of kind (get_or rs i [])) ≡ true) → all_hold kind a rs ≡ true
hold_from kind a [] h = refl
hold_from kind a (ls ∷ rs) h = and_from (holds a (rule_of kind ls)) (all_hold kind a rs) (h 0 (omega arith)) (hold_from kind a rs (λ i l. h (suc i) (omega arith)))

-- ---- joined
module _ (n : ℕ) (rs : List Rule) (h : Ruled n rs) where
  pub rules_join : joinable (listed Clause n (clauses rs)) (listed Odd n (odds rs)) ≡ true
  rules_join = and_from (eqb n n) _ (eq-eqb n n refl) (le-leb (length (clauses rs) + length (odds rs)) 16384 (let e = both_lengths rs in let f = h.few_rules in omega arith))

  all_there : (joined_rules n rs).m ≡ length (clauses rs) + length (odds rs)
  all_there = ap (λ b. length (clauses rs) + cond b (length (odds rs)) 0) rules_join

  first_at : (a : List ℕ) (i : ℕ) → i < length (clauses rs) → (joined_rules n rs).satisfied (suc i) a ≡ holds a (clause (get_or (clauses rs) i []))
  first_at a i l =
      ap (λ b. cond b (holds a (clause (nth_rule (clauses rs) (suc i)))) (holds a (odd (nth_rule (odds rs) (suc i - length (clauses rs)))))) (le-leb (suc i) (length (clauses rs)) (omega arith))
      ∙ ap (λ j. holds a (clause (get_or (clauses rs) j []))) (let e : suc i - 1 ≡ i = omega arith in e)

  second_at : (a : List ℕ) (i : ℕ) → (joined_rules n rs).satisfied (suc (length (clauses rs) + i)) a ≡ holds a (odd (get_or (odds rs) i []))
  second_at a i =
      let r = suc (length (clauses rs) + i) in
      ap (λ b. cond b (holds a (clause (nth_rule (clauses rs) r))) (holds a (odd (nth_rule (odds rs) (r - length (clauses rs)))))) (lt-leb r (length (clauses rs)) (omega arith))
      ∙ ap (λ j. holds a (odd (get_or (odds rs) j []))) (let e : suc (length (clauses rs) + i) - length (clauses rs) - 1 ≡ i = omega arith in e)

  rules_satisfied : (a : List ℕ) → Satisfies (joined_rules n rs) a → satisfies a rs ≡ true
  rules_satisfied a s =
      satisfies_both a rs
      ∙ and_from (all_hold Clause a (clauses rs)) (all_hold Odd a (odds rs))
      (hold_from Clause a (clauses rs) (λ i l. sym (first_at a i l) ∙ s.rules (suc i) (omega arith) (let e = all_there in omega arith)))
      (hold_from Odd a (odds rs) (λ i l. sym (second_at a i) ∙ s.rules (suc (length (clauses rs) + i)) (omega arith) (let e = all_there in omega arith)))

  rule_at : (a : List ℕ) → all_hold Clause a (clauses rs) ≡ true → all_hold Odd a (odds rs) ≡ true → (i : ℕ) → suc i ≤ length (clauses rs) + length (odds rs) → (b : Bool) → leb (suc i) (length (clauses rs)) ≡ b → (joined_rules n rs).satisfied (suc i) a ≡ true
  rule_at a c o i l true e = let k = leb-true (suc i) (length (clauses rs)) e in first_at a i (omega arith) ∙ hold_at Clause a (clauses rs) i c (omega arith)
  rule_at a c o i l false e =
      let k = leb-false (suc i) (length (clauses rs)) e in
      let j = i - length (clauses rs) in
      ap (λ u. (joined_rules n rs).satisfied (suc u) a) (let f : i ≡ length (clauses rs) + (i - length (clauses rs)) = omega arith in f)
      ∙ second_at a j ∙ hold_at Odd a (odds rs) j o (omega arith)

  rules_at : (a : List ℕ) → satisfies a rs ≡ true → (r : ℕ) → 1 ≤ r → r ≤ (joined_rules n rs).m → (joined_rules n rs).satisfied r a ≡ true
  rules_at a s zero low high = absurd (omega arith)
  rules_at a s (suc i) low high =
      let both = and_parts (all_hold Clause a (clauses rs)) (all_hold Odd a (odds rs)) (sym (satisfies_both a rs) ∙ s) in
      rule_at a both.0 both.1 i (let e = all_there in omega arith) (leb (suc i) (length (clauses rs))) refl

  pub joined_means : MeansRules (joined_rules n rs) n rs
  joined_means = record { sound = λ a s. (s.full, rules_satisfied a s); whole = λ a full s. record { full = full; rules = rules_at a s } }

-- ---- the two tables of the rules
module _ (n : ℕ) (rs : List Rule) (c o : List ℤ) (h : Filled n rs c o) where
  clauses_held : HoldsRules n c (clauses rs)
  clauses_held = let e = both_lengths rs in let f = h.ruled.few_rules in record { few_vars = h.ruled.few_vars; few_rules = omega arith; fit = clauses_fit n rs h.ruled.fit; spelt = h.clauses_are }

  odds_held : HoldsRules n o (odds rs)
  odds_held = let e = both_lengths rs in let f = h.ruled.few_rules in record { few_vars = h.ruled.few_vars; few_rules = omega arith; fit = odds_fit n rs h.ruled.fit; spelt = h.odds_are }

  few_both : ltb 16384 (ends c + ends o) ≡ false
  few_both =
      let a = ap ends h.clauses_are ∙ ends_numbers n (clauses rs) clauses_held.fit in
      let b = ap ends h.odds_are ∙ ends_numbers n (odds rs) odds_held.fit in
      let e = both_lengths rs in
      let f = h.ruled.few_rules in
      le-ltb 16384 (ends c + ends o) (omega arith)

  pub filled_open : both_fault n c o ≡ none
  filled_open =
      ap (λ u. or_fault u (or_fault (open_fault n o) (together_fault c o))) (rules_open n c (clauses rs) clauses_held).0
      ∙ ap (λ u. or_fault u (together_fault c o)) (rules_open n o (odds rs) odds_held).0
      ∙ ap (λ b. cond b (some (19, 0)) none) few_both

  pub filled_mean : MeansRules (joins (listed Clause n (parts c)) (listed Odd n (parts o))) n rs
  filled_mean =
      subst (λ x. MeansRules (joins (listed Clause n x) (listed Odd n (parts o))) n rs) (sym (rules_open n c (clauses rs) clauses_held).1)
      (subst (λ y. MeansRules (joins (listed Clause n (clauses rs)) (listed Odd n y)) n rs) (sym (rules_open n o (odds rs) odds_held).1) (joined_means n rs h.ruled))

-- ---- two tables that open may be joined
or_none : (f g : Option (ℕ × ℕ)) → or_fault f g ≡ none → (f ≡ none) × (g ≡ none)
or_none none g h = (refl, h)
or_none (some x) g h = absurd (let z : ◌≡◌ {A = ℕ} 0 1 = cc h in omega arith)

not_beyond : (b : Bool) → ◌≡◌ {A = Option (ℕ × ℕ)} (cond b (some (19, 0)) none) none → b ≡ false
not_beyond true h = absurd (let z : ◌≡◌ {A = ℕ} 0 1 = cc h in omega arith)
not_beyond false h = refl

pub both_open : (n : ℕ) (c o : List ℤ) → both_fault n c o ≡ none → (open_fault n c ≡ none) × (open_fault n o ≡ none) × (join_fault (listed Clause n (parts c)) (listed Odd n (parts o)) ≡ none)
both_open n c o h =
    let a = or_none (open_fault n c) _ h in
    let b = or_none (open_fault n o) _ a.1 in
    let few = ltb-false 16384 (ends c + ends o) (not_beyond (ltb 16384 (ends c + ends o)) b.1) in
    let x = opened_count n c (ap faultless a.0) in
    let y = opened_count n o (ap faultless b.0) in (
      a.0,
      b.0,
      ap (λ u. cond u none (some (19, 0))) (and_from (eqb n n) _ (eq-eqb n n refl) (le-leb (length (parts c) + length (parts o)) 16384 (omega arith))),
    )

-- ---- the first fault of the two, as a check meets it
pub fault_first : (n : ℕ) (c o : List ℤ) (x : ℕ × ℕ) → some x ≡ open_fault n c → some x ≡ both_fault n c o
fault_first n c o x e = ap (λ u. or_fault u (or_fault (open_fault n o) (together_fault c o))) e

fault_rest : (n : ℕ) (c o : List ℤ) (f : Option (ℕ × ℕ)) → none ≡ open_fault n c → f ≡ or_fault (open_fault n o) (together_fault c o) → f ≡ both_fault n c o
fault_rest n c o f e h = h ∙ ap (λ u. or_fault u (or_fault (open_fault n o) (together_fault c o))) e

pub fault_second : (n : ℕ) (c o : List ℤ) (x : ℕ × ℕ) → none ≡ open_fault n c → some x ≡ open_fault n o → some x ≡ both_fault n c o
fault_second n c o x e f = fault_rest n c o (some x) e (ap (λ u. or_fault u (together_fault c o)) f)

pub fault_third : (n : ℕ) (c o : List ℤ) (f : Option (ℕ × ℕ)) → none ≡ open_fault n c → none ≡ open_fault n o → f ≡ together_fault c o → f ≡ both_fault n c o
fault_third n c o f e g h = fault_rest n c o f e (h ∙ ap (λ u. or_fault u (together_fault c o)) g)
