-- The words that spell rules send those rules' numbers to the tables.
use Rattle.std.proofs.Common.{◌≡◌, ℕ, zero, suc, ◌^◌, ◌<◌, ◌≤◌, eqb, List, [], ◌∷◌, ◌++◌, map, ℤ, pos, negsuc, nat_abs, Ok, codes, unwrap_or, refl, ap, ◌∙◌, append_assoc, arith}
use Rattle.std.specs.List.{flat_map}
use Rattle.std.specs.Fmt.{signed_decimal}
use Rattle.std.specs.Str.{bytes_eq}
use Rattle.std.proofs.lemmas.Bool.{cond-false, ne_eqb}
use Rattle.rules.specs.declared.kind.Kind.{Kind}
use Rattle.rules.specs.declared.kind.Kind.TheVariants.{Clause, Odd}
use Rattle.rules.specs.Literals.{Literal, Each}
use Rattle.rules.specs.Rules.{Rule, clause, odd, literals, Fits, clauses, odds, numbers}
use Rattle.reader.specs.Spelling.{rule_words}
use Rattle.reader.specs.Tokens.{Token}
use Rattle.reader.specs.Reading.{scan, between}
use Rattle.reader.specs.Filling.{number_in, kind_after, goes_to, sent, sent_by}
use Rattle.reader.proofs.Numbers.{numeral_signed, signed_not_odd}
use Rattle.reader.proofs.Scans.{scan_sound}

-- the rules of one table
abbrev pub part : Kind → List Rule → List (List ℤ)
part Clause rs = clauses rs
part Odd rs = odds rs

-- numbers before others, if they go to this table
abbrev onto_table : Kind → Kind → List ℤ → List ℤ → List ℤ
onto_table Clause Clause ls zs = ls ++ zs
onto_table Clause Odd ls zs = zs
onto_table Odd Clause ls zs = zs
onto_table Odd Odd ls zs = ls ++ zs

literal_small : (n : ℕ) (z : ℤ) → n ≤ 2048 → Literal n z → (0 < nat_abs z) × (nat_abs z < 10 ^ 9)
literal_small n (pos zero) few l = absurd l
literal_small n (pos (suc i)) few l = (omega arith, omega arith)
literal_small n (negsuc i) few l = (omega arith, omega arith)

one_literal : (which k : Kind) (n : ℕ) (z : ℤ) (ws : List (List ℕ)) → n ≤ 2048 → Literal n z → sent which k (signed_decimal z ∷ ws) ≡ goes_to which k z (sent which k ws)
one_literal which k n z ws few l =
    let small = literal_small n z few l in
    let is : number_in (signed_decimal z) ≡ z = ap (λ o. unwrap_or o (pos 0)) (numeral_signed z small.1) in
    let on : kind_after k z ≡ k = cond-false (eqb (nat_abs z) 0) Clause k (ne_eqb (nat_abs z) 0 (λ e. omega (arith, small.0))) in
    cond-false (bytes_eq (signed_decimal z) (codes "odd")) _ _ (signed_not_odd z small.1)
    ∙ (ap (λ y. goes_to which k y (sent which (kind_after k y) ws)) is ∙ ap (λ j. goes_to which k z (sent which j ws)) on)

join_one : (which k : Kind) (z : ℤ) (ls zs : List ℤ) → goes_to which k z (onto_table which k ls zs) ≡ onto_table which k (z ∷ ls) zs
join_one Clause Clause z ls zs = refl
join_one Clause Odd z ls zs = refl
join_one Odd Clause z ls zs = refl
join_one Odd Odd z ls zs = refl

-- a 0 ends the rule
the_end : (which k : Kind) (ws : List (List ℕ)) → sent which k (codes "0" ∷ ws) ≡ onto_table which k (pos 0 ∷ []) (sent which Clause ws)
the_end Clause Clause ws = refl
the_end Clause Odd ws = refl
the_end Odd Clause ws = refl
the_end Odd Odd ws = refl

one_rule : (which k : Kind) (n : ℕ) (ls : List ℤ) (ws : List (List ℕ)) → n ≤ 2048 → Each (Literal n) ls → sent which k (map signed_decimal ls ++ (codes "0" ∷ ws)) ≡ onto_table which k (ls ++ (pos 0 ∷ [])) (sent which Clause ws)
one_rule which k n [] ws few h = the_end which k ws
one_rule which k n (z ∷ ls) ws few h =
    one_literal which k n z (map signed_decimal ls ++ (codes "0" ∷ ws)) few h.0
    ∙ (ap (goes_to which k z) (one_rule which k n ls ws few h.1) ∙ join_one which k z (ls ++ (pos 0 ∷ [])) (sent which Clause ws))

first_of : (which : Kind) (ls : List ℤ) (rs : List Rule) → onto_table which Clause (ls ++ (pos 0 ∷ [])) (numbers (part which rs)) ≡ numbers (part which (clause ls ∷ rs))
first_of Clause ls rs = append_assoc ls (pos 0 ∷ []) (numbers (clauses rs))
first_of Odd ls rs = refl

first_odd : (which : Kind) (ls : List ℤ) (rs : List Rule) → onto_table which Odd (ls ++ (pos 0 ∷ [])) (numbers (part which rs)) ≡ numbers (part which (odd ls ∷ rs))
first_odd Clause ls rs = refl
first_odd Odd ls rs = append_assoc ls (pos 0 ∷ []) (numbers (odds rs))

sent_rules : (which : Kind) (n : ℕ) (rs : List Rule) → n ≤ 2048 → Each (λ r. Fits n (literals r)) rs → sent which Clause (flat_map rule_words rs) ≡ numbers (part which rs)
sent_rules Clause n [] few h = refl
sent_rules Odd n [] few h = refl
sent_rules which n (clause ls ∷ rs) few h =
    ap (sent which Clause) (append_assoc (map signed_decimal ls) (codes "0" ∷ []) (flat_map rule_words rs))
    ∙ (one_rule which Clause n ls (flat_map rule_words rs) few h.0.0
    ∙ (ap (onto_table which Clause (ls ++ (pos 0 ∷ []))) (sent_rules which n rs few h.1) ∙ first_of which ls rs))
sent_rules which n (odd ls ∷ rs) few h =
    ap (sent which Odd) (append_assoc (map signed_decimal ls) (codes "0" ∷ []) (flat_map rule_words rs))
    ∙ (one_rule which Odd n ls (flat_map rule_words rs) few h.0.0
    ∙ (ap (onto_table which Odd (ls ++ (pos 0 ∷ []))) (sent_rules which n rs few h.1) ∙ first_odd which ls rs))

-- what the words of a text that is accepted send to a table are its rules of that kind
pub sent_is : (which : Kind) (n end : ℕ) (ts : List Token) (rs : List Rule) → n ≤ 2048 → scan n end between ts ≡ Ok rs → sent_by which Clause ts ≡ numbers (part which rs)
sent_is which n end ts rs few e =
    let told = (scan_sound n end ts).outer rs e in
    ap (sent which Clause) told.spelled ∙ sent_rules which n rs few told.fit
