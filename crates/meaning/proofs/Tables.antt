-- A table opens just if it holds rules that fit.
use Rattle.std.proofs.Common.{◌≡◌, ℕ, zero, suc, ◌+◌, ◌≤◌, Bool, true, false, cond, ◌||◌, eqb, ltb, List, [], ◌∷◌, ◌++◌, length, ℤ, pos, negsuc, nat_abs, sym, refl, ap, ◌∙◌, subst, append_assoc, arith}
use mathlib.Core.Option.{Option, none, some}
use Rattle.std.proofs.lemmas.Bool.{true≢false, eqb-false, ne_eqb, ltb-false, le-ltb, or_parts}
use Rattle.rules.specs.Literals.{Each, Literal, place}
use Rattle.rules.specs.Rules.{Apart, Fits, numbers}
use Rattle.meaning.specs.Tables.{is_end, onto, parts, ends, has_var, fault_from, open_fault, faultless, opens, HoldsRules, OpensRules}

-- ---- literals
pub literal_lit : (n : ℕ) (z : ℤ) → Literal n z → is_end z ≡ false
literal_lit n (pos zero) h = absurd h
literal_lit n (pos (suc i)) h = refl
literal_lit n (negsuc i) h = refl

pub literal_abs : (n : ℕ) (z : ℤ) → Literal n z → nat_abs z ≡ suc (place z)
literal_abs n (pos zero) h = absurd h
literal_abs n (pos (suc i)) h = refl
literal_abs n (negsuc i) h = refl

pub literal_few : (n : ℕ) (z : ℤ) → Literal n z → nat_abs z ≤ n
literal_few n (pos zero) h = absurd h
literal_few n (pos (suc i)) h = omega arith
literal_few n (negsuc i) h = omega arith

pub literal_from : (n : ℕ) (z : ℤ) → is_end z ≡ false → nat_abs z ≤ n → Literal n z
literal_from n (pos zero) h l = absurd (true≢false h)
literal_from n (pos (suc i)) h l = omega arith
literal_from n (negsuc i) h l = omega arith

end_zero : (z : ℤ) → is_end z ≡ true → z ≡ pos 0
end_zero (pos zero) h = refl
end_zero (pos (suc i)) h = absurd (true≢false (sym h))
end_zero (negsuc i) h = absurd (true≢false (sym h))

-- ---- a rule's literals, one more
each_push : {A : Type 0} (P : A → Type 0) (xs : List A) (x : A) → Each P xs → P x → Each P (xs ++ (x ∷ []))
each_push P [] x h k = (k, tt)
each_push P (y ∷ xs) x h k = (h.0, each_push P xs x h.1 k)

apart_push : (n : ℕ) (ls : List ℤ) (z : ℤ) → Fits n ls → Literal n z → has_var ls z ≡ false → Apart (ls ++ (z ∷ []))
apart_push n [] z f l h = (tt, tt)
apart_push n (y ∷ ls) z f l h =
    let b = or_parts (eqb (nat_abs y) (nat_abs z)) (has_var ls z) h in
    let away = eqb-false (nat_abs y) (nat_abs z) b.0 in
    let u = literal_abs n y f.0.0 in
    let v = literal_abs n z l in
    (each_push (λ k. place k ≡ place y → ⊥) ls z f.1.0 (λ e. away (omega arith)), apart_push n ls z (f.0.1, f.1.1) l b.1)

fits_push : (n : ℕ) (ls : List ℤ) (z : ℤ) → Fits n ls → Literal n z → has_var ls z ≡ false → Fits n (ls ++ (z ∷ []))
fits_push n ls z f l h = (each_push (Literal n) ls z f.0 l, apart_push n ls z f l h)

-- ---- the rules of numbers
pub parts_rule : (n : ℕ) (ls zs : List ℤ) → Each (Literal n) ls → parts (ls ++ (pos 0 ∷ zs)) ≡ ls ∷ parts zs
parts_rule n [] zs h = refl
parts_rule n (l ∷ ls) zs h =
    ap (λ b. cond b ([] ∷ parts (ls ++ (pos 0 ∷ zs))) (onto l (parts (ls ++ (pos 0 ∷ zs))))) (literal_lit n l h.0) ∙ ap (onto l) (parts_rule n ls zs h.1)

pub parts_numbers : (n : ℕ) (rs : List (List ℤ)) → Each (Fits n) rs → parts (numbers rs) ≡ rs
parts_numbers n [] h = refl
parts_numbers n (ls ∷ rs) h = parts_rule n ls (numbers rs) h.0.0 ∙ ap (λ u. ls ∷ u) (parts_numbers n rs h.1)

ends_rule : (n : ℕ) (ls zs : List ℤ) → Each (Literal n) ls → ends (ls ++ (pos 0 ∷ zs)) ≡ suc (ends zs)
ends_rule n [] zs h = refl
ends_rule n (l ∷ ls) zs h = ap (λ b. cond b (suc (ends (ls ++ (pos 0 ∷ zs)))) (ends (ls ++ (pos 0 ∷ zs)))) (literal_lit n l h.0) ∙ ends_rule n ls zs h.1

pub ends_numbers : (n : ℕ) (rs : List (List ℤ)) → Each (Fits n) rs → ends (numbers rs) ≡ length rs
ends_numbers n [] h = refl
ends_numbers n (ls ∷ rs) h = ends_rule n ls (numbers rs) h.0.0 ∙ ap suc (ends_numbers n rs h.1)

-- ---- a table without a fault holds rules that fit
abbrev Good : ℕ → List ℤ → Type 0
Good n t = Each (Fits n) (parts t) × (t ≡ numbers (parts t))

no_fault : (b : Bool) (x : ℕ × ℕ) (r : Option (ℕ × ℕ)) → cond b (some x) r ≡ none → (b ≡ false) × (r ≡ none)
no_fault true x r h = absurd (let z : ◌≡◌ {A = ℕ} 0 1 = cc h in omega arith)
no_fault false x r h = (refl, h)

good_rule : (n : ℕ) (ls zs : List ℤ) → Fits n ls → Good n zs → Good n (ls ++ (pos 0 ∷ zs))
good_rule n ls zs f g =
    let e = parts_rule n ls zs f.0 in
    (subst (Each (Fits n)) (sym e) (f, g.0), ap (λ u. ls ++ (pos 0 ∷ u)) g.1 ∙ ap numbers (sym e))

good_from : (n : ℕ) (seen : List ℤ) (at : ℕ) (t : List ℤ) → Fits n seen → fault_from n seen at t ≡ none → Good n (seen ++ t)
good_from n [] at [] f h = (tt, refl)
good_from n (z ∷ seen) at [] f h = absurd (let y : ◌≡◌ {A = ℕ} 0 1 = cc h in omega arith)
good_from n seen at (z ∷ zs) f h = by (is_end z) refl h (good_from n [] (at + 1) zs (tt, tt)) (good_from n (seen ++ (z ∷ [])) (at + 1) zs)
  where
    by : (b : Bool) → is_end z ≡ b →
        cond b (fault_from n [] (at + 1) zs) (cond (ltb n (nat_abs z)) (some (13, at)) (cond (has_var seen z) (some (14, at)) (fault_from n (seen ++ (z ∷ [])) (at + 1) zs))) ≡ none →
        (fault_from n [] (at + 1) zs ≡ none → Good n zs) →
        (Fits n (seen ++ (z ∷ [])) → fault_from n (seen ++ (z ∷ [])) (at + 1) zs ≡ none → Good n ((seen ++ (z ∷ [])) ++ zs)) → Good n (seen ++ (z ∷ zs))
    by true e k past more = subst (λ u. Good n (seen ++ (u ∷ zs))) (sym (end_zero z e)) (good_rule n seen zs f (past k))
    by false e k past more =
        let a = no_fault (ltb n (nat_abs z)) (13, at) _ k in
        let b = no_fault (has_var seen z) (14, at) _ a.1 in
        subst (Good n) (append_assoc seen (z ∷ []) zs) (more (fits_push n seen z f (literal_from n z e (ltb-false n (nat_abs z) a.0)) b.0) b.1)

-- ---- and the numbers of rules that fit have no fault
fits_rest : (n : ℕ) (seen : List ℤ) (z : ℤ) (ls : List ℤ) → Fits n (seen ++ (z ∷ ls)) → Literal n z × (has_var seen z ≡ false)
fits_rest n [] z ls f = (f.0.0, refl)
fits_rest n (y ∷ seen) z ls f =
    let r = fits_rest n seen z ls (f.0.1, f.1.1) in
    let u = literal_abs n y f.0.0 in
    let v = literal_abs n z r.0 in
    let away = each_mid (λ k. place k ≡ place y → ⊥) seen z ls f.1.0 in
    (r.0, ap (λ b. b || has_var seen z) (ne_eqb (nat_abs y) (nat_abs z) (λ e. away (omega arith))) ∙ r.1)
  where
    each_mid : (P : ℤ → Type 0) (xs : List ℤ) (x : ℤ) (ys : List ℤ) → Each P (xs ++ (x ∷ ys)) → P x
    each_mid P [] x ys h = h.0
    each_mid P (w ∷ xs) x ys h = each_mid P xs x ys h.1

none_rule : (n : ℕ) (seen ls zs : List ℤ) → Fits n (seen ++ ls) → ((at : ℕ) → fault_from n [] at zs ≡ none) → (at : ℕ) → fault_from n seen at (ls ++ (pos 0 ∷ zs)) ≡ none
none_rule n seen [] zs f h at = h (at + 1)
none_rule n seen (z ∷ ls) zs f h at =
    let r = fits_rest n seen z ls f in
    let rest = fault_from n (seen ++ (z ∷ [])) (at + 1) (ls ++ (pos 0 ∷ zs)) in
    ap (λ b. cond b (fault_from n [] (at + 1) (ls ++ (pos 0 ∷ zs))) (cond (ltb n (nat_abs z)) (some (13, at)) (cond (has_var seen z) (some (14, at)) rest))) (literal_lit n z r.0)
    ∙ ap (λ b. cond b (some (13, at)) (cond (has_var seen z) (some (14, at)) rest)) (le-ltb n (nat_abs z) (literal_few n z r.0))
    ∙ ap (λ b. cond b (some (14, at)) rest) r.1
    ∙ none_rule n (seen ++ (z ∷ [])) ls zs (subst (Fits n) (sym (append_assoc seen (z ∷ []) ls)) f) h (at + 1)

none_numbers : (n : ℕ) (rs : List (List ℤ)) → Each (Fits n) rs → (at : ℕ) → fault_from n [] at (numbers rs) ≡ none
none_numbers n [] h at = refl
none_numbers n (ls ∷ rs) h at = none_rule n [] ls (numbers rs) h.0 (none_numbers n rs h.1) at

-- ---- opening
pub holds_rules : (n : ℕ) (t : List ℤ) → open_fault n t ≡ none → HoldsRules n t (parts t)
holds_rules n t h =
    let a = no_fault (ltb 2048 n || ltb 16384 (ends t)) (19, 0) (fault_from n [] 0 t) h in
    let b = or_parts (ltb 2048 n) (ltb 16384 (ends t)) a.0 in
    let g = good_from n [] 0 t (tt, tt) a.1 in
    let e = ap ends g.1 ∙ ends_numbers n (parts t) g.0 in
    let f = ltb-false 16384 (ends t) b.1 in
    record { few_vars = ltb-false 2048 n b.0; few_rules = omega arith; fit = g.0; spelt = g.1 }

pub rules_open : (n : ℕ) (t : List ℤ) (rs : List (List ℤ)) → HoldsRules n t rs → (open_fault n t ≡ none) × (parts t ≡ rs)
rules_open n t rs h =
    let e = ap ends h.spelt ∙ ends_numbers n rs h.fit in
    let few = h.few_rules in (
      ap (λ b. cond (b || ltb 16384 (ends t)) (some (19, 0)) (fault_from n [] 0 t)) (le-ltb 2048 n h.few_vars)
          ∙ ap (λ b. cond b (some (19, 0)) (fault_from n [] 0 t)) (le-ltb 16384 (ends t) (omega arith))
          ∙ ap (fault_from n [] 0) h.spelt ∙ none_numbers n rs h.fit 0,
      ap parts h.spelt ∙ parts_numbers n rs h.fit,
    )

pub opens_rules : (n : ℕ) (t : List ℤ) → OpensRules n t
opens_rules n t = record { holds = holds_rules n t; opens = rules_open n t }

-- ---- a table that opens, by its test
none_from : (o : Option (ℕ × ℕ)) → faultless o ≡ true → o ≡ none
none_from none h = refl
none_from (some x) h = absurd (true≢false (sym h))

pub opened_rules : (n : ℕ) (t : List ℤ) → opens n t ≡ true → HoldsRules n t (parts t)
opened_rules n t h = holds_rules n t (none_from (open_fault n t) h)

pub opened_count : (n : ℕ) (t : List ℤ) → opens n t ≡ true → length (parts t) ≡ ends t
opened_count n t h = let r = opened_rules n t h in sym (ap ends r.spelt ∙ ends_numbers n (parts t) r.fit)
