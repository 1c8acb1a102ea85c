-- The first rule that a table holds, and the rest.
use Rattle.std.proofs.Common.{◌≡◌, ℕ, zero, suc, Bool, true, false, cond, ◌||◌, List, [], ◌∷◌, ◌++◌, length, ℤ, pos, negsuc, sym, refl, ap, ◌∙◌, subst, arith, w32, SFits, of_z}
use Rattle.std.proofs.lemmas.Bool.{true≢false}
use Rattle.rules.specs.Literals.{Each, Literal}
use Rattle.rules.specs.Rules.{numbers}
use Rattle.meaning.specs.Tables.{is_end, onto, parts, faultless, opens, HoldsRules}
use Rattle.meaning.proofs.Tables.{literal_lit, rules_open, opened_rules}
use Rattle.tables.specs.Scan.{front, has_end, after}

-- ---- the 0 that ends a rule, by its bits
pub end_bits : (z : ℤ) → SFits w32 z → of_z w32 z ≡ 0 → is_end z ≡ true
end_bits (pos zero) f e = refl
end_bits (pos (suc n)) f e = absurd (omega arith)
end_bits (negsuc n) f e = absurd (omega (arith, f.sfits))

pub lit_bits : (z : ℤ) → (of_z w32 z ≡ 0 → ⊥) → is_end z ≡ false
lit_bits (pos zero) h = absurd (h refl)
lit_bits (pos (suc n)) h = refl
lit_bits (negsuc n) h = refl

-- ---- a table's numbers, up to the first 0 and after it
pub parts_first : (t : List ℤ) → has_end t ≡ true → parts t ≡ front t ∷ parts (after t)
parts_first [] h = absurd (true≢false (sym h))
parts_first (z ∷ zs) h = by (is_end z) h (parts_first zs)
  where
    by : (b : Bool) → (b || has_end zs) ≡ true → (has_end zs ≡ true → parts zs ≡ front zs ∷ parts (after zs)) → cond b ([] ∷ parts zs) (onto z (parts zs)) ≡ cond b [] (z ∷ front zs) ∷ parts (cond b zs (after zs))
    by true h e = refl
    by false h e = ap (onto z) (e h)

pub none_has : (t : List ℤ) → length t ≡ 0 → has_end t ≡ false
none_has [] h = refl
none_has (z ∷ zs) h = absurd (omega arith)

module _ (n : ℕ) (zs : List ℤ) where
  front_rule : (ls : List ℤ) → Each (Literal n) ls → front (ls ++ (pos 0 ∷ zs)) ≡ ls
  front_rule [] h = refl
  front_rule (l ∷ ls) h = ap (λ b. cond b [] (l ∷ front (ls ++ (pos 0 ∷ zs)))) (literal_lit n l h.0) ∙ ap (λ u. l ∷ u) (front_rule ls h.1)

  after_rule : (ls : List ℤ) → Each (Literal n) ls → after (ls ++ (pos 0 ∷ zs)) ≡ zs
  after_rule [] h = refl
  after_rule (l ∷ ls) h = ap (λ b. cond b (ls ++ (pos 0 ∷ zs)) (after (ls ++ (pos 0 ∷ zs)))) (literal_lit n l h.0) ∙ after_rule ls h.1

  has_rule : (ls : List ℤ) → Each (Literal n) ls → has_end (ls ++ (pos 0 ∷ zs)) ≡ true
  has_rule [] h = refl
  has_rule (l ∷ ls) h = ap (λ b. b || has_end (ls ++ (pos 0 ∷ zs))) (literal_lit n l h.0) ∙ has_rule ls h.1

-- ---- a table that opens
module _ {n : ℕ} {t ls : List ℤ} {rs : List (List ℤ)} (h : HoldsRules n t (ls ∷ rs)) where
  first_front : front t ≡ ls
  first_front = ap front h.spelt ∙ front_rule n (numbers rs) ls h.fit.0.0

  first_has : has_end t ≡ true
  first_has = ap has_end h.spelt ∙ has_rule n (numbers rs) ls h.fit.0.0

  first_after : HoldsRules n (after t) rs
  first_after =
      record {
        few_vars = h.few_vars;
        few_rules = (let few = h.few_rules in omega arith);
        fit = h.fit.1;
        spelt = ap after h.spelt ∙ after_rule n (numbers rs) ls h.fit.0.0;
      }

pub opens_by : (n : ℕ) (t : List ℤ) (rs : List (List ℤ)) → HoldsRules n t rs → opens n t ≡ true
opens_by n t rs h = ap faultless (rules_open n t rs h).0

module _ (n : ℕ) (t : List ℤ) where
  range_by : (rs : List (List ℤ)) → HoldsRules n t rs → Each (Literal n) (front t)
  range_by [] h = subst (λ u. Each (Literal n) (front u)) (sym h.spelt) tt
  range_by (ls ∷ rs) h = subst (Each (Literal n)) (sym (first_front h)) h.fit.0.0

  none_by : (rs : List (List ℤ)) → HoldsRules n t rs → has_end t ≡ false → t ≡ []
  none_by [] h e = h.spelt
  none_by (ls ∷ rs) h e = absurd (true≢false (sym (first_has h) ∙ e))

  after_by : (rs : List (List ℤ)) → HoldsRules n t rs → opens n (after t) ≡ true
  after_by [] h = opens_by n (after t) [] (subst (λ u. HoldsRules n u []) (h.spelt ∙ sym (ap after h.spelt)) h)
  after_by (ls ∷ rs) h = opens_by n (after t) rs (first_after h)

  module _ (o : opens n t ≡ true) where
    pub open_range : Each (Literal n) (front t)
    open_range = range_by (parts t) (opened_rules n t o)

    pub open_none : has_end t ≡ false → t ≡ []
    open_none = none_by (parts t) (opened_rules n t o)

    pub open_after : opens n (after t) ≡ true
    open_after = after_by (parts t) (opened_rules n t o)

-- the first rule is the first of its parts
pub front_part : (t ls : List ℤ) (rs : List (List ℤ)) → has_end t ≡ true → parts t ≡ ls ∷ rs → front t ≡ ls
front_part t ls rs h e = let k : front t ∷ parts (after t) ≡ ls ∷ rs = sym (parts_first t h) ∙ e in cc k

pub part_has : (n : ℕ) (t ls : List ℤ) (rs : List (List ℤ)) → opens n t ≡ true → parts t ≡ ls ∷ rs → has_end t ≡ true
part_has n t ls rs o e = first_has (subst (HoldsRules n t) e (opened_rules n t o))
