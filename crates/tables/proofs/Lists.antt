-- The walks over a list of rules of either kind, as walks over the list of their looks.
use Rattle.std.proofs.Common.{◌≡◌, ℕ, zero, suc, ◌+◌, ◌-◌, Bool, true, false, not, cond, ltb, List, [], ◌∷◌, map, length, get_or, drop, ℤ, Some, None, Option, sym, refl, ap, ◌∙◌, arith}
use Rattle.std.proofs.lemmas.Bool.{lt-ltb, le-ltb, ltb-true, ltb-false}
use Rattle.std.proofs.lemmas.List.Sums.{sum_by-cons}
use Rattle.std.specs.Option.{option_or, option_map}
use Rattle.std.specs.List.{position_or_len, sum_by, zip}
use Rattle.stores.specs.declared.look.Look.{Look}
use Rattle.stores.specs.Walks.{find_of, found, lowest_of, is_settled, unsettled_from, first_unsettled, gain_of, gain_from, gained}
use Rattle.stores.proofs.Chains.{first_some}
use Rattle.rules.specs.declared.kind.Kind.{Kind}
use Rattle.meaning.specs.Listed.{look_at, listed}

drop_head : (rs : List (List ℤ)) (i : ℕ) (c : List ℤ) (cs : List (List ℤ)) → drop i rs ≡ c ∷ cs → (get_or rs i [] ≡ c) × (drop (suc i) rs ≡ cs)
drop_head [] zero c cs e = absurd (cc e)
drop_head [] (suc i) c cs e = absurd (cc e)
drop_head (x ∷ rs) zero c cs e = (cc e, cc e)
drop_head (x ∷ rs) (suc i) c cs e = drop_head rs i c cs e

-- what `position` answers, counted from r
abbrev pub place_from : ℕ → List Look → Option ℕ
place_from r vs = let at = position_or_len (λ v. not (is_settled v)) vs in cond (ltb at (length vs)) (Some (r + at)) None

place_more : (v : Look) (vs : List Look) (r : ℕ) → place_from r (v ∷ vs) ≡ cond (is_settled v) (place_from (suc r) vs) (Some r)
place_more v vs r = by (is_settled v)
  where
    at : ℕ
    at = position_or_len (λ v. not (is_settled v)) vs

    later : (b : Bool) → ltb at (length vs) ≡ b → cond (ltb (1 + at) (suc (length vs))) (Some (r + (1 + at))) None ≡ cond b (Some (suc r + at)) None
    later true e = let l = ltb-true at (length vs) e in ap (λ b. cond b (Some (r + (1 + at))) None) (lt-ltb (1 + at) (suc (length vs)) (omega arith)) ∙ ap Some (let k : r + (1 + at) ≡ suc r + at = omega arith in k)
    later false e = let l = ltb-false at (length vs) e in ap (λ b. cond b (Some (r + (1 + at))) None) (le-ltb (1 + at) (suc (length vs)) (omega arith))

    by : (b : Bool) → (let k = cond (not (not b)) (1 + at) 0 in cond (ltb k (suc (length vs))) (Some (r + k)) None) ≡ cond b (place_from (suc r) vs) (Some r)
    by true = later (ltb at (length vs)) refl
    by false = ap (λ b. cond b (Some (r + 0)) None) (lt-ltb 0 (suc (length vs)) (omega arith)) ∙ ap Some (let k : r + 0 ≡ r = omega arith in k)

-- as a count of the looks before
pub place_is : (vs : List Look) (o : Option ℕ) → o ≡ (let at = position_or_len (λ v. not (is_settled v)) vs in cond (ltb at (length vs)) (Some at) None) → place_from 1 vs ≡ option_map suc o
place_is vs o e = by (ltb at (length vs)) ∙ ap (option_map suc) (sym e)
  where
    at : ℕ
    at = position_or_len (λ v. not (is_settled v)) vs

    by : (b : Bool) → cond b (Some (1 + at)) None ≡ option_map suc (cond b (Some at) None)
    by true = ap Some (let k : 1 + at ≡ suc at = omega arith in k)
    by false = refl

module _ (kind : Kind) (n : ℕ) (rs : List (List ℤ)) where
  look_here : (p : List ℕ) (i : ℕ) (c : List ℤ) → get_or rs i [] ≡ c → (listed kind n rs).look (suc i) p ≡ look_at kind p c
  look_here p i c e = ap (λ u. look_at kind p (get_or rs u [])) (let f : suc i - 1 ≡ i = omega arith in f) ∙ ap (look_at kind p) e

  found_rest : (p : List ℕ) (cs : List (List ℤ)) (i : ℕ) → drop i rs ≡ cs → found (listed kind n rs) p (length cs) (suc i) ≡ first_some find_of (map (look_at kind p) cs)
  unfolding found
  found_rest p [] i e = refl
  found_rest p (c ∷ cs) i e =
      let h = drop_head rs i c cs e in
      ap (λ v. option_or (find_of v) (found (listed kind n rs) p (length cs) (suc (suc i)))) (look_here p i c h.0) ∙ ap (option_or (find_of (look_at kind p c))) (found_rest p cs (suc i) h.1)

  pub found_all : (p : List ℕ) → lowest_of (listed kind n rs) p ≡ first_some find_of (map (look_at kind p) rs)
  found_all p = found_rest p rs 0 refl

  unsettled_rest : (p : List ℕ) (cs : List (List ℤ)) (i : ℕ) → drop i rs ≡ cs → unsettled_from (listed kind n rs) p (length cs) (suc i) ≡ place_from (suc i) (map (look_at kind p) cs)
  unfolding unsettled_from
  unsettled_rest p [] i e = refl
  unsettled_rest p (c ∷ cs) i e =
      let h = drop_head rs i c cs e in
      ap (λ v. cond (is_settled v) (unsettled_from (listed kind n rs) p (length cs) (suc (suc i))) (Some (suc i))) (look_here p i c h.0)
      ∙ ap (λ u. cond (is_settled (look_at kind p c)) u (Some (suc i))) (unsettled_rest p cs (suc i) h.1)
      ∙ sym (place_more (look_at kind p c) (map (look_at kind p) cs) (suc i))

  pub unsettled_all : (p : List ℕ) → first_unsettled (listed kind n rs) p ≡ place_from 1 (map (look_at kind p) rs)
  unsettled_all p = unsettled_rest p rs 0 refl

  gain_rest : (p q : List ℕ) (cs : List (List ℤ)) (i : ℕ) → drop i rs ≡ cs → gain_from (listed kind n rs) p q (length cs) (suc i) ≡ sum_by (λ v. gain_of v.0 v.1) (zip (map (look_at kind p) cs) (map (look_at kind q) cs))
  unfolding gain_from
  gain_rest p q [] i e = refl
  gain_rest p q (c ∷ cs) i e =
      let h = drop_head rs i c cs e in
      let a = ap (λ v. gain_of v ((listed kind n rs).look (suc i) q)) (look_here p i c h.0) ∙ ap (gain_of (look_at kind p c)) (look_here q i c h.0) in
      let b = gain_rest p q cs (suc i) h.1 in
      let d = sum_by-cons (λ (v : Look × Look). gain_of v.0 v.1) (look_at kind p c, look_at kind q c) (zip (map (look_at kind p) cs) (map (look_at kind q) cs)) in
      omega arith

  pub gain_all : (p q : List ℕ) → gained (listed kind n rs) p q ≡ sum_by (λ v. gain_of v.0 v.1) (zip (map (look_at kind p) rs) (map (look_at kind q) rs))
  gain_all p q = gain_rest p q rs 0 refl
