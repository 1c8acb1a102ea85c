-- What the first fault of a table says of it.
use Rattle.std.proofs.Common.{◌≡◌, ℕ, suc, ◌+◌, Bool, true, false, cond, ltb, List, [], ◌∷◌, ◌++◌, get_or, take, ℤ, pos, nat_abs, sym, refl, ap, ◌∙◌, subst, inl, inr, arith}
use mathlib.Core.Option.{Option, none, some}
use Rattle.std.proofs.lemmas.Bool.{ltb-true}
use Rattle.meaning.specs.Tables.{is_end, has_var, fault_from, rule_fault, beyond, open_fault, since, Wrong, FaultsMean}

-- the fault k of what stands from some index on lies j places further, with its reason there
pub record Met (n : ℕ) (seen t : List ℤ) (at k i : ℕ) : Type 0 where
  pub far : ℕ
  pub there : i ≡ at + far
  pub wrong : Wrong n seen t k far
  pub before : (a : ℕ) → fault_from n seen a (take far t ++ (pos 0 ∷ [])) ≡ none

same_number : (k l i j : ℕ) → ◌≡◌ {A = Option (ℕ × ℕ)} (some (k, i)) (some (l, j)) → (k ≡ l) × (i ≡ j)
same_number k l i j e = let p : ◌≡◌ {A = ℕ × ℕ} (k, i) (l, j) = cc e in (ap (λ u. u.0) p, ap (λ u. u.1) p)

-- one number further
on_wrong : (n : ℕ) (seen : List ℤ) (z : ℤ) (zs next : List ℤ) (k j : ℕ) → since seen (suc j) (z ∷ zs) ≡ since next j zs → Wrong n next zs k j → Wrong n seen (z ∷ zs) k (suc j)
on_wrong n seen z zs next k j e (inl h) = inl (h.0, omega (arith, h.1), h.2)
on_wrong n seen z zs next k j e (inr (inl h)) = inr (inl (h.0, omega (arith, h.1), ap (λ ls. has_var ls (get_or zs j (pos 0))) e ∙ h.2))
on_wrong n seen z zs next k j e (inr (inr h)) = inr (inr (h.0, ap suc h.1))

met_from : (n : ℕ) (seen : List ℤ) (at : ℕ) (t : List ℤ) (k i : ℕ) → fault_from n seen at t ≡ some (k, i) → Met n seen t at k i
met_from n [] at [] k i h = absurd (let z : ◌≡◌ {A = ℕ} 0 1 = cc h in omega arith)
met_from n (y ∷ seen) at [] k i h =
    let e = same_number 15 k at i h in
    record { far = 0; there = (let f = e.1 in omega arith); wrong = inr (inr (sym e.0, refl)); before = λ a. refl }
met_from n seen at (z ∷ zs) k i h = by_end (is_end z) refl h (met_from n [] (at + 1) zs k i) (met_from n (seen ++ (z ∷ [])) (at + 1) zs k i)
  where
    by_var : (b : Bool) → has_var seen z ≡ b → is_end z ≡ false → ltb n (nat_abs z) ≡ false → cond b (some (14, at)) (fault_from n (seen ++ (z ∷ [])) (at + 1) zs) ≡ some (k, i) →
        (fault_from n (seen ++ (z ∷ [])) (at + 1) zs ≡ some (k, i) → Met n (seen ++ (z ∷ [])) zs (at + 1) k i) → Met n seen (z ∷ zs) at k i
    by_var true v e low h more =
        let f = same_number 14 k at i h in
        record { far = 0; there = (let g = f.1 in omega arith); wrong = inr (inl (sym f.0, omega arith, v)); before = λ a. refl }
    by_var false v e low h more =
        let m = more h in
        let j = m.far in
        record {
          far = suc j;
          there = (let g = m.there in omega arith);
          wrong = on_wrong n seen z zs (seen ++ (z ∷ [])) k j (ap (λ b. cond b (since [] j zs) (since (seen ++ (z ∷ [])) j zs)) e) m.wrong;
          before = λ a.
              ap (λ b. cond b (fault_from n [] (a + 1) (take j zs ++ (pos 0 ∷ []))) (cond (ltb n (nat_abs z)) (some (13, a)) (cond (has_var seen z) (some (14, a)) (fault_from n (seen ++ (z ∷ [])) (a + 1) (take j zs ++ (pos 0 ∷ [])))))) e
              ∙ ap (λ b. cond b (some (13, a)) (cond (has_var seen z) (some (14, a)) (fault_from n (seen ++ (z ∷ [])) (a + 1) (take j zs ++ (pos 0 ∷ []))))) low
              ∙ ap (λ b. cond b (some (14, a)) (fault_from n (seen ++ (z ∷ [])) (a + 1) (take j zs ++ (pos 0 ∷ [])))) v
              ∙ m.before (a + 1);
        }

    by_above : (b : Bool) → ltb n (nat_abs z) ≡ b → is_end z ≡ false → cond b (some (13, at)) (cond (has_var seen z) (some (14, at)) (fault_from n (seen ++ (z ∷ [])) (at + 1) zs)) ≡ some (k, i) →
        (fault_from n (seen ++ (z ∷ [])) (at + 1) zs ≡ some (k, i) → Met n (seen ++ (z ∷ [])) zs (at + 1) k i) → Met n seen (z ∷ zs) at k i
    by_above true a e h more =
        let f = same_number 13 k at i h in
        record { far = 0; there = (let g = f.1 in omega arith); wrong = inl (sym f.0, omega arith, ltb-true n (nat_abs z) a); before = λ a. refl }
    by_above false a e h more = by_var (has_var seen z) refl e a h more

    by_end : (b : Bool) → is_end z ≡ b → cond b (fault_from n [] (at + 1) zs) (cond (ltb n (nat_abs z)) (some (13, at)) (cond (has_var seen z) (some (14, at)) (fault_from n (seen ++ (z ∷ [])) (at + 1) zs))) ≡ some (k, i) →
        (fault_from n [] (at + 1) zs ≡ some (k, i) → Met n [] zs (at + 1) k i) →
        (fault_from n (seen ++ (z ∷ [])) (at + 1) zs ≡ some (k, i) → Met n (seen ++ (z ∷ [])) zs (at + 1) k i) → Met n seen (z ∷ zs) at k i
    by_end true e h past more =
        let m = past h in
        let j = m.far in
        record {
          far = suc j;
          there = (let g = m.there in omega arith);
          wrong = on_wrong n seen z zs [] k j (ap (λ b. cond b (since [] j zs) (since (seen ++ (z ∷ [])) j zs)) e) m.wrong;
          before = λ a. ap (λ b. cond b (fault_from n [] (a + 1) (take j zs ++ (pos 0 ∷ []))) (cond (ltb n (nat_abs z)) (some (13, a)) (cond (has_var seen z) (some (14, a)) (fault_from n (seen ++ (z ∷ [])) (a + 1) (take j zs ++ (pos 0 ∷ [])))))) e ∙ m.before (a + 1);
        }
    by_end false e h past more = by_above (ltb n (nat_abs z)) refl e h more

module _ (n : ℕ) (t : List ℤ) where
  met : (k i : ℕ) → beyond n t ≡ false → open_fault n t ≡ some (k, i) → Met n [] t 0 k i
  met k i b h = met_from n [] 0 t k i (sym (ap (λ u. cond u (some (19, 0)) (rule_fault n t)) b) ∙ h)

  pub faults_mean : FaultsMean n t
  faults_mean =
      record {
        limits = λ b. ap (λ u. cond u (some (19, 0)) (rule_fault n t)) b;
        reason = λ k i b h. let m = met k i b h in subst (Wrong n [] t k) (let e : m.far ≡ i = (let f = m.there in omega arith) in e) m.wrong;
        first = λ k i b h. let m = met k i b h in subst (λ j. rule_fault n (take j t ++ (pos 0 ∷ [])) ≡ none) (let e : m.far ≡ i = (let f = m.there in omega arith) in e) (m.before 0);
      }
