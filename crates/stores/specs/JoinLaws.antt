-- Proof: two stores that keep their meaning keep it joined. It stands here since a store's ghost members cite it.
use Rattle.std.specs.Prelude.{◌≡◌, ℕ, ◌+◌, ◌-◌, ◌<◌, ◌≤◌, Bool, true, false, cond, List, ◌==◌, nat_le, refl}
use Rattle.std.proofs.Common.{sym, ap, subst, ◌∙◌, arith}
use Rattle.std.proofs.lemmas.Bool.{leb-true, leb-false, eqb-true, and_parts, cond_both}
use Rattle.rules.specs.Literals.{Literal, Partial, Full}
use Rattle.stores.specs.declared.look.Look.{Look}
use Rattle.stores.specs.declared.look.Look.TheVariants.{Settled, Broken, Forces, Open}
use Rattle.stores.specs.Stores.{Store, Means, Keeps, Lawful}
use Rattle.stores.specs.Joins.{joinable, joins}

-- an answer says the same of two rules that the same assignments satisfy
pub means_same : (s u : Store) (r k : ℕ) (p : List ℕ) → s.n ≡ u.n → ((a : List ℕ) → s.satisfied r a ≡ u.satisfied k a) → (v : Look) → Means s r p v → Means u k p v
means_same s u r k p e f Settled h = λ a full x. sym (f a) ∙ h a (subst (λ i. Full i a) (sym e) full) x
means_same s u r k p e f Broken h = λ a full x. sym (f a) ∙ h a (subst (λ i. Full i a) (sym e) full) x
means_same s u r k p e f (Forces l) h =
    (subst (λ i. Literal i l) e h.0, h.1, λ a full x y. h.2 a (subst (λ i. Full i a) (sym e) full) x (f a ∙ y))
means_same s u r k p e f (Open j) h = h

-- a rule past the first store's is there only where the two may be joined
second_there : (s t : Store) (r : ℕ) (b : Bool) → joinable s t ≡ b → s.m < r → r ≤ s.m + cond b t.m 0 → (t.n ≡ s.n) × (r - s.m ≤ t.m)
second_there s t r true e over high = (sym (eqb-true s.n t.n (and_parts (s.n == t.n) (nat_le (s.m + t.m) 16384) e).0), omega arith)
second_there s t r false e over high = absurd (omega arith)

pub joins_keep : (s t : Store) → Keeps s → Keeps t → Keeps (joins s t)
joins_keep s t ks kt r p low high q = by (nat_le r s.m) refl
  where
    by : (b : Bool) → nat_le r s.m ≡ b → Means (joins s t) r p (cond b (s.look r p) (t.look (r - s.m) p))
    by true f =
        means_same s (joins s t) r r p refl (λ a. sym (ap (λ u. cond u (s.satisfied r a) (t.satisfied (r - s.m) a)) f)) (s.look r p) (ks r p low (leb-true r s.m f) q)
    by false f =
        let k = leb-false r s.m f in
        let h = second_there s t r (joinable s t) refl (omega arith) high in
        means_same t (joins s t) (r - s.m) r p h.0 (λ a. sym (ap (λ u. cond u (s.satisfied r a) (t.satisfied (r - s.m) a)) f)) (t.look (r - s.m) p)
        (kt (r - s.m) p (omega arith) h.1 (subst (λ i. Partial i p) (sym h.0) q))

joins_few : (s t : Store) → s.m ≤ 16384 → s.m + cond (joinable s t) t.m 0 ≤ 16384
joins_few s t h = cond_both (joinable s t) t.m 0 (λ x. s.m + x ≤ 16384) (λ e. leb-true (s.m + t.m) 16384 (and_parts (s.n == t.n) (nat_le (s.m + t.m) 16384) e).1) (λ e. omega arith)

pub join_laws : {F G J : Type 0} {f_means : F → Store} {g_means : G → Store} → Lawful f_means → Lawful g_means → (first : J → F) (second : J → G) → Lawful (λ j. joins (f_means (first j)) (g_means (second j)))
join_laws {f_means = f} {g_means = g} fl gl first second =
    record {
      keeps = λ j. joins_keep (f (first j)) (g (second j)) (fl.keeps (first j)) (gl.keeps (second j));
      few_vars = λ j. fl.few_vars (first j);
      few_rules = λ j. joins_few (f (first j)) (g (second j)) (fl.few_rules (first j));
    }
