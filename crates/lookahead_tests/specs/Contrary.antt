-- A store of one rule over four variables that no assignment satisfies. All its looks say what is so, but it says less of
-- some partials than of those that they extend: both sides of 1 close, and what they share clashes.
use Rattle.std.specs.Prelude.{◌≡◌, ℕ, zero, suc, ◌≤◌, Bool, true, false, List, [], ◌∷◌, length, pos, slice_index, refl}
use Rattle.std.proofs.Common.{arith}
use Rattle.rules.specs.Literals.{free, Partial}
use Rattle.stores.specs.declared.look.Look.{Look}
use Rattle.stores.specs.declared.look.Look.TheVariants.{Broken, Forces, Open}
use Rattle.stores.specs.Stores.{Store, Means, Keeps, Lawful}

-- the look by the four bytes: with 1 and 2 free it is open, with 1 set it forces 2, with 2 set and 1 free it is broken
abbrev pub look_by : ℕ → ℕ → ℕ → ℕ → Look
look_by zero zero c d = Open 2
look_by zero (suc b) c d = Broken
look_by (suc a) zero c d = Forces (pos 2)
look_by (suc a) (suc b) zero zero = Open 2
look_by (suc a) (suc b) zero (suc d) = Broken
look_by (suc a) (suc b) (suc c) d = Broken

abbrev pub contrary : Store
contrary =
    record {
      n = 4;
      m = 1;
      satisfied = λ r a. false;
      look = λ r p. look_by (slice_index p 0) (slice_index p 1) (slice_index p 2) (slice_index p 3);
    }

free_less : (x : ℕ) (p : List ℕ) → free p ≤ free (x ∷ p)
free_less zero p = omega arith
free_less (suc x) p = omega arith

first_two : (p : List ℕ) → 2 ≤ length p → slice_index p 0 ≡ 0 → slice_index p 1 ≡ 0 → 2 ≤ free p
first_two [] h e f = absurd (omega arith)
first_two (x ∷ []) h e f = absurd (omega arith)
first_two (zero ∷ zero ∷ p) h e f = omega arith
first_two (zero ∷ suc y ∷ p) h e f = absurd (omega arith)
first_two (suc x ∷ y ∷ p) h e f = absurd (omega arith)

next_two : (p : List ℕ) → 4 ≤ length p → slice_index p 2 ≡ 0 → slice_index p 3 ≡ 0 → 2 ≤ free p
next_two [] h e f = absurd (omega arith)
next_two (x ∷ []) h e f = absurd (omega arith)
next_two (x ∷ y ∷ p) h e f = omega (arith, free_less x (y ∷ p), free_less y p, first_two p (omega arith) e f)

never : {A : Type 0} → false ≡ true → A
never e = let z : ◌≡◌ {A = ℕ} 0 1 = cc in absurd (omega arith)

means_by :
    (r : ℕ) (p : List ℕ) (a b c d : ℕ) → slice_index p 0 ≡ a → slice_index p 1 ≡ b → slice_index p 2 ≡ c → slice_index p 3 ≡ d → length p ≡ 4 →
    Means contrary r p (look_by a b c d)
means_by r p zero zero c d e f g h long = (omega arith, first_two p (omega arith) e f)
means_by r p zero (suc b) c d e f g h long = λ v full ext. refl
means_by r p (suc a) zero c d e f g h long = (omega arith, f, λ v full ext sat. never sat)
means_by r p (suc a) (suc b) zero zero e f g h long = (omega arith, next_two p (omega arith) g h)
means_by r p (suc a) (suc b) zero (suc d) e f g h long = λ v full ext. refl
means_by r p (suc a) (suc b) (suc c) d e f g h long = λ v full ext. refl

pub contrary_keeps : Keeps contrary
contrary_keeps r p low high fit = means_by r p (slice_index p 0) (slice_index p 1) (slice_index p 2) (slice_index p 3) refl refl refl refl fit.long

pub contrary_laws : {S : Type 0} → Lawful {S = S} (λ x. contrary)
contrary_laws = record { keeps = λ x. contrary_keeps; few_vars = λ x. omega arith; few_rules = λ x. omega arith }
