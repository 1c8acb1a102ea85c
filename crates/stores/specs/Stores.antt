-- A store of rules: what it means, and what its looks must say.
use Rattle.std.specs.Prelude.{◌≡◌, ℕ, ◌≤◌, Bool, true, false, cond, ◌&&◌, List, [], ◌∷◌, length, ℤ, pos, Ok, Err, Result, ◌==◌, nat_le, slice_index}
use Rattle.rules.specs.Literals.{place, Literal, is_true, free, Partial, Full, Extends}
use Rattle.stores.specs.declared.look.Look.{Look}
use Rattle.stores.specs.declared.look.Look.TheVariants.{Settled, Broken, Forces, Open}
use Rattle.stores.specs.declared.look.Refusal.{Refusal}
use Rattle.stores.specs.Numbers.{answer_of}

-- A store has n variables and m rules, numbered from 1. Of each rule it means whether a full assignment
-- satisfies it, and it answers looks at the rule under a partial assignment.
pub record Store : Type 0 where
  pub n : ℕ
  pub m : ℕ
  pub satisfied : ℕ → List ℕ → Bool
  pub look : ℕ → List ℕ → Look

-- an assignment satisfies a store if it satisfies every rule
pub record Satisfies (s : Store) (a : List ℕ) : Type 0 where
  pub full : Full s.n a
  pub rules : (r : ℕ) → 1 ≤ r → r ≤ s.m → s.satisfied r a ≡ true

-- what an answer says of the rule r under the partial p
abbrev pub Means : Store → ℕ → List ℕ → Look → Type 0
Means s r p Settled = (a : List ℕ) → Full s.n a → Extends a p → s.satisfied r a ≡ true
Means s r p Broken = (a : List ℕ) → Full s.n a → Extends a p → s.satisfied r a ≡ false
Means s r p (Forces l) =
    Literal s.n l × (slice_index p (place l) ≡ 0)
    × ((a : List ℕ) → Full s.n a → Extends a p → s.satisfied r a ≡ true → is_true a l ≡ true)
Means s r p (Open k) = (2 ≤ k) × (k ≤ free p)

-- every look at a rule of the store says what is so
abbrev pub Keeps : Store → Type 0
Keeps s = (r : ℕ) (p : List ℕ) → 1 ≤ r → r ≤ s.m → Partial s.n p → Means s r p (s.look r p)

-- what each store owes: its looks say what is so, and it is within the limits
pub record Lawful {S : Type 0} (means : S → Store) : Type 0 where
  pub keeps : (x : S) → Keeps (means x)
  pub few_vars : (x : S) → (means x).n ≤ 2048
  pub few_rules : (x : S) → (means x).m ≤ 16384

-- the laws of a store, for what stands for it
pub through : {S T : Type 0} {means : S → Store} → Lawful means → (of : T → S) → Lawful (λ x. means (of x))
through l of = record { keeps = λ x. l.keeps (of x); few_vars = λ x. l.few_vars (of x); few_rules = λ x. l.few_rules (of x) }

-- every byte is 0, 1 or 2
abbrev pub legal : List ℕ → Bool
legal [] = true
legal (b ∷ p) = nat_le b 2 && legal p

-- whether bytes are a partial assignment of n variables, as a test
abbrev pub is_partial : ℕ → List ℕ → Bool
is_partial n p = length p == n && legal p

-- whether a look at the rule r under p is answered: the rule is there, and p is a partial assignment
abbrev pub answers : Store → ℕ → List ℕ → Bool
answers s r p = nat_le 1 r && (nat_le r s.m && is_partial s.n p)

-- the reply to a look, as number and value: the store's answer, or 18
abbrev pub look_reply : Store → ℕ → List ℕ → ℕ × ℤ
look_reply s r p = cond (answers s r p) (answer_of (s.look r p)) (18, pos 0)

-- an answer that is given says what is so
abbrev pub Said : Store → ℕ → List ℕ → Result Look Refusal → Type 0
Said s r p (Ok v) = Means s r p v
Said s r p (Err e) = Unit {0}
