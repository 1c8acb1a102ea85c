-- The reply to a look: what it says is so, and a look that fits is answered.
use Rattle.std.proofs.Common.{◌≡◌, ℕ, zero, suc, ◌≤◌, Bool, true, false, cond, eqb, leb, List, [], ◌∷◌, length, get_or, pos, is_ok, Ok, Err, Result, sym, refl, ap, ◌∙◌, subst, arith}
use Rattle.std.proofs.lemmas.Bool.{le-leb, eq-eqb, and_from, and_parts, leb-true, eqb-true}
use Rattle.rules.specs.Literals.{Partial}
use Rattle.stores.specs.declared.look.Look.{Look}
use Rattle.stores.specs.declared.look.Look.TheVariants.{Settled, Broken, Forces, Open}
use Rattle.stores.specs.declared.look.Refusal.{Refusal}
use Rattle.stores.specs.declared.look.Refusal.TheVariants.{Unfit}
use Rattle.stores.specs.Numbers.{answer_of, reply_of}
use Rattle.stores.specs.Stores.{Store, Means, Keeps, legal, is_partial, answers, look_reply, Said}

-- ---- a partial that fits is not refused
pub legal_from : (p : List ℕ) → ((i : ℕ) → get_or p i 0 ≤ 2) → legal p ≡ true
legal_from [] h = refl
legal_from (b ∷ p) h = and_from (leb b 2) (legal p) (le-leb b 2 (h 0)) (legal_from p (λ i. h (suc i)))

pub legal_bytes : (p : List ℕ) → legal p ≡ true → (i : ℕ) → get_or p i 0 ≤ 2
legal_bytes [] h i = omega arith
legal_bytes (b ∷ p) h zero = leb-true b 2 (and_parts (leb b 2) (legal p) h).0
legal_bytes (b ∷ p) h (suc i) = legal_bytes p (and_parts (leb b 2) (legal p) h).1 i

pub answered : (s : Store) (r : ℕ) (p : List ℕ) → 1 ≤ r → r ≤ s.m → Partial s.n p → answers s r p ≡ true
answered s r p low high q =
    and_from (leb 1 r) _ (le-leb 1 r low)
    (and_from (leb r s.m) _ (le-leb r s.m high)
    (and_from (eqb (length p) s.n) (legal p) (eq-eqb (length p) s.n q.long) (legal_from p q.bytes)))

pub replied : (s : Store) (r : ℕ) (p : List ℕ) → 1 ≤ r → r ≤ s.m → Partial s.n p → look_reply s r p ≡ answer_of (s.look r p)
replied s r p low high q = ap (λ b. cond b (answer_of (s.look r p)) (18, pos 0)) (answered s r p low high q)

-- bytes that pass the test are a partial assignment
pub partial_from : (n : ℕ) (p : List ℕ) → is_partial n p ≡ true → Partial n p
partial_from n p h = let c = and_parts (eqb (length p) n) (legal p) h in record { long = eqb-true (length p) n c.0; bytes = legal_bytes p c.1 }

-- what an answered look asks for
pub record Fit (s : Store) (r : ℕ) (p : List ℕ) : Type 0 where
  pub low : 1 ≤ r
  pub high : r ≤ s.m
  pub fits : Partial s.n p

pub fit_from : (s : Store) (r : ℕ) (p : List ℕ) → answers s r p ≡ true → Fit s r p
fit_from s r p h =
    let a = and_parts (leb 1 r) _ h in
    let b = and_parts (leb r s.m) _ a.1 in
    record { low = leb-true 1 r a.0; high = leb-true r s.m b.0; fits = partial_from s.n p b.1 }

-- ---- an answer is known by its number and its value
pub same_answer : (v w : Look) → answer_of v ≡ answer_of w → v ≡ w
same_answer Settled Settled e = refl
same_answer Settled Broken e = absurd (let z = ap (λ u. u.0) e in omega arith)
same_answer Settled (Forces l) e = absurd (let z = ap (λ u. u.0) e in omega arith)
same_answer Settled (Open k) e = absurd (let z = ap (λ u. u.0) e in omega arith)
same_answer Broken Settled e = absurd (let z = ap (λ u. u.0) e in omega arith)
same_answer Broken Broken e = refl
same_answer Broken (Forces l) e = absurd (let z = ap (λ u. u.0) e in omega arith)
same_answer Broken (Open k) e = absurd (let z = ap (λ u. u.0) e in omega arith)
same_answer (Forces l) Settled e = absurd (let z = ap (λ u. u.0) e in omega arith)
same_answer (Forces l) Broken e = absurd (let z = ap (λ u. u.0) e in omega arith)
same_answer (Forces l) (Forces k) e = ap Forces (ap (λ u. u.1) e)
same_answer (Forces l) (Open k) e = absurd (let z = ap (λ u. u.0) e in omega arith)
same_answer (Open k) Settled e = absurd (let z = ap (λ u. u.0) e in omega arith)
same_answer (Open k) Broken e = absurd (let z = ap (λ u. u.0) e in omega arith)
same_answer (Open k) (Forces l) e = absurd (let z = ap (λ u. u.0) e in omega arith)
same_answer (Open k) (Open j) e = let z : pos k ≡ pos j = ap (λ u. u.1) e in ap Open (cc z)

not_refused : (v : Look) → answer_of v ≡ (18, pos 0) → ⊥
not_refused Settled e = let z = ap (λ u. u.0) e in omega arith
not_refused Broken e = let z = ap (λ u. u.0) e in omega arith
not_refused (Forces l) e = let z = ap (λ u. u.0) e in omega arith
not_refused (Open k) e = let z = ap (λ u. u.0) e in omega arith

pub refused_never : (s : Store) (r : ℕ) (p : List ℕ) → 1 ≤ r → r ≤ s.m → Partial s.n p → (e : Refusal) → reply_of (Err e) ≡ look_reply s r p → ⊥
refused_never s r p low high q Unfit h = not_refused (s.look r p) (sym (h ∙ replied s r p low high q))

pub not_refused_there : (s : Store) (r : ℕ) (p : List ℕ) → 1 ≤ r → r ≤ s.m → Partial s.n p → (v : Result Look Refusal) → reply_of v ≡ look_reply s r p → is_ok v ≡ true
not_refused_there s r p low high q (Ok v) h = refl
not_refused_there s r p low high q (Err e) h = absurd (refused_never s r p low high q e h)

pub seen_is : (s : Store) (r : ℕ) (p : List ℕ) → 1 ≤ r → r ≤ s.m → Partial s.n p → (v : Look) → answer_of v ≡ look_reply s r p → v ≡ s.look r p
seen_is s r p low high q v h = same_answer v (s.look r p) (h ∙ replied s r p low high q)

-- ---- a reply of a store that keeps its meaning says what is so
said_by : (s : Store) (r : ℕ) (p : List ℕ) → Keeps s → (v : Look) (b : Bool) → answers s r p ≡ b → answer_of v ≡ cond b (answer_of (s.look r p)) (18, pos 0) → Means s r p v
said_by s r p k v true a e = let f = fit_from s r p a in subst (Means s r p) (sym (same_answer v (s.look r p) e)) (k r p f.low f.high f.fits)
said_by s r p k v false a e = absurd (not_refused v e)

pub said : (s : Store) (r : ℕ) (p : List ℕ) → Keeps s → (v : Result Look Refusal) → reply_of v ≡ look_reply s r p → Said s r p v
said s r p k (Ok v) e = said_by s r p k v (answers s r p) refl e
said s r p k (Err x) e = tt

-- the reply to a look at a rule that is there, under a partial that fits
pub looked : (s : Store) (r : ℕ) (p : List ℕ) (v : Result Look Refusal) → 1 ≤ r → r ≤ s.m → Partial s.n p → reply_of v ≡ look_reply s r p → v ≡ Ok (s.look r p)
looked s r p (Ok v) low high q h = ap Ok (seen_is s r p low high q v h)
looked s r p (Err e) low high q h = absurd (refused_never s r p low high q e h)
