-- What is asked of a partial after the pass, place by place.
use Rattle.std.proofs.Common.{◌≡◌, ℕ, zero, suc, ◌+◌, ◌<◌, ◌≤◌, List, [], ◌∷◌, length, get_or, set, sym, refl, ap, ◌∙◌, subst, arith}
use Rattle.std.proofs.lemmas.List.{set-get_or}
use Rattle.lookahead.specs.Nodes.{filled}
use Rattle.lookahead.specs.Answers.{model_byte}

-- ---- the free variables false
filled_at : (p : List ℕ) (i : ℕ) → get_or p i 0 ≡ 0 → filled (set p i 2) ≡ filled p
filled_at [] i e = refl
filled_at (zero ∷ p) zero e = refl
filled_at (suc x ∷ p) zero e = absurd (omega arith)
filled_at (zero ∷ p) (suc i) e = ap (λ u. 2 ∷ u) (filled_at p i e)
filled_at (suc x ∷ p) (suc i) e = ap (λ u. suc x ∷ u) (filled_at p i e)

filled_whole : (p : List ℕ) → ((k : ℕ) → k < length p → get_or p k 0 ≡ 0 → ⊥) → filled p ≡ p
filled_whole [] h = refl
filled_whole (zero ∷ p) h = absurd (h 0 (omega arith) refl)
filled_whole (suc x ∷ p) h = ap (λ u. suc x ∷ u) (filled_whole p (λ k l e. h (suc k) (omega arith) e))

-- below place i nothing is free any more
pub record Filling (p q : List ℕ) (i : ℕ) : Type 0 where
  pub long : length q ≡ length p
  pub same : filled q ≡ filled p
  pub done : (k : ℕ) → k < i → get_or q k 0 ≡ 0 → ⊥

pub filling_starts : (p : List ℕ) → Filling p p 0
filling_starts p = record { long = refl; same = refl; done = λ k l e. absurd (omega arith) }

pub filling_ends : (p q : List ℕ) (i : ℕ) → length p ≤ i → Filling p q i → q ≡ filled p
filling_ends p q i h w = sym (filled_whole q (λ k l e. w.done k (omega (arith, w.long)) e)) ∙ w.same

-- one place more: it was set, or it is now false
set_there : (q : List ℕ) (i k : ℕ) → k < i + 1 → i < length q → ((j : ℕ) → j < i → get_or q j 0 ≡ 0 → ⊥) → get_or (set q i 2) k 0 ≡ 0 → ⊥
set_there [] i k h l d e = absurd (omega arith)
set_there (x ∷ q) zero zero h l d e = absurd (omega arith)
set_there (x ∷ q) zero (suc k) h l d e = absurd (omega arith)
set_there (x ∷ q) (suc i) zero h l d e = d 0 (omega arith) e
set_there (x ∷ q) (suc i) (suc k) h l d e = set_there q i k (omega arith) (omega arith) (λ j m. d (suc j) (omega arith)) e

stays_there : (q : List ℕ) (i k : ℕ) → k < i + 1 → (get_or q i 0 ≡ 0 → ⊥) → ((j : ℕ) → j < i → get_or q j 0 ≡ 0 → ⊥) → get_or q k 0 ≡ 0 → ⊥
stays_there [] i k h n d e = n refl
stays_there (x ∷ q) zero zero h n d e = n e
stays_there (x ∷ q) zero (suc k) h n d e = absurd (omega arith)
stays_there (x ∷ q) (suc i) zero h n d e = d 0 (omega arith) e
stays_there (x ∷ q) (suc i) (suc k) h n d e = stays_there q i k (omega arith) n (λ j m. d (suc j) (omega arith)) e

length_set_two : (q : List ℕ) (i : ℕ) → length (set q i 2) ≡ length q
length_set_two [] i = refl
length_set_two (x ∷ q) zero = refl
length_set_two (x ∷ q) (suc i) = ap suc (length_set_two q i)

module _ (p q : List ℕ) (i : ℕ) (h : i < length q) (w : Filling p q i) where
  filling_free : get_or q i 0 ≡ 0 → Filling p (set q i 2) (i + 1)
  filling_free e = record { long = length_set_two q i ∙ w.long; same = filled_at q i e ∙ w.same; done = λ k l f. set_there q i k l h w.done f }

  filling_set : (get_or q i 0 ≡ 0 → ⊥) → Filling p q (i + 1)
  filling_set n = record { long = w.long; same = w.same; done = λ k l f. stays_there q i k l n w.done f }

  fills : (b : ℕ) → get_or q i 0 ≡ b → Filling p (set q i (model_byte b)) (i + 1)
  fills zero e = filling_free e
  fills (suc b) e =
      let same : set q i (suc b) ≡ q = ap (set q i) (sym e) ∙ set-get_or q i 0 in
      subst (λ u. Filling p u (i + 1)) (sym same) (filling_set (λ z. absurd (omega arith)))

  pub filling_more : Filling p (set q i (model_byte (get_or q i 0))) (i + 1)
  filling_more = fills (get_or q i 0) refl
