-- Where a closing ends, and that it has rounds enough.
use Rattle.std.proofs.Common.{◌≡◌, ℕ, zero, suc, ◌<◌, List, ℤ, Some, None, Option, sym, refl, ap, ◌∙◌, arith}
use Rattle.rules.specs.Literals.{put, free, Partial, Extends}
use Rattle.stores.specs.declared.look.Find.{Find}
use Rattle.stores.specs.declared.look.Find.TheVariants.{Clash, Force}
use Rattle.stores.specs.Stores.{Store, Satisfies, Keeps}
use Rattle.stores.specs.Walks.{lowest_of}
use Rattle.meaning.proofs.Keeps.{free_put}
use Rattle.closing.specs.Closing.{Closing, clash, closes, close_by, close_in, close, left_by, left_in, left}
use Rattle.closing.specs.Rounds.{ends_at, Went}
use Rattle.closing.proofs.Partials.{put_partial, put_extends, put_adds, extends_self, extends_on}
use Rattle.closing.proofs.Found.{Dead, Says, says, said}

-- each satisfying assignment that extends p extends q
abbrev pub Leads : Store → List ℕ → List ℕ → Type 0
Leads s p q = (a : List ℕ) → Satisfies s a → Extends a p → Extends a q

-- what is so of a closing of p that ends as c and leaves q
abbrev pub EndsAs : Store → List ℕ → List ℕ → Closing → Type 0
EndsAs s p q clash = (lowest_of s q ≡ Some Clash) × Dead s p
EndsAs s p q (closes r) = (lowest_of s q ≡ None) × Leads s p q × (q ≡ r)

pub record Ends (s : Store) (p q : List ℕ) (c : Closing) : Type 0 where
  pub fits : Partial s.n q
  pub adds : Extends q p
  pub ends_as : EndsAs s p q c

module _ (s : Store) where
  later_as : (p u q : List ℕ) (c : Closing) → Leads s p u → EndsAs s u q c → EndsAs s p q c
  later_as p u q clash h k = (k.0, λ a sat e. k.1 a sat (h a sat e))
  later_as p u q (closes r) h k = (k.0, λ a sat e. k.1 a sat (h a sat e), k.2)

  module _ (keep : Keeps s) where
    -- a forced literal takes a free variable
    fewer : (p : List ℕ) (l : ℤ) → Partial s.n p → Says s p (Some (Force l)) → suc (free (put p l)) ≡ free p
    fewer p l fit m = free_put s.n p l m.0 fit.long m.1

    ends_by : (k : ℕ) (p : List ℕ) → Partial s.n p → free p < suc k → (f : Option Find) → lowest_of s p ≡ f → Says s p f → ((u : List ℕ) → Partial s.n u → free u < k → Ends s u (left_in s k u) (close_in s k u)) → Ends s p (left_by (left_in s k) p f) (close_by (close_in s k) p f)
    ends_by k p fit h None e m again = record { fits = fit; adds = extends_self p; ends_as = (e, λ a sat x. x, refl) }
    ends_by k p fit h (Some Clash) e m again = record { fits = fit; adds = extends_self p; ends_as = (e, m) }
    ends_by k p fit h (Some (Force l)) e m again =
        let few = fewer p l fit m in
        let u = again (put p l) (put_partial s.n p l fit) (omega arith) in
        record {
          fits = u.fits;
          adds = extends_on (left_in s k (put p l)) (put p l) p u.adds (put_adds p l m.1);
          ends_as = later_as p (put p l) (left_in s k (put p l)) (close_in s k (put p l)) (λ a sat x. put_extends a p l (m.2 a sat x) x) u.ends_as;
        }

    ends_in : (k : ℕ) (p : List ℕ) → Partial s.n p → free p < k → Ends s p (left_in s k p) (close_in s k p)
    unfolding close_in left_in
    ends_in zero p fit h = absurd (omega arith)
    ends_in (suc k) p fit h = ends_by k p fit h (lowest_of s p) refl (says s p keep fit) (ends_in k)

    pub ends : (p : List ℕ) → Partial s.n p → Ends s p (left s p) (close s p)
    unfolding close left
    ends p fit = ends_in (suc (free p)) p fit (omega arith)

    close_round : (p : List ℕ) → Partial s.n p → (f : Option Find) → Says s p f → close_by (close_in s (free p)) p f ≡ close_by (close s) p f
    unfolding close
    close_round p fit None m = refl
    close_round p fit (Some Clash) m = refl
    close_round p fit (Some (Force l)) m = ap (λ k. close_in s k (put p l)) (sym (fewer p l fit m))

    pub close_step : (p : List ℕ) → Partial s.n p → close s p ≡ close_by (close s) p (lowest_of s p)
    unfolding close close_in
    close_step p fit = close_round p fit (lowest_of s p) (says s p keep fit)

    left_round : (p : List ℕ) → Partial s.n p → (f : Option Find) → Says s p f → left_by (left_in s (free p)) p f ≡ left_by (left s) p f
    unfolding left
    left_round p fit None m = refl
    left_round p fit (Some Clash) m = refl
    left_round p fit (Some (Force l)) m = ap (λ k. left_in s k (put p l)) (sym (fewer p l fit m))

    pub left_step : (p : List ℕ) → Partial s.n p → left s p ≡ left_by (left s) p (lowest_of s p)
    unfolding left left_in
    left_step p fit = left_round p fit (lowest_of s p) (says s p keep fit)

    -- one round of the code, by the answer f that its walk gave
    close_on : (p : List ℕ) → Partial s.n p → (f : Option Find) → f ≡ lowest_of s p → close s p ≡ close_by (close s) p f
    close_on p fit f e = close_step p fit ∙ ap (close_by (close s) p) (sym e)

    left_on : (p : List ℕ) → Partial s.n p → (f : Option Find) → f ≡ lowest_of s p → left s p ≡ left_by (left s) p f
    left_on p fit f e = left_step p fit ∙ ap (left_by (left s) p) (sym e)

    pub went : (p : List ℕ) → Partial s.n p → (f : Option Find) → f ≡ lowest_of s p → Went s p (left_by (λ q. q) p f) (ends_at f)
    went p fit None e = (sym (close_on p fit None e), sym (left_on p fit None e))
    went p fit (Some Clash) e = (sym (close_on p fit (Some Clash) e), sym (left_on p fit (Some Clash) e))
    went p fit (Some (Force l)) e =
        let few = fewer p l fit (said s p keep fit (Some (Force l)) e) in
        (close_on p fit (Some (Force l)) e, left_on p fit (Some (Force l)) e, omega arith)
