-- The pass loses no satisfying assignment, only sets free variables, and scores every variable that it leaves free.
use Rattle.std.proofs.Common.{◌≡◌, ℕ, zero, suc, ◌+◌, ◌<◌, None, List, [], ◌∷◌, ◌++◌, get_or, set, pos, negsuc, sym, refl, ◌∙◌, subst, inl, inr, ⊎_elim, arith}
use Rattle.std.proofs.lemmas.Bool.{cases_eq}
use Rattle.rules.specs.Literals.{Partial, Extends}
use Rattle.stores.specs.Stores.{Store, Keeps}
use Rattle.stores.specs.Walks.{lowest_of}
use Rattle.closing.specs.Closing.{Closing, clash, closes, close}
use Rattle.closing.proofs.Partials.{put_partial, put_adds, extends_self, extends_on}
use Rattle.closing.proofs.Found.{Dead}
use Rattle.closing.proofs.Ends.{Leads}
use Rattle.closing.proofs.Right.{right as closing_right}
use Rattle.lookahead.specs.Trials.{Rank, Ranking, Scored, scored, common, Pass, dead, alive, onward, tried, turn_of, pass, lookahead}
use Rattle.lookahead.proofs.Partials.{free_under, sides, side_taken, common_extends, common_adds, common_partial}
use Rattle.lookahead.proofs.Scores.{Literals, Rises, Listed, scored_literal, scored_place, literals_push, rises_more, rises_push, listed_more, listed_last}

-- q is a partial that sets more than p and loses no satisfying assignment
pub record Grown (s : Store) (p q : List ℕ) : Type 0 where
  pub fits : Partial s.n q
  pub adds : Extends q p
  pub keeps : Leads s p q

pub grown_self : (s : Store) (p : List ℕ) → Partial s.n p → Grown s p p
grown_self s p fit = record { fits = fit; adds = extends_self p; keeps = λ a sat e. e }

pub grown_on : (s : Store) (p q r : List ℕ) → Grown s p q → Grown s q r → Grown s p r
grown_on s p q r h k =
    record { fits = k.fits; adds = extends_on r q p k.adds h.adds; keeps = λ a sat e. k.keeps a sat (h.keeps a sat e) }

-- what is so of a closing of p that ends as this
abbrev pub CloseMeans : Store → List ℕ → Closing → Type 0
CloseMeans s p clash = Dead s p
CloseMeans s p (closes q) = Grown s p q × (lowest_of s q ≡ None)

-- what is so when the variables before place i of a pass that began at p had their turns, and left q with the scores xs
pub record Stands (s : Store) (p : List ℕ) (i : ℕ) (q : List ℕ) (xs : List Scored) : Type 0 where
  pub grown : Grown s p q
  -- no rule is broken or forces
  pub quiet : lowest_of s q ≡ None
  -- the scored variables are the store's, in rising order
  pub literals : Literals s.n xs
  pub rises : Rises 0 i xs
  -- and each that is still free is among them
  pub listed : (j : ℕ) → j < i → get_or q j 0 ≡ 0 → Listed j xs

-- what is so of a pass that began at p
abbrev pub PassMeans : Store → List ℕ → Pass → Type 0
PassMeans s p dead = Dead s p
PassMeans s p (alive q xs) = Stands s p s.n q xs

-- what comes after the turns of the variables before i keeps what is to be shown
abbrev Goes : Store → List ℕ → ℕ → (List ℕ → List Scored → Pass) → Type 0
Goes s p i go = (q : List ℕ) (xs : List Scored) → Stands s p i q xs → PassMeans s p (go q xs)

below : (i j : ℕ) → j < suc i → (j ≡ i → ⊥) → j < i
below i j h k = omega arith

-- ---- one turn
module _ (s : Store) (p q : List ℕ) (i : ℕ) (xs : List Scored) (now : Stands s p i q xs) where
  -- the variable is set and not scored
  after_set : (r : List ℕ) → Grown s q r → lowest_of s r ≡ None → (get_or r i 0 ≡ 0 → ⊥) → Stands s p (suc i) r xs
  after_set r g quiet taken =
      record {
        grown = grown_on s p q r now.grown g;
        quiet = quiet;
        literals = now.literals;
        rises = rises_more 0 i xs now.rises;
        listed = λ j h e. now.listed j (below i j h (λ u. taken (subst (λ v. get_or r v 0 ≡ 0) u e))) (free_under r q j g.adds e);
      }

  -- it is scored
  after_score : (r : List ℕ) → Grown s q r → lowest_of s r ≡ None → (k : Rank) → i < s.n → Stands s p (suc i) r (xs ++ (scored i k ∷ []))
  after_score r g quiet k h =
      record {
        grown = grown_on s p q r now.grown g;
        quiet = quiet;
        literals = literals_push s.n xs (scored i k) now.literals (scored_literal s.n i k h);
        rises = rises_push 0 i xs (scored i k) now.rises (scored_place i k);
        listed =
            λ j u e.
            ⊎_elim
            (λ v. listed_last j xs (scored i k) (scored_place i k ∙ sym v))
            (λ v. listed_more j xs (scored i k) (now.listed j (below i j u v) (free_under r q j g.adds e)))
            (cases_eq j i);
      }

module _ (s : Store) (keep : Keeps s) where
  close_by : (p : List ℕ) → Partial s.n p → (c : Closing) → close s p ≡ c → CloseMeans s p c
  close_by p fit clash e = (closing_right s keep).none_left p fit e
  close_by p fit (closes q) e =
      let law = closing_right s keep in
      (record { fits = law.fits p q fit e; adds = law.sets_free p q fit e; keeps = law.keeps p q fit e }, law.nothing p q fit e)

  pub close_means : (p : List ℕ) → Partial s.n p → CloseMeans s p (close s p)
  close_means p fit = close_by p fit (close s p) refl

  module _ (rank : Ranking) where
    -- what both sides share, closed
    shared_means : (p q r t : List ℕ) (i : ℕ) (xs : List Scored) (go : List ℕ → List Scored → Pass) → Stands s p i q xs → Goes s p (suc i) go → (k : Rank) → i < s.n → Grown s q (common q r t) → (c : Closing) → CloseMeans s (common q r t) c → PassMeans s p (onward (λ u. go u (xs ++ (scored i k ∷ []))) c)
    shared_means p q r t i xs go now f k h g clash m = λ a sat e. m a sat (g.keeps a sat (now.grown.keeps a sat e))
    shared_means p q r t i xs go now f k h g (closes u) m =
        f u (xs ++ (scored i k ∷ [])) (after_score s p q i xs now u (grown_on s q (common q r t) u g m.0) m.1 k h)

    module _ (p q : List ℕ) (i : ℕ) (xs : List Scored) (go : List ℕ → List Scored → Pass) (now : Stands s p i q xs) (f : Goes s p (suc i) go) (h : i < s.n) (gap : get_or q i 0 ≡ 0) where
      -- one side failed: the other is taken
      other : (b : ℕ) → Extends (set q i (suc b)) q → Leads s q (set q i (suc b)) → (r : List ℕ) → CloseMeans s (set q i (suc b)) (closes r) → PassMeans s p (go r xs)
      other b more lead r m =
          let g : Grown s q r =
          record {
            fits = m.0.fits;
            adds = extends_on r (set q i (suc b)) q m.0.adds more;
            keeps = λ a sat e. m.0.keeps a sat (lead a sat e);
          } in
          f r xs (after_set s p q i xs now r g m.1 (side_taken r q i b (subst (λ u. i < u) (sym now.grown.fits.long) h) m.0.adds))

      tried_means : (c d : Closing) → CloseMeans s (set q i 1) c → CloseMeans s (set q i 2) d → PassMeans s p (tried s rank go q i xs c d)
      tried_means clash clash k l =
          λ a sat e. ⊎_elim (k a sat) (l a sat) (sides s.n a q i h sat.full (now.grown.keeps a sat e))
      tried_means clash (closes r) k l =
          other 1 (put_adds q (negsuc i) gap) (λ a sat e. ⊎_elim (λ u. absurd (k a sat u)) (λ u. u) (sides s.n a q i h sat.full e)) r l
      tried_means (closes r) clash k l =
          other 0 (put_adds q (pos (suc i)) gap) (λ a sat e. ⊎_elim (λ u. u) (λ u. absurd (l a sat u)) (sides s.n a q i h sat.full e)) r k
      tried_means (closes r) (closes t) k l =
          let fit : Partial s.n (common q r t) = common_partial s.n q r t now.grown.fits k.0.fits in
          let g : Grown s q (common q r t) =
          record {
            fits = fit;
            adds = common_adds q r t (extends_on r (set q i 1) q k.0.adds (put_adds q (pos (suc i)) gap));
            keeps =
                λ a sat e.
                common_extends a q r t e
                (⊎_elim (λ u. inl (k.0.keeps a sat u)) (λ u. inr (l.0.keeps a sat u)) (sides s.n a q i h sat.full e));
          } in
          shared_means p q r t i xs go now f (rank q r t) h g (close s (common q r t)) (close_means (common q r t) fit)

    pub turn_means : (p q : List ℕ) (i : ℕ) (xs : List Scored) (go : List ℕ → List Scored → Pass) → Stands s p i q xs → ((r : List ℕ) (ys : List Scored) → Stands s p (suc i) r ys → PassMeans s p (go r ys)) → i < s.n → (b : ℕ) → get_or q i 0 ≡ b → PassMeans s p (turn_of s rank go q i xs b)
    turn_means p q i xs go now f h zero e =
        let fit = now.grown.fits in
        tried_means p q i xs go now f h e (close s (set q i 1)) (close s (set q i 2))
        (close_means (set q i 1) (put_partial s.n q (pos (suc i)) fit))
        (close_means (set q i 2) (put_partial s.n q (negsuc i) fit))
    turn_means p q i xs go now f h (suc b) e =
        f q xs (after_set s p q i xs now q (grown_self s q now.grown.fits) now.quiet (λ u. omega arith))

    -- ---- the whole pass
    pub pass_means : (p : List ℕ) (k i : ℕ) → i + k ≡ s.n → (q : List ℕ) (xs : List Scored) → Stands s p i q xs → PassMeans s p (pass s rank k i q xs)
    unfolding pass
    pass_means p zero i e q xs now = subst (λ u. Stands s p u q xs) (let f : i ≡ s.n = omega arith in f) now
    pass_means p (suc k) i e q xs now =
        turn_means p q i xs (pass s rank k (suc i)) now (pass_means p k (suc i) (omega arith)) (omega arith) (get_or q i 0) refl

    onward_means : (p : List ℕ) (c : Closing) → CloseMeans s p c → PassMeans s p (onward (λ q. pass s rank s.n 0 q []) c)
    onward_means p clash m = m
    onward_means p (closes q) m =
        pass_means p s.n 0 (omega arith) q []
        (record { grown = m.0; quiet = m.1; literals = tt; rises = omega arith; listed = λ j h e. absurd (omega arith) })

    pub lookahead_means : (p : List ℕ) → Partial s.n p → PassMeans s p (lookahead s rank p)
    unfolding lookahead
    lookahead_means p fit = onward_means p (close s p) (close_means p fit)

    -- the same of a pass that is known not to refute
    pub alive_means : (p : List ℕ) → Partial s.n p → (q : List ℕ) (xs : List Scored) → lookahead s rank p ≡ alive q xs → Stands s p s.n q xs
    alive_means p fit q xs e = subst (PassMeans s p) e (lookahead_means p fit)
