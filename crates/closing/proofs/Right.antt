-- The laws of closing.
use Rattle.std.proofs.Common.{◌≡◌, ℕ, List, ap, ◌∙◌, subst}
use Rattle.rules.specs.Literals.{Partial}
use Rattle.stores.specs.Stores.{Store, Keeps}
use Rattle.closing.specs.Closing.{Closing, clash, closes, close_by, close, left}
use Rattle.closing.specs.Laws.{Lowest, ClosingRight}
use Rattle.closing.proofs.Found.{lowest_is}
use Rattle.closing.proofs.Ends.{Ends, ends, close_step, left_step}

module _ (s : Store) (keep : Keeps s) where
  -- where a closing that ends as c ends
  at : (p : List ℕ) → Partial s.n p → (c : Closing) → close s p ≡ c → Ends s p (left s p) c
  at p fit c e = subst (Ends s p (left s p)) e (ends s keep p fit)

  -- and one that closes leaves the closed partial
  closed : (p q : List ℕ) → Partial s.n p → close s p ≡ closes q → Ends s p q (closes q)
  closed p q fit e = let k = at p fit (closes q) e in subst (λ u. Ends s p u (closes q)) k.ends_as.2 k

  pub right : ClosingRight s
  right =
      record {
        lowest = lowest_is s;
        step = close_step s keep;
        fits = λ p q fit e. (closed p q fit e).fits;
        sets_free = λ p q fit e. (closed p q fit e).adds;
        keeps = λ p q fit e. (closed p q fit e).ends_as.1;
        none_left = λ p fit e. (at p fit clash e).ends_as.1;
        quiet = λ p q fit e. subst (Lowest s q) (closed p q fit e).ends_as.0 (lowest_is s q);
        nothing = λ p q fit e. (closed p q fit e).ends_as.0;
        again = λ p q fit e. let k = closed p q fit e in close_step s keep q k.fits ∙ ap (close_by (close s) q) k.ends_as.0;
        left_step = left_step s keep;
        left_fits = λ p fit. (ends s keep p fit).fits;
        left_sets_free = λ p fit. (ends s keep p fit).adds;
        left_closed = λ p q fit e. (at p fit (closes q) e).ends_as.2;
        left_clash = λ p fit e. (at p fit clash e).ends_as.0;
      }
