-- Closing a partial assignment over a store.
use Rattle.std.specs.Prelude.{ℕ, zero, suc, cond, List, Ok, Err, Result, Some, None, Option}
use Rattle.rules.specs.Literals.{put, free}
use Rattle.stores.specs.declared.look.Find.{Find}
use Rattle.stores.specs.declared.look.Find.TheVariants.{Clash, Force}
use Rattle.stores.specs.declared.look.Refusal.{Refusal}
use Rattle.stores.specs.Numbers.{number_of}
use Rattle.stores.specs.Stores.{Store, is_partial}
use Rattle.stores.specs.Walks.{lowest_of}
use Rattle.closing.specs.declared.ending.Clash.{Clash as Clashed}

-- a closing ends in a clash, or in a partial that is closed
pub data Closing : Type 0 where
  clash : Closing
  closes : List ℕ → Closing

-- By what the lowest rule that is broken or forces says: with no such rule the partial is closed, broken is a clash,
-- and a forced literal is set and the closing goes on.
abbrev pub close_by : (List ℕ → Closing) → List ℕ → Option Find → Closing
close_by again p None = closes p
close_by again p (Some Clash) = clash
close_by again p (Some (Force l)) = again (put p l)

-- at most k rounds
unfoldable pub close_in : Store → ℕ → List ℕ → Closing
close_in s zero p = closes p
close_in s (suc k) p = close_by (close_in s k) p (lowest_of s p)

-- each round before the last sets a free variable, so one round more than there are free ones is enough
unfoldable pub close : Store → List ℕ → Closing
close s p = close_in s (suc (free p)) p

-- The partial that is left in the memory: the closed one, or the one in which the clash was met.
abbrev pub left_by : (List ℕ → List ℕ) → List ℕ → Option Find → List ℕ
left_by again p None = p
left_by again p (Some Clash) = p
left_by again p (Some (Force l)) = again (put p l)

unfoldable pub left_in : Store → ℕ → List ℕ → List ℕ
left_in s zero p = p
left_in s (suc k) p = left_by (left_in s k) p (lowest_of s p)

unfoldable pub left : Store → List ℕ → List ℕ
left s p = left_in s (suc (free p)) p

-- the code's answer, with the partial that it leaves
abbrev pub ended : {A : Type 0} → Result A Clashed → List ℕ → Closing
ended (Ok u) q = closes q
ended (Err e) q = clash

-- a call that checks its partial is refused by a number, or closes
pub data Reply : Type 0 where
  refused : ℕ → Reply
  done : Closing → Reply

abbrev pub reply_of : Result (Result (Unit {0}) Clashed) Refusal → List ℕ → Reply
reply_of (Ok r) q = done (ended r q)
reply_of (Err e) q = refused (number_of e)

-- bytes that are no partial assignment are refused by 18, and left as they are
abbrev pub close_reply : Store → List ℕ → Reply
close_reply s p = cond (is_partial s.n p) (done (close s p)) (refused 18)

abbrev pub reply_left : Store → List ℕ → List ℕ
reply_left s p = cond (is_partial s.n p) (left s p) p
