-- Trying a variable both ways, and the pass that tries every free one.
use Rattle.std.specs.Prelude.{ℕ, zero, suc, ◌+◌, ◌*◌, Bool, true, false, cond, List, [], ◌∷◌, ◌++◌, ℤ, pos, negsuc, ◌==◌, nat_lt, slice_index, slice_set}
use Rattle.stores.specs.Stores.{Store}
use Rattle.stores.specs.Walks.{gained}
use Rattle.closing.specs.Closing.{Closing, clash, closes, close}

-- How a variable is ranked: a score, and whether its true side is searched first.
pub record Rank : Type 0 where
  pub score : ℕ
  pub true_first : Bool

-- A ranking may take the partial and the variable's two closed sides, the true one first. Nothing else that is
-- said of lookahead depends on which ranking it is.
abbrev pub Ranking : Type 0
Ranking = List ℕ → List ℕ → List ℕ → Rank

-- The score of the gains t of the true side and f of the false side; the side with the smaller gain comes first, the true one at a tie.
abbrev pub rank_of : ℕ → ℕ → Rank
rank_of t f = record { score = 1024 * (t * f) + (t + f); true_first = cond (nat_lt f t) false true }

-- gains are at most 16,384 rules times 1,000, so that a score is below 2 ^ 58
abbrev pub most_gain : ℕ
most_gain = 16384000

-- the ranking by gains
abbrev pub by_gains : Store → Ranking
by_gains s p q r = rank_of (gained s p q) (gained s p r)

-- the literal of the variable at place i that is true on this side
abbrev pub literal_of : ℕ → Bool → ℤ
literal_of i true = pos (suc i)
literal_of i false = negsuc i

-- a scored variable, by the literal that would be decided
pub record Scored : Type 0 where
  pub literal : ℤ
  pub score : ℕ

abbrev pub scored : ℕ → Rank → Scored
scored i k = record { literal = literal_of i k.true_first; score = k.score }

-- P with each literal that is set on both sides: its bytes x of P, y and z of the sides
abbrev pub shared : ℕ → ℕ → ℕ → ℕ
shared x y z = cond (y == 0) x (cond (y == z) y x)

abbrev pub common : List ℕ → List ℕ → List ℕ → List ℕ
common [] q r = []
common (x ∷ p) [] r = x ∷ p
common (x ∷ p) (y ∷ q) [] = x ∷ p
common (x ∷ p) (y ∷ q) (z ∷ r) = shared x y z ∷ common p q r

-- a pass refutes the partial, or leaves one with the scores of the variables that were tried
pub data Pass : Type 0 where
  dead : Pass
  alive : List ℕ → List Scored → Pass

abbrev pub onward : (List ℕ → Pass) → Closing → Pass
onward go clash = dead
onward go (closes q) = go q

-- The variable at place i was tried both ways. Two clashes refute; after one P becomes the other side; with none the
-- variable gets its score, what both sides set is set in P, and P is closed. Then the pass goes on.
abbrev pub tried : Store → Ranking → (List ℕ → List Scored → Pass) → List ℕ → ℕ → List Scored → Closing → Closing → Pass
tried s rank go p i xs clash clash = dead
tried s rank go p i xs clash (closes r) = go r xs
tried s rank go p i xs (closes q) clash = go q xs
tried s rank go p i xs (closes q) (closes r) = onward (λ t. go t (xs ++ (scored i (rank p q r) ∷ []))) (close s (common p q r))

-- a variable is tried if its byte says that it is still free at its turn
abbrev pub turn_of : Store → Ranking → (List ℕ → List Scored → Pass) → List ℕ → ℕ → List Scored → ℕ → Pass
turn_of s rank go p i xs zero = tried s rank go p i xs (close s (slice_set p i 1)) (close s (slice_set p i 2))
turn_of s rank go p i xs (suc b) = go p xs

-- the k variables from place i on, in rising order
unfoldable pub pass : Store → Ranking → ℕ → ℕ → List ℕ → List Scored → Pass
pass s rank zero i p xs = alive p xs
pass s rank (suc k) i p xs = turn_of s rank (pass s rank k (suc i)) p i xs (slice_index p i)

-- P is closed, and then every variable has its turn
unfoldable pub lookahead : Store → Ranking → List ℕ → Pass
lookahead s rank p = onward (λ q. pass s rank s.n 0 q []) (close s p)
