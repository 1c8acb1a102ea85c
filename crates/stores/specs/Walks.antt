-- Walks over all rules of a store.
use Rattle.std.specs.Prelude.{ℕ, zero, suc, ◌+◌, Bool, true, false, cond, ◌&&◌, List, ◌==◌, nat_lt, Some, None, Option}
use Rattle.std.specs.Option.{option_or}
use Rattle.stores.specs.declared.look.Look.{Look}
use Rattle.stores.specs.declared.look.Look.TheVariants.{Settled, Broken, Forces, Open}
use Rattle.stores.specs.declared.look.Find.{Find}
use Rattle.stores.specs.declared.look.Find.TheVariants.{Clash, Force}
use Rattle.stores.specs.Stores.{Store}

-- what a look is to a walk that stops at a rule that is broken or forces; None where the walk goes on
abbrev pub find_of : Look → Option Find
find_of Settled = None
find_of Broken = Some Clash
find_of (Forces l) = Some (Force l)
find_of (Open k) = None

-- what the lowest of the k rules from r on says that is broken or forces; None where there is none
unfoldable pub found : Store → List ℕ → ℕ → ℕ → Option Find
found s p zero r = None
found s p (suc k) r = option_or (find_of (s.look r p)) (found s p k (suc r))

-- and the lowest of all rules
abbrev pub lowest_of : Store → List ℕ → Option Find
lowest_of s p = found s p s.m 1

abbrev pub is_settled : Look → Bool
is_settled Settled = true
is_settled Broken = false
is_settled (Forces l) = false
is_settled (Open k) = false

-- whether the k rules from r on are settled
unfoldable pub settled_from : Store → List ℕ → ℕ → ℕ → Bool
settled_from s p zero r = true
settled_from s p (suc k) r = is_settled (s.look r p) && settled_from s p k (suc r)

abbrev pub all_settled : Store → List ℕ → Bool
all_settled s p = settled_from s p s.m 1

-- the lowest of the k rules from r on that is not settled; None where there is none
unfoldable pub unsettled_from : Store → List ℕ → ℕ → ℕ → Option ℕ
unsettled_from s p zero r = None
unsettled_from s p (suc k) r = cond (is_settled (s.look r p)) (unsettled_from s p k (suc r)) (Some r)

abbrev pub first_unsettled : Store → List ℕ → Option ℕ
first_unsettled s p = unsettled_from s p s.m 1

-- the weight of a rule that is open with k
abbrev pub weight : ℕ → ℕ
weight k = cond (k == 2) 1000 (cond (k == 3) 200 (cond (k == 4) 50 (cond (k == 5) 10 (cond (k == 6) 3 1))))

-- what a rule gives to the gain of a side: its weight there, if it was open with more before
abbrev pub gain_of : Look → Look → ℕ
gain_of Settled there = 0
gain_of Broken there = 0
gain_of (Forces l) there = 0
gain_of (Open j) Settled = 0
gain_of (Open j) Broken = 0
gain_of (Open j) (Forces l) = 0
gain_of (Open j) (Open k) = cond (nat_lt k j) (weight k) 0

-- what the k rules from r on give to the gain of the side q after p
unfoldable pub gain_from : Store → List ℕ → List ℕ → ℕ → ℕ → ℕ
gain_from s p q zero r = 0
gain_from s p q (suc k) r = gain_of (s.look r p) (s.look r q) + gain_from s p q k (suc r)

abbrev pub gained : Store → List ℕ → List ℕ → ℕ
gained s p q = gain_from s p q s.m 1
