-- A gain is small.
use Rattle.std.proofs.Common.{ℕ, ◌*◌, ◌≤◌, List}
use Rattle.stores.specs.Stores.{Store}
use Rattle.stores.specs.Walks.{gained}
use Rattle.stores.proofs.Walks.{gain_few}

-- no rule weighs more than 1,000
pub gained_low : (s : Store) (p q : List ℕ) → gained s p q ≤ 1000 * s.m
gained_low s p q = gain_few s p q
