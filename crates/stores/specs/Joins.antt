-- Two stores joined: the second's rules are numbered after the first's.
use Rattle.std.specs.Prelude.{ℕ, ◌+◌, ◌-◌, Bool, cond, ◌&&◌, ◌==◌, nat_le}
use Rattle.std.proofs.Math.Option.{Option, none, some}
use Rattle.stores.specs.Stores.{Store}

-- two stores may be joined if they have the same variables and together not too many rules
abbrev pub joinable : Store → Store → Bool
joinable s t = s.n == t.n && nat_le (s.m + t.m) 16384

-- otherwise the join is refused with 19, which has no place
abbrev pub join_fault : Store → Store → Option (ℕ × ℕ)
join_fault s t = cond (joinable s t) none (some (19, 0))

-- The two as one store. It is a store in every case: where the two may not be joined, the second adds no rule.
abbrev pub joins : Store → Store → Store
joins s t =
    record {
      n = s.n;
      m = s.m + cond (joinable s t) t.m 0;
      satisfied = λ r a. cond (nat_le r s.m) (s.satisfied r a) (t.satisfied (r - s.m) a);
      look = λ r p. cond (nat_le r s.m) (s.look r p) (t.look (r - s.m) p);
    }
