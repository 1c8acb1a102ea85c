-- The store that a list of rules of one kind is.
use Rattle.std.specs.Prelude.{ℕ, zero, suc, ◌-◌, cond, List, [], ◌∷◌, length, ℤ, neg_ℤ, slice_index, slice_index_or}
use Rattle.rules.specs.Literals.{place}
use Rattle.rules.specs.Rules.{Rule, clause, odd, holds, true_count, is_odd}
use Rattle.stores.specs.declared.look.Look.{Look}
use Rattle.stores.specs.declared.look.Look.TheVariants.{Settled, Broken, Forces, Open}
use Rattle.stores.specs.Stores.{Store}
use Rattle.rules.specs.declared.kind.Kind.{Kind}
use Rattle.rules.specs.declared.kind.Kind.TheVariants.{Clause, Odd}

-- the rule that literals make
abbrev pub rule_of : Kind → List ℤ → Rule
rule_of Clause ls = clause ls
rule_of Odd ls = odd ls

-- the literals whose variables are free: those with the byte 0
abbrev pub if_free : ℕ → ℤ → List ℤ → List ℤ
if_free zero l fs = l ∷ fs
if_free (suc b) l fs = fs

abbrev pub free_of : List ℕ → List ℤ → List ℤ
free_of p [] = []
free_of p (l ∷ ls) = if_free (slice_index p (place l)) l (free_of p ls)

-- The answer, by how many of the literals are true and by those that are free. A clause is settled by a true
-- literal; with none it is broken, forces or is open as 0, 1 or more are free. An odd rule with a free literal
-- forces the side that makes the count of true ones odd.
abbrev pub look_by : Kind → ℕ → List ℤ → Look
look_by Clause (suc t) fs = Settled
look_by Clause zero [] = Broken
look_by Clause zero (l ∷ []) = Forces l
look_by Clause zero (l ∷ k ∷ fs) = Open (length (l ∷ k ∷ fs))
look_by Odd t [] = cond (is_odd t) Settled Broken
look_by Odd t (l ∷ []) = Forces (cond (is_odd t) (neg_ℤ l) l)
look_by Odd t (l ∷ k ∷ fs) = Open (length (l ∷ k ∷ fs))

abbrev pub look_at : Kind → List ℕ → List ℤ → Look
look_at kind p ls = look_by kind (true_count p ls) (free_of p ls)

-- the rule r of a list, numbered from 1
abbrev pub nth_rule : List (List ℤ) → ℕ → List ℤ
nth_rule rs r = slice_index_or rs (r - 1) []

abbrev pub listed : Kind → ℕ → List (List ℤ) → Store
listed kind n rs =
    record {
      n = n;
      m = length rs;
      satisfied = λ r a. holds a (rule_of kind (nth_rule rs r));
      look = λ r p. look_at kind p (nth_rule rs r);
    }
