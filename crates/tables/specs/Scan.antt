-- One rule of a table, from its first literal on.
use Rattle.std.specs.Prelude.{ℕ, zero, suc, Bool, false, cond, ◌||◌, List, [], ◌∷◌, ℤ, pos, neg_ℤ}
use Rattle.rules.specs.Rules.{is_odd}
use Rattle.stores.specs.declared.look.Look.{Look}
use Rattle.stores.specs.declared.look.Look.TheVariants.{Settled, Broken, Forces, Open}
use Rattle.rules.specs.declared.kind.Kind.{Kind}
use Rattle.rules.specs.declared.kind.Kind.TheVariants.{Clause, Odd}
use Rattle.meaning.specs.Tables.{is_end}

-- the literals up to the first 0, and whether there is one
abbrev pub front : List ℤ → List ℤ
front [] = []
front (z ∷ zs) = cond (is_end z) [] (z ∷ front zs)

abbrev pub has_end : List ℤ → Bool
has_end [] = false
has_end (z ∷ zs) = is_end z || has_end zs

-- what stands after the first 0
abbrev pub after : List ℤ → List ℤ
after [] = []
after (z ∷ zs) = cond (is_end z) zs (after zs)

-- a count of free literals and the last of them, with one more literal whose variable has the byte b
abbrev pub free_by : ℕ → ℕ → ℕ
free_by zero f = suc f
free_by (suc b) f = f

abbrev pub last_by : ℕ → ℤ → ℤ → ℤ
last_by zero z l = z
last_by (suc b) z l = l

-- the last of some literals, 0 where there is none
abbrev pub last_from : ℤ → List ℤ → ℤ
last_from l [] = l
last_from l (k ∷ ks) = last_from k ks

abbrev pub last_of : List ℤ → ℤ
last_of ls = last_from (pos 0) ls

-- the answer by the number of true literals, the number of free ones and the last of these
abbrev pub answer_by : Kind → ℕ → ℕ → ℤ → Look
answer_by Clause (suc t) f l = Settled
answer_by Clause zero zero l = Broken
answer_by Clause zero (suc zero) l = Forces l
answer_by Clause zero (suc (suc f)) l = Open (suc (suc f))
answer_by Odd t zero l = cond (is_odd t) Settled Broken
answer_by Odd t (suc zero) l = Forces (cond (is_odd t) (neg_ℤ l) l)
answer_by Odd t (suc (suc f)) l = Open (suc (suc f))
