-- Small worked examples, each by computing.
use Rattle.std.specs.Prelude.{◌≡◌, ℕ, true, false, List, [], ◌∷◌, map, ℤ, pos, neg_ℤ, Float}
use Rattle.std.specs.Float.{binary64}
use Rattle.std.specs.Float.Ieee.{round}
use Rattle.stores.specs.Stores.{Store}
use Rattle.rules.specs.declared.kind.Kind.TheVariants.{Clause, Odd}
use Rattle.meaning.specs.Listed.{listed}
use Rattle.cutoff.specs.declared.kinds.Cutoff.{Cutoff}
use Rattle.cutoff.specs.declared.kinds.Cutoff.TheVariants.{Never, Depth, Share, Easing}
use Rattle.cutoff.specs.Cutoffs.{cuts_at, bits_of}
use Rattle.lookahead.specs.Trials.{by_gains, Pass, dead, alive, lookahead}
use Rattle.lookahead.specs.Nodes.{Node, refuted, model, cube, decided, node}

-- the negation of the variable v
abbrev pub minus : ℕ → ℤ
minus v = neg_ℤ (pos v)

-- what becomes of a branch, and the cutoff after it, with the ranking by gains
abbrev pub becomes : Store → Cutoff → ℕ → List ℕ → Node
becomes s c d p = (node s (by_gains s) c d p).result

abbrev pub then_cutoff : Store → Cutoff → ℕ → List ℕ → Cutoff
then_cutoff s c d p = (node s (by_gains s) c d p).cutoff

-- the scores of a pass, and the literals that would be decided, in rising order of their variables
abbrev pub scores : Pass → List ℕ
scores dead = []
scores (alive p xs) = map (λ x. x.score) xs

abbrev pub firsts : Pass → List ℤ
firsts dead = []
firsts (alive p xs) = map (λ x. x.literal) xs

abbrev pub scores_of : Store → List ℕ → List ℕ
scores_of s p = scores (lookahead s (by_gains s) p)

abbrev pub firsts_of : Store → List ℕ → List ℤ
firsts_of s p = firsts (lookahead s (by_gains s) p)

-- the four clauses over two variables
abbrev pub four : Store
four = listed Clause 2 ((pos 1 ∷ pos 2 ∷ []) ∷ (pos 1 ∷ minus 2 ∷ []) ∷ (minus 1 ∷ pos 2 ∷ []) ∷ (minus 1 ∷ minus 2 ∷ []) ∷ [])

-- one odd rule over all three variables
abbrev pub odd3 : Store
odd3 = listed Odd 3 ((pos 1 ∷ pos 2 ∷ pos 3 ∷ []) ∷ [])

-- one odd rule over three of four variables: variable 1 is in no rule
abbrev pub odd_later : Store
odd_later = listed Odd 4 ((pos 2 ∷ pos 3 ∷ pos 4 ∷ []) ∷ [])

-- one clause over three variables, the first negated
abbrev pub one_clause : Store
one_clause = listed Clause 3 ((minus 1 ∷ pos 2 ∷ pos 3 ∷ []) ∷ [])

-- 1 sets 2, and 3 or 4 is open
abbrev pub sets_two : Store
sets_two = listed Clause 4 ((minus 1 ∷ pos 2 ∷ []) ∷ (pos 3 ∷ pos 4 ∷ []) ∷ [])

-- 1 sets 2 and 3
abbrev pub all_but_one : Store
all_but_one = listed Clause 4 ((minus 1 ∷ pos 2 ∷ []) ∷ (minus 1 ∷ pos 3 ∷ []) ∷ [])

-- 1 sets 2 and 3, −1 sets −2, and 4 or 5 is open
abbrev pub sets_three : Store
sets_three = listed Clause 5 ((minus 1 ∷ pos 2 ∷ []) ∷ (minus 1 ∷ pos 3 ∷ []) ∷ (pos 1 ∷ minus 2 ∷ []) ∷ (pos 4 ∷ pos 5 ∷ []) ∷ [])

-- 0.5 and 2.5
abbrev pub half : Float
half = round binary64 false 1 2

abbrev pub two_and_half : Float
two_and_half = round binary64 false 5 2

pub record CasesHold : Type 0 where
  -- no variables and no rules: the empty model
  pub no_rules : becomes (listed Clause 0 []) Never 0 [] ≡ model []
  -- the empty clause is broken from the start
  pub empty_clause : becomes (listed Clause 0 ([] ∷ [])) Never 0 [] ≡ refuted
  -- nothing is forced, but both sides of 1 clash
  pub both_fail : becomes four Never 0 (0 ∷ 0 ∷ []) ≡ refuted
  -- (1 2)(1 −2): −1 fails, so 1 is kept; then 2 is free and set false
  pub one_fails :
      becomes (listed Clause 2 ((pos 1 ∷ pos 2 ∷ []) ∷ (pos 1 ∷ minus 2 ∷ []) ∷ [])) Never 0 (0 ∷ 0 ∷ []) ≡ model (1 ∷ 2 ∷ [])
  -- (−1 3)(1 3): both sides of 1 set 3, so 3 is necessary; then 1 and 2 are free and set false
  pub necessary :
      becomes (listed Clause 3 ((minus 1 ∷ pos 3 ∷ []) ∷ (pos 1 ∷ pos 3 ∷ []) ∷ [])) Never 0 (0 ∷ 0 ∷ 0 ∷ []) ≡ model (2 ∷ 2 ∷ 1 ∷ [])
  -- odd 1 2 3: each side of each variable leaves the rule open with 2, a gain of 1,000
  pub odd_scores : scores_of odd3 (0 ∷ 0 ∷ 0 ∷ []) ≡ 1024002000 ∷ 1024002000 ∷ 1024002000 ∷ []
  -- at cutoff depth 1 the root decides the lowest variable, its true side first
  pub odd_root : becomes odd3 (Depth 1) 0 (0 ∷ 0 ∷ 0 ∷ []) ≡ decided (pos 1) (0 ∷ 0 ∷ 0 ∷ [])
  -- and both sides are cubes
  pub odd_true_side : becomes odd3 (Depth 1) 1 (1 ∷ 0 ∷ 0 ∷ []) ≡ cube
  pub odd_false_side : becomes odd3 (Depth 1) 1 (2 ∷ 0 ∷ 0 ∷ []) ≡ cube
  -- at depth 0 the root is a cube
  pub odd_at_once : becomes odd3 (Depth 0) 0 (0 ∷ 0 ∷ 0 ∷ []) ≡ cube
  -- the greatest score wins, and of 2, 3 and 4 with equal scores the lowest
  pub later_scores : scores_of odd_later (0 ∷ 0 ∷ 0 ∷ 0 ∷ []) ≡ 0 ∷ 1024002000 ∷ 1024002000 ∷ 1024002000 ∷ []
  pub lowest_wins : becomes odd_later Never 0 (0 ∷ 0 ∷ 0 ∷ 0 ∷ []) ≡ decided (pos 2) (0 ∷ 0 ∷ 0 ∷ 0 ∷ [])
  -- (−1 2 3): 1 leaves the clause open with 2, −1 settles it and gains less, so −1 comes first; with 2 and 3 the true side does
  pub clause_scores : scores_of one_clause (0 ∷ 0 ∷ 0 ∷ []) ≡ 1000 ∷ 1000 ∷ 1000 ∷ []
  pub clause_firsts : firsts_of one_clause (0 ∷ 0 ∷ 0 ∷ []) ≡ minus 1 ∷ pos 2 ∷ pos 3 ∷ []
  pub false_first : becomes one_clause Never 0 (0 ∷ 0 ∷ 0 ∷ []) ≡ decided (minus 1) (0 ∷ 0 ∷ 0 ∷ [])
  -- share 0.5 of 4 variables, one decision: 2 set are not more than 2, and 3 are
  pub share_two : cuts_at (Share half) 4 1 2 ≡ false
  pub share_three : cuts_at (Share half) 4 1 3 ≡ true
  -- whole nodes over 4 variables with 2 set: one decision makes no cube, two do
  pub two_set : becomes sets_two (Share half) 1 (1 ∷ 0 ∷ 0 ∷ 0 ∷ []) ≡ decided (pos 3) (1 ∷ 1 ∷ 0 ∷ 0 ∷ [])
  pub two_set_deeper : becomes sets_two (Share half) 2 (1 ∷ 0 ∷ 0 ∷ 0 ∷ []) ≡ cube
  -- with 3 of 4 set no rule can be open, so every one is settled, and that comes before the cutoff: a model
  pub three_set : becomes all_but_one (Share half) 1 (1 ∷ 0 ∷ 0 ∷ 0 ∷ []) ≡ model (1 ∷ 1 ∷ 1 ∷ 2 ∷ [])
  -- whole nodes over 5 variables with one decision: with 2 set, not more than 2.5, no cube; with 3 set a cube
  pub two_of_five : becomes sets_three (Share half) 1 (2 ∷ 0 ∷ 0 ∷ 0 ∷ 0 ∷ []) ≡ decided (pos 3) (2 ∷ 2 ∷ 0 ∷ 0 ∷ 0 ∷ [])
  pub three_of_five : becomes sets_three (Share half) 1 (1 ∷ 0 ∷ 0 ∷ 0 ∷ 0 ∷ []) ≡ cube
  -- an easing threshold rises at each node, here from 2.5 to 2.625; where the branch is refuted or has more than 20
  -- decisions it falls again, to 1.8375: each as the bits of the nearest double
  pub only_rises : bits_of (then_cutoff odd3 (Easing two_and_half) 20 (0 ∷ 0 ∷ 0 ∷ [])) ≡ 0x4005000000000000
  pub falls_deep : bits_of (then_cutoff odd3 (Easing two_and_half) 21 (0 ∷ 0 ∷ 0 ∷ [])) ≡ 0x3ffd666666666666
  pub falls_refuted : bits_of (then_cutoff four (Easing two_and_half) 0 (0 ∷ 0 ∷ [])) ≡ 0x3ffd666666666666
