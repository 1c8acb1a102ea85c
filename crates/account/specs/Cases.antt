-- Worked runs, each by computing: small stores, an outlet that takes everything.
use Rattle.std.specs.Prelude.{◌≡◌, ◌*◌, true, false, List, [], ◌∷◌, pos, negsuc}
use Rattle.std.proofs.Math.Option.{some}
use Rattle.std.specs.Float.{binary64}
use Rattle.std.specs.Float.Ieee.{round}
use Rattle.stores.specs.Stores.{Store}
use Rattle.rules.specs.declared.kind.Kind.TheVariants.{Clause, Odd}
use Rattle.meaning.specs.Listed.{listed}
use Rattle.cutoff.specs.declared.kinds.Cutoff.{Cutoff}
use Rattle.cutoff.specs.declared.kinds.Cutoff.TheVariants.{Never, Depth, Share}
use Rattle.cutoff.specs.Cutoffs.{cuts_at}
use Rattle.outlet.specs.Entries.{cube, learnt}
use Rattle.book.specs.declared.held.Word.TheVariants.{Closed}
use Rattle.account.specs.Account.{Fitting, Call, step, lend, settle, offer, verdict, a_model, undecided, none_is, Answer, decides, refutes, cubes, models, lends, settles, keeps, says, refused, Account, first}
use Rattle.account.specs.Calls.{run, answers}

-- an outlet that takes every entry
abbrev pub roomy : Fitting
roomy es e = true

-- a step with the store itself and just enough scratch
abbrev pub go : Store → Call
go s = step s.n s.m (2 * s.n)

-- what the calls answer, and what they leave
abbrev pub told : Store → Cutoff → (Store → List Call) → List Answer
told s c calls = answers s roomy (first s.n c) (calls s)

abbrev pub after : Store → Cutoff → (Store → List Call) → Account
after s c calls = run s roomy (first s.n c) (calls s)

-- a step alone, and three of them
abbrev pub one : Store → List Call
one s = go s ∷ []

abbrev pub three : Store → List Call
three s = go s ∷ go s ∷ go s ∷ []

-- the four clauses over the variables 1 and 2
abbrev pub all_four : Store
all_four = listed Clause 2 ((pos 1 ∷ pos 2 ∷ []) ∷ (pos 1 ∷ negsuc 1 ∷ []) ∷ (negsuc 0 ∷ pos 2 ∷ []) ∷ (negsuc 0 ∷ negsuc 1 ∷ []) ∷ [])

-- an odd number of the variables 1, 2 and 3
abbrev pub odd_three : Store
odd_three = listed Odd 3 ((pos 1 ∷ pos 2 ∷ pos 3 ∷ []) ∷ [])

-- and of the variables 1 to 4
abbrev pub odd_four : Store
odd_four = listed Odd 4 ((pos 1 ∷ pos 2 ∷ pos 3 ∷ pos 4 ∷ []) ∷ [])

-- (1), (2 3 4), (3 4) and (-3 -4): the root forces 1 and decides 2, and 3 and 4 stay open
abbrev pub one_forced : Store
one_forced =
    listed Clause 4 ((pos 1 ∷ []) ∷ (pos 2 ∷ pos 3 ∷ pos 4 ∷ []) ∷ (pos 3 ∷ pos 4 ∷ []) ∷ (negsuc 2 ∷ negsuc 3 ∷ []) ∷ [])

-- the same with one variable more before them: the root forces 1 and 2 and decides 3
abbrev pub two_forced : Store
two_forced =
    listed Clause 5
    ((pos 1 ∷ []) ∷ (pos 2 ∷ []) ∷ (pos 3 ∷ pos 4 ∷ pos 5 ∷ []) ∷ (pos 4 ∷ pos 5 ∷ []) ∷ (negsuc 3 ∷ negsuc 4 ∷ []) ∷ [])

-- cut where decisions times set variables is more than half of the variables
abbrev pub half : Cutoff
half = Share (round binary64 false 1 2)

pub record RunsHold : Type 0 where
  -- without variables and rules the first step finds the empty model
  pub nothing_asked : told (listed Clause 0 []) Never one ≡ models ∷ []
  pub nothing_kept : (after (listed Clause 0 []) Never one).kept ≡ some []
  -- an empty clause is refuted by one step, and the verdict is none: one branch refuted, one step
  pub empty_clause :
      told (listed Clause 0 ([] ∷ [])) Never (λ s. go s ∷ verdict ∷ []) ≡ refutes ∷ says none_is (0 ∷ 0 ∷ 0 ∷ 0 ∷ 1 ∷ 1 ∷ []) ∷ []
  -- all four clauses over two variables are refuted by one step: the empty clause is learnt, and the verdict is none
  pub four_refuted : told all_four Never (λ s. go s ∷ verdict ∷ []) ≡ refutes ∷ says none_is (0 ∷ 0 ∷ 0 ∷ 0 ∷ 1 ∷ 1 ∷ []) ∷ []
  pub four_learnt : (after all_four Never one).entries ≡ learnt [] ∷ []
  -- (1 2) and (1 -2): both sides of 2 force 1, and one step finds 1 true and 2 false
  pub both_force : (after (listed Clause 2 ((pos 1 ∷ pos 2 ∷ []) ∷ (pos 1 ∷ negsuc 1 ∷ []) ∷ [])) Never one).kept ≡ some (1 ∷ 2 ∷ [])
  -- (-1 3) and (1 3): both sides of 1 set 3, which settles all rules; what is free is false in the model
  pub common_set : (after (listed Clause 3 ((negsuc 0 ∷ pos 3 ∷ []) ∷ (pos 1 ∷ pos 3 ∷ []) ∷ [])) Never one).kept ≡ some (2 ∷ 2 ∷ 1 ∷ [])
  -- an odd rule of three variables at depth 1: 1 is decided, and its two sides are the cubes 1 and 2
  pub odd_told : told odd_three (Depth 1) three ≡ decides (pos 1) ∷ cubes 1 ∷ cubes 2 ∷ []
  pub odd_written : (after odd_three (Depth 1) three).entries ≡ cube (pos 1 ∷ []) ∷ cube (negsuc 0 ∷ []) ∷ []
  -- at depth 0 the root is the only cube, without literals, and nothing is open
  pub root_written : (after odd_three (Depth 0) one).entries ≡ cube [] ∷ []
  pub root_open : told odd_three (Depth 0) (λ s. go s ∷ verdict ∷ []) ≡ cubes 1 ∷ says undecided (0 ∷ 1 ∷ 0 ∷ 0 ∷ 0 ∷ 1 ∷ []) ∷ []
  -- lent and closed on a false word, it makes the verdict none
  pub root_closed :
      told odd_three (Depth 0) (λ s. go s ∷ lend 1 ∷ settle 1 Closed ∷ verdict ∷ [])
      ≡ cubes 1 ∷ lends 1 ∷ settles Closed 1 ∷ says none_is (0 ∷ 0 ∷ 0 ∷ 1 ∷ 0 ∷ 1 ∷ []) ∷ []
  -- an offer of 1 true, 2 and 3 false after the run at depth 1 is kept, and a step then is refused with 25
  pub odd_offered :
      told odd_three (Depth 1) (λ s. go s ∷ go s ∷ go s ∷ offer s.n s.m (1 ∷ 2 ∷ 2 ∷ []) ∷ go s ∷ verdict ∷ [])
      ≡ decides (pos 1) ∷ cubes 1 ∷ cubes 2 ∷ keeps ∷ refused 25 0 ∷ says a_model (0 ∷ 2 ∷ 0 ∷ 0 ∷ 0 ∷ 3 ∷ []) ∷ []
  -- four variables, one decision, two set: the product 2 is not more than half of 4, so the branch is not cut
  pub half_goes_on : told one_forced half three ≡ decides (pos 2) ∷ decides (pos 3) ∷ models ∷ []
  -- five variables, one decision, three set: the product 3 is more than half of 5, so both sides are cut
  pub half_cut : told two_forced half three ≡ decides (pos 3) ∷ cubes 1 ∷ cubes 2 ∷ []
  pub half_written : (after two_forced half three).entries ≡ cube (pos 3 ∷ []) ∷ cube (negsuc 2 ∷ []) ∷ []
  -- four variables, two decisions, two set: the product 4 is more than half of 4, so each of the four branches is cut
  pub half_deeper :
      told odd_four half (λ s. go s ∷ go s ∷ go s ∷ go s ∷ go s ∷ go s ∷ go s ∷ verdict ∷ [])
      ≡ decides (pos 1) ∷ decides (pos 2) ∷ cubes 1 ∷ cubes 2 ∷ decides (pos 2) ∷ cubes 3 ∷ cubes 4 ∷ says undecided (0 ∷ 4 ∷ 0 ∷ 0 ∷ 0 ∷ 7 ∷ []) ∷ []
  -- of four variables with one decision, two set are not cut and three would be
  pub half_of_four : (cuts_at half 4 1 2 ≡ false) × (cuts_at half 4 1 3 ≡ true)
