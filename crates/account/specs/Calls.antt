-- What each call answers, and what it makes of the account.
use Rattle.std.specs.Prelude.{ℕ, zero, suc, ◌+◌, ◌-◌, ◌*◌, ◌^◌, min, Bool, true, false, ◌&&◌, ◌||◌, List, [], ◌∷◌, ◌++◌, map, length, ℤ, neg_ℤ, Some, None, Option as Maybe, ◌==◌, nat_le, nat_lt}
use Rattle.std.proofs.Math.Option.{Option, none, some}
use Rattle.rules.specs.Literals.{put}
use Rattle.stores.specs.Stores.{Store}
use Rattle.cutoff.specs.declared.kinds.Cutoff.{Cutoff}
use Rattle.outlet.specs.Entries.{Entry, cube, learnt}
use Rattle.book.specs.declared.held.Mark.{Mark}
use Rattle.book.specs.declared.held.Mark.TheVariants.{Waiting, Out, Closed}
use Rattle.book.specs.declared.held.Word.{Word}
use Rattle.book.specs.declared.held.Event.TheVariants.{Lend}
use Rattle.book.specs.Marks.{asked, changed, event_of, tally_of}
use Rattle.lookahead.specs.Trials.{by_gains}
use Rattle.lookahead.specs.Nodes.{Node, refuted, model, decided, node, Worked}
use Rattle.lookahead.specs.Nodes as nodes
use Rattle.account.specs.Account.{Branch, Account, Fitting, Call, step, cut, lend, settle, offer, verdict, Opinion, a_model, undecided, none_is, Answer, decides, refutes, cubes, models, cuts, lends, settles, keeps, says, refused, Turn}

-- ---- refusals
-- a refused call changes nothing; the number has a place or a value, 0 where there is none
abbrev pub refuse_at : Account → ℕ → ℕ → Turn
refuse_at t k place = record { answer = refused k place; account = t }

abbrev pub refuse : Account → ℕ → Turn
refuse t k = refuse_at t k 0

-- 19 unless the store that is given has counts within the limits and the start's number of variables
abbrev pub fits_start : ℕ → ℕ → ℕ → Bool
fits_start own n m = nat_le n 2048 && (nat_le m 16384 && n == own)

abbrev pub given : Account → Turn → Bool → Turn
given t u true = u
given t u false = refuse t 19

-- 25 where a model is kept
abbrev pub unless_kept : Account → Turn → Option (List ℕ) → Turn
unless_kept t u none = u
unless_kept t u (some a) = refuse t 25

-- ---- step and cut
-- the decisions of a branch with a literal more, which is set in the partial p
abbrev pub with_literal : Branch → List ℕ → ℤ → Branch
with_literal b p l = record { decisions = b.decisions ++ (l ∷ []); partial = put p l }

-- the learnt clause of a refuted branch: the negated decisions, oldest first
abbrev pub clause_of : Branch → Entry
clause_of b = learnt (map neg_ℤ b.decisions)

abbrev pub cube_of : Branch → Entry
cube_of b = cube b.decisions

-- The current branch b is refuted: it is taken off and its clause is written, if that fits (24).
abbrev pub refuting : Account → Branch → List Branch → Cutoff → Bool → Turn
refuting t b rest c false = refuse t 24
refuting t b rest c true =
    record {
      answer = refutes;
      account = record { cutoff = c; pile = rest; entries = t.entries ++ (clause_of b ∷ []); states = t.states; kept = t.kept; steps = t.steps + 1 };
    }

-- The current branch b is written as the next cube, which waits, unless 4,096 were written (23) or it does not fit
-- (24); then k steps have been accepted.
abbrev pub cubing : (ℕ → Answer) → Account → Branch → List Branch → Cutoff → ℕ → Bool → Bool → Turn
cubing w t b rest c k true fit = refuse t 23
cubing w t b rest c k false false = refuse t 24
cubing w t b rest c k false true =
    record {
      answer = w (length t.states + 1);
      account = record { cutoff = c; pile = rest; entries = t.entries ++ (cube_of b ∷ []); states = t.states ++ (Waiting ∷ []); kept = t.kept; steps = k };
    }

abbrev pub is_full : Account → Bool
is_full t = nat_le 4096 (length t.states)

-- A model is kept, and its branch stays open.
abbrev pub keeping : Answer → Account → Cutoff → ℕ → List ℕ → Turn
keeping w t c k a =
    record { answer = w; account = record { cutoff = c; pile = t.pile; entries = t.entries; states = t.states; kept = some a; steps = k } }

-- The current branch b is replaced by its two sides, the decided literal's first.
abbrev pub deciding : Account → Branch → List Branch → Cutoff → ℤ → List ℕ → Turn
deciding t b rest c l p =
    record {
      answer = decides l;
      account =
          record {
            cutoff = c;
            pile = with_literal b p l ∷ with_literal b p (neg_ℤ l) ∷ rest;
            entries = t.entries;
            states = t.states;
            kept = t.kept;
            steps = t.steps + 1;
          };
    }

-- what a node makes of the account
abbrev pub stepped : Fitting → Account → Branch → List Branch → Cutoff → Node → Turn
stepped fit t b rest c refuted = refuting t b rest c (fit t.entries (clause_of b))
stepped fit t b rest c (model a) = keeping models t c (t.steps + 1) a
stepped fit t b rest c nodes.cube = cubing cubes t b rest c (t.steps + 1) (is_full t) (fit t.entries (cube_of b))
stepped fit t b rest c (decided l p) = deciding t b rest c l p

-- the node of the current branch
abbrev pub node_at : Store → Account → Branch → Worked
node_at s t b = node s (by_gains s) t.cutoff (length b.decisions) b.partial

-- 30 where nothing is open, then 22 where there is too little scratch
abbrev pub step_on : Store → Fitting → Account → Bool → List Branch → Turn
step_on s fit t short [] = refuse t 30
step_on s fit t true (b ∷ rest) = refuse t 22
step_on s fit t false (b ∷ rest) = stepped fit t b rest (node_at s t b).cutoff (node_at s t b).result

-- a cut leaves the cutoff and the number of steps
abbrev pub cut_on : Fitting → Account → List Branch → Turn
cut_on fit t [] = refuse t 30
cut_on fit t (b ∷ rest) = cubing cuts t b rest t.cutoff t.steps (is_full t) (fit t.entries (cube_of b))

-- ---- lend and settle, as the book does them
abbrev pub marked : Answer → Account → ℕ → Maybe Mark → Turn
marked w t k m =
    record { answer = w; account = record { cutoff = t.cutoff; pile = t.pile; entries = t.entries; states = changed t.states k m; kept = t.kept; steps = t.steps } }

-- 26 where no such cube waits
abbrev pub lend_by : Account → ℕ → Maybe Mark → Turn
lend_by t k None = refuse t 26
lend_by t k (Some m) = marked (lends k) t k (Some m)

-- 27 with the cube's number where it is not out
abbrev pub settle_by : Account → ℕ → Word → Maybe Mark → Turn
settle_by t k w None = refuse_at t 27 k
settle_by t k w (Some m) = marked (settles w k) t k (Some m)

-- ---- offer
abbrev pub is_side : ℕ → Bool
is_side b = b == 1 || b == 2

abbrev pub all_sides : List ℕ → Bool
all_sides [] = true
all_sides (b ∷ a) = is_side b && all_sides a

-- the lowest of the k rules from r on that the assignment does not satisfy, or 0
abbrev pub broken_by : (ℕ → ℕ) → ℕ → Bool → ℕ
broken_by later r true = later (suc r)
broken_by later r false = r

unfoldable pub first_broken : Store → List ℕ → ℕ → ℕ → ℕ
first_broken s a zero r = 0
first_broken s a (suc k) r = broken_by (first_broken s a k) r (s.satisfied r a)

-- 28 where the bytes are no full assignment, then 29 with the lowest rule that is broken
abbrev pub offer_by : Account → List ℕ → Bool → ℕ → Turn
offer_by t a false r = refuse t 28
offer_by t a true (suc r) = refuse_at t 29 (suc r)
offer_by t a true zero = keeping keeps t t.cutoff t.steps a

-- ---- verdict
-- the literals of the cubes, and of the learnt clauses
abbrev pub cubes_of : List Entry → List (List ℤ)
cubes_of [] = []
cubes_of (cube d ∷ es) = d ∷ cubes_of es
cubes_of (learnt c ∷ es) = cubes_of es

abbrev pub clauses_of : List Entry → List (List ℤ)
clauses_of [] = []
clauses_of (cube d ∷ es) = clauses_of es
clauses_of (learnt c ∷ es) = c ∷ clauses_of es

-- A model if one is kept; otherwise none if nothing is open, waiting or out.
abbrev pub opinion_by : Option (List ℕ) → ℕ → Opinion
opinion_by (some a) left = a_model
opinion_by none zero = none_is
opinion_by none (suc k) = undecided

abbrev pub opinion : Account → Opinion
opinion t = opinion_by t.kept (length t.pile + tally_of Waiting t.states + tally_of Out t.states)

-- counts stop at the greatest number of 64 bits
abbrev pub stop : ℕ → ℕ
stop k = min k (2 ^ 64 - 1)

-- the open branches, the cubes waiting, out and closed, the refuted branches, the accepted steps
abbrev pub counts : Account → List ℕ
counts t =
    map stop
    (length t.pile ∷ tally_of Waiting t.states ∷ tally_of Out t.states ∷ tally_of Closed t.states ∷ length (clauses_of t.entries) ∷ t.steps ∷ [])

-- ---- the calls
unfoldable pub turn : Store → Fitting → Account → Call → Turn
turn s fit t (step n m room) = given t (unless_kept t (step_on s fit t (nat_lt room (2 * s.n)) t.pile) t.kept) (fits_start s.n n m)
turn s fit t cut = unless_kept t (cut_on fit t t.pile) t.kept
turn s fit t (lend k) = unless_kept t (lend_by t k (asked t.states k Lend)) t.kept
turn s fit t (settle k w) = settle_by t k w (asked t.states k (event_of w))
turn s fit t (offer n m a) =
    given t (unless_kept t (offer_by t a (length a == s.n && all_sides a) (first_broken s a s.m 1)) t.kept) (fits_start s.n n m)
turn s fit t verdict = record { answer = says (opinion t) (counts t); account = t }

-- the account after a list of calls, and their answers
unfoldable pub run : Store → Fitting → Account → List Call → Account
run s fit t [] = t
run s fit t (c ∷ cs) = run s fit (turn s fit t c).account cs

unfoldable pub answers : Store → Fitting → Account → List Call → List Answer
answers s fit t [] = []
answers s fit t (c ∷ cs) = (turn s fit t c).answer ∷ answers s fit (turn s fit t c).account cs
