-- The account keeps an invariant under every call, and the theorem follows from it.
use Rattle.std.proofs.Common.{◌≡◌, ℕ, zero, suc, ◌+◌, ◌*◌, ◌<◌, ◌≤◌, Bool, true, false, ◌&&◌, eqb, ltb, ◌≢◌, ◌↔◌, List, [], ◌∷◌, ◌++◌, map, length, ℤ, neg_ℤ, Some, None, Option as Maybe, sym, refl, ap, ◌∙◌, subst, ⊎_elim, arith}
use mathlib.Core.Option.{Option, none, some}
use lib.ListN.{length-map}
use Rattle.std.proofs.lemmas.Bool.{and_parts, eqb-true, cases_eq}
use Rattle.std.proofs.lemmas.List.{length_push, map_push}
use Rattle.rules.specs.Literals.{Each, Full, Partial, Extends, Literal, agrees, is_true}
use Rattle.rules.specs.Rules.{clause_true}
use Rattle.stores.specs.Stores.{Store, Keeps, Satisfies}
use Rattle.meaning.proofs.Keeps.{literal_neg}
use Rattle.closing.proofs.Partials.{put_partial, put_extends}
use Rattle.closing.proofs.Found.{Dead}
use Rattle.closing.proofs.Ends.{Leads}
use Rattle.cutoff.specs.declared.kinds.Cutoff.{Cutoff}
use Rattle.outlet.specs.Entries.{Entry, learnt}
use Rattle.book.specs.declared.held.Mark.{Mark}
use Rattle.book.specs.declared.held.Mark.TheVariants.{Waiting, Out, Closed}
use Rattle.book.specs.declared.held.Word.{Word}
use Rattle.book.specs.declared.held.Event.TheVariants.{Lend}
use Rattle.book.specs.Marks.{asked, event_of, tally_of}
use Rattle.lookahead.specs.Trials.{Ranking, by_gains}
use Rattle.lookahead.specs.Nodes.{Node, refuted, model, cube, decided, node}
use Rattle.lookahead.specs.Laws.{NodeSound, NodeRight}
use Rattle.lookahead.proofs.Right.{right}
use Rattle.account.specs.Account.{Branch, Account, Fitting, Call, step, cut, lend, settle, offer, verdict, undecided, none_is, Answer, cubes, cuts, lends, settles, Turn, first}
use Rattle.account.specs.Calls.{fits_start, given, unless_kept, with_literal, clause_of, cube_of, refuting, cubing, is_full, stepped, node_at, step_on, cut_on, marked, lend_by, settle_by, all_sides, broken_by, first_broken, offer_by, cubes_of, clauses_of, opinion_by, turn, run}
use Rattle.account.specs.Theorem.{open_branches, refuted_branches, cubes_now, count, NoneAgrees, KeptRight, Holds, TreeHolds}
use Rattle.account.proofs.Trails.{free_partial, free_extends}
use Rattle.account.proofs.Offers.{full_fits}
use Rattle.account.proofs.Counts.{agrees_push, split, neg_neg, negation_true, each_push, count_push, cubes_cube, cubes_learnt, clauses_cube, clauses_learnt, count_empty, count_none, length_changed, by_state, tally_is}

-- an open branch: every satisfying assignment that agrees with its decisions extends its partial
pub record Sound (s : Store) (b : Branch) : Type 0 where
  pub literals : Each (Literal s.n) b.decisions
  pub fit : Partial s.n b.partial
  pub follows : (a : List ℕ) → Satisfies s a → agrees a b.decisions ≡ true → Extends a b.partial

abbrev branches : List Entry → List (List ℤ)
branches es = map (map neg_ℤ) (clauses_of es)

abbrev opened : List Branch → List (List ℤ)
opened pile = map (λ (b : Branch). b.decisions) pile

abbrev Right : Store → List ℤ → Type 0
Right s c = (a : List ℕ) → Satisfies s a → clause_true a c ≡ true

-- the invariant, over the parts of the account that matter to it
pub record Good (s : Store) (pile : List Branch) (es : List Entry) (xs : List Mark) (kept : Option (List ℕ)) : Type 0 where
  pub one : (a : List ℕ) → Full s.n a → count a (branches es) + count a (opened pile) + count a (cubes_of es) ≡ 1
  pub sound : Each (Sound s) pile
  pub right : Each (Right s) (clauses_of es)
  pub none_left : Each (NoneAgrees s) (branches es)
  pub booked : length xs ≡ length (cubes_of es)
  pub model_right : KeptRight s kept

abbrev pub Fine : Store → Account → Type 0
Fine s t = Good s t.pile t.entries t.states t.kept

none_kept : (s : Store) → KeptRight s none
none_kept s a e = absurd (let z : ◌≡◌ {A = ℕ} 0 1 = cc e in omega arith)

some_kept : (s : Store) (a : List ℕ) → Satisfies s a → KeptRight s (some a)
some_kept s a sat b e = subst (Satisfies s) (let same : a ≡ b = cc e in same) sat

pub first_fine : (s : Store) (c : Cutoff) → Fine s (first s.n c)
first_fine s c =
    record {
      one = λ a full. refl;
      sound = (record { literals = tt; fit = free_partial s.n; follows = λ a sat e. free_extends a s.n }, tt);
      right = tt;
      none_left = tt;
      booked = refl;
      model_right = none_kept s;
    }

-- ---- what a node says of its branch
abbrev NodeMeansSo : Store → List ℕ → Node → Type 0
NodeMeansSo s p refuted = Dead s p
NodeMeansSo s p (model a) = Satisfies s a
NodeMeansSo s p cube = Unit {0}
NodeMeansSo s p (decided l q) = Literal s.n l × Partial s.n q × Leads s p q

node_means : (s : Store) (rank : Ranking) (c : Cutoff) (d : ℕ) (p : List ℕ) → NodeSound s rank c d p → (r : Node) → (node s rank c d p).result ≡ r → NodeMeansSo s p r
node_means s rank c d p h refuted e = h.refuted_none e
node_means s rank c d p h (model a) e = (h.model_holds a e).0
node_means s rank c d p h cube e = tt
node_means s rank c d p h (decided l q) e = ((h.decided_free l q e).0, (h.decided_fits l q e).0, h.decided_keeps l q e)

side_sound : (s : Store) (b : Branch) (p : List ℕ) (l : ℤ) → Sound s b → Literal s.n l → Partial s.n p → Leads s b.partial p → Sound s (with_literal b p l)
side_sound s b p l h k q lead =
    record {
      literals = each_push (Literal s.n) b.decisions l h.literals k;
      fit = put_partial s.n p l q;
      follows = λ a sat e.
          let parts = and_parts (agrees a b.decisions) (is_true a l) (sym (agrees_push a b.decisions l) ∙ e) in
          put_extends a p l parts.1 (lead a sat (h.follows a sat parts.0));
    }

no_agree : (s : Store) (b : Branch) → Sound s b → Dead s b.partial → NoneAgrees s b.decisions
no_agree s b h dead a sat = by (agrees a b.decisions) refl
  where
    by : (v : Bool) → agrees a b.decisions ≡ v → v ≡ false
    by false e = refl
    by true e = absurd (dead a sat (h.follows a sat e))

-- ---- each call keeps it
module _ (s : Store) (fit : Fitting) where
  refuting_fine : (t : Account) (b : Branch) (rest : List Branch) (c : Cutoff) → Good s (b ∷ rest) t.entries t.states t.kept → Fine s t → Dead s b.partial → (f : Bool) → Fine s (refuting t b rest c f).account
  refuting_fine t b rest c g fine dead false = fine
  refuting_fine t b rest c g fine dead true =
      let d = b.decisions in
      let es = t.entries in
      let e_clauses = clauses_learnt es (map neg_ℤ d) in
      let e_cubes = cubes_learnt es (map neg_ℤ d) in
      let e_branches : branches (es ++ (learnt (map neg_ℤ d) ∷ [])) ≡ branches es ++ (d ∷ []) =
      ap (map (map neg_ℤ)) e_clauses ∙ map_push (map neg_ℤ) (clauses_of es) (map neg_ℤ d) ∙ ap (λ u. branches es ++ (u ∷ [])) (neg_neg d) in
      let gone = no_agree s b g.sound.0 dead in
      record {
        one = λ a full.
            let h = g.one a full in
            let k = count_push a (branches es) d in
            rw (e_branches, e_cubes) (omega arith);
        sound = g.sound.1;
        right =
            subst (Each (Right s)) (sym e_clauses)
            (each_push (Right s) (clauses_of es) (map neg_ℤ d) g.right (λ a sat. negation_true s.n a sat.full d g.sound.0.literals (gone a sat)));
        none_left = subst (Each (NoneAgrees s)) (sym e_branches) (each_push (NoneAgrees s) (branches es) d g.none_left gone);
        booked = g.booked ∙ sym (ap length e_cubes);
        model_right = g.model_right;
      }

  cubing_fine : (w : ℕ → Answer) (t : Account) (b : Branch) (rest : List Branch) (c : Cutoff) (k : ℕ) → Good s (b ∷ rest) t.entries t.states t.kept → Fine s t → (u v : Bool) → Fine s (cubing w t b rest c k u v).account
  cubing_fine w t b rest c k g fine true v = fine
  cubing_fine w t b rest c k g fine false false = fine
  cubing_fine w t b rest c k g fine false true =
      let d = b.decisions in
      let es = t.entries in
      let e_clauses = clauses_cube es d in
      let e_cubes = cubes_cube es d in
      record {
        one = λ a full.
            let h = g.one a full in
            let j = count_push a (cubes_of es) d in
            rw (e_clauses, e_cubes) (omega arith);
        sound = g.sound.1;
        right = rw e_clauses g.right;
        none_left = rw e_clauses g.none_left;
        booked = length_push t.states Waiting ∙ ap (λ u. u + 1) g.booked ∙ sym (length_push (cubes_of es) d) ∙ sym (ap length e_cubes);
        model_right = g.model_right;
      }

  stepped_fine : (t : Account) (b : Branch) (rest : List Branch) (c : Cutoff) → Good s (b ∷ rest) t.entries t.states t.kept → Fine s t → (r : Node) → NodeMeansSo s b.partial r → Fine s (stepped fit t b rest c r).account
  stepped_fine t b rest c g fine refuted h = refuting_fine t b rest c g fine h (fit t.entries (clause_of b))
  stepped_fine t b rest c g fine cube h = cubing_fine cubes t b rest c (t.steps + 1) g fine (is_full t) (fit t.entries (cube_of b))
  stepped_fine t b rest c g fine (model a) h =
      record { one = fine.one; sound = fine.sound; right = fine.right; none_left = fine.none_left; booked = fine.booked; model_right = some_kept s a h }
  stepped_fine t b rest c g fine (decided l p) h =
      record {
        one = λ a full.
            let u = g.one a full in
            let v = split s.n a b.decisions l full h.0 in
            omega arith;
        sound = (
          side_sound s b p l g.sound.0 h.0 h.1 h.2,
          (side_sound s b p (neg_ℤ l) g.sound.0 (literal_neg s.n l h.0) h.1 h.2, g.sound.1),
        );
        right = g.right;
        none_left = g.none_left;
        booked = g.booked;
        model_right = g.model_right;
      }

  cut_fine : (t : Account) → Fine s t → (pile : List Branch) → Good s pile t.entries t.states t.kept → Fine s (cut_on fit t pile).account
  cut_fine t fine [] g = fine
  cut_fine t fine (b ∷ rest) g = cubing_fine cuts t b rest t.cutoff t.steps g fine (is_full t) (fit t.entries (cube_of b))

  marked_fine : (w : Answer) (t : Account) (k : ℕ) (m : Maybe Mark) → Fine s t → Fine s (marked w t k m).account
  marked_fine w t k m g =
      record { one = g.one; sound = g.sound; right = g.right; none_left = g.none_left; booked = length_changed t.states k m ∙ g.booked; model_right = g.model_right }

  lend_fine : (t : Account) (k : ℕ) → Fine s t → (m : Maybe Mark) → Fine s (lend_by t k m).account
  lend_fine t k g None = g
  lend_fine t k g (Some m) = marked_fine (lends k) t k (Some m) g

  settle_fine : (t : Account) (k : ℕ) (w : Word) → Fine s t → (m : Maybe Mark) → Fine s (settle_by t k w m).account
  settle_fine t k w g None = g
  settle_fine t k w g (Some m) = marked_fine (settles w k) t k (Some m) g

  -- ---- an offer
  broken_none : (f : ℕ → ℕ) (r : ℕ) (b : Bool) → 1 ≤ r → broken_by f r b ≡ 0 → (b ≡ true) × (f (suc r) ≡ 0)
  broken_none f r true h e = (refl, e)
  broken_none f r false h e = absurd (omega arith)

  broken_zero : (a : List ℕ) (k r : ℕ) → 1 ≤ r → first_broken s a k r ≡ 0 → (j : ℕ) → r ≤ j → j < r + k → s.satisfied j a ≡ true
  unfolding first_broken
  broken_zero a zero r low e j h i = absurd (omega arith)
  broken_zero a (suc k) r low e j h i =
      let parts = broken_none (first_broken s a k) r (s.satisfied r a) low e in
      ⊎_elim (λ u. subst (λ v. s.satisfied v a ≡ true) u parts.0) (λ u. broken_zero a k (suc r) (omega arith) parts.1 j (omega arith) (omega arith))
      (cases_eq r j)

  offer_right : (a : List ℕ) → (eqb (length a) s.n && all_sides a) ≡ true → first_broken s a s.m 1 ≡ 0 → Satisfies s a
  offer_right a e f =
      let parts = and_parts (eqb (length a) s.n) (all_sides a) e in
      record {
        full = full_fits s.n a parts.1 (eqb-true (length a) s.n parts.0);
        rules = λ r low high. broken_zero a s.m 1 (omega arith) f r low (omega arith);
      }

  offer_fine : (t : Account) (a : List ℕ) → Fine s t → (b : Bool) (r : ℕ) → (b ≡ true → r ≡ 0 → Satisfies s a) → Fine s (offer_by t a b r).account
  offer_fine t a g false r h = g
  offer_fine t a g true (suc r) h = g
  offer_fine t a g true zero h =
      record { one = g.one; sound = g.sound; right = g.right; none_left = g.none_left; booked = g.booked; model_right = some_kept s a (h refl refl) }

  -- ---- all calls
  kept_fine : (t : Account) (u : Turn) (k : Option (List ℕ)) → Fine s t → Fine s u.account → Fine s (unless_kept t u k).account
  kept_fine t u none g h = h
  kept_fine t u (some a) g h = g

  given_fine : (t : Account) (u : Turn) (b : Bool) → Fine s t → Fine s u.account → Fine s (given t u b).account
  given_fine t u true g h = h
  given_fine t u false g h = g

  module _ (law : NodeRight s) where
    step_fine : (t : Account) → Fine s t → (short : Bool) (pile : List Branch) → Good s pile t.entries t.states t.kept → Fine s (step_on s fit t short pile).account
    step_fine t fine short [] g = fine
    step_fine t fine true (b ∷ rest) g = fine
    step_fine t fine false (b ∷ rest) g =
        let d = length b.decisions in
        let w = node_at s t b in
        stepped_fine t b rest w.cutoff g fine w.result
        (node_means s (by_gains s) t.cutoff d b.partial (law.sound (by_gains s) t.cutoff d b.partial g.sound.0.fit) w.result refl)

    pub turn_fine : (t : Account) (c : Call) → Fine s t → Fine s (turn s fit t c).account
    unfolding turn
    turn_fine t (step n m room) g = given_fine t _ (fits_start s.n n m) g (kept_fine t _ t.kept g (step_fine t g (ltb room (2 * s.n)) t.pile g))
    turn_fine t cut g = kept_fine t _ t.kept g (cut_fine t g t.pile g)
    turn_fine t (lend k) g = kept_fine t _ t.kept g (lend_fine t k g (asked t.states k Lend))
    turn_fine t (settle k w) g = settle_fine t k w g (asked t.states k (event_of w))
    turn_fine t (offer n m a) g =
        given_fine t _ (fits_start s.n n m) g
        (kept_fine t _ t.kept g (offer_fine t a g (eqb (length a) s.n && all_sides a) (first_broken s a s.m 1) (offer_right a)))
    turn_fine t verdict g = g

    pub run_fine : (cs : List Call) (t : Account) → Fine s t → Fine s (run s fit t cs)
    unfolding run
    run_fine [] t g = g
    run_fine (c ∷ cs) t g = run_fine cs (turn s fit t c).account (turn_fine t c g)

-- ---- from the invariant to the theorem
verdict_by : (s : Store) (k : Option (List ℕ)) → KeptRight s k → (left : ℕ) → (left ≡ 0 → (a : List ℕ) → Satisfies s a → ⊥) → opinion_by k left ≢ undecided →
    (opinion_by k left ≡ none_is) ↔ ((a : List ℕ) → Satisfies s a → ⊥)
verdict_by s (some a) m left h u = (λ e. absurd (let z : ◌≡◌ {A = ℕ} 0 1 = cc e in omega arith), λ f. absurd (f a (m a refl)))
verdict_by s none m zero h u = (λ e. h refl, λ f. refl)
verdict_by s none m (suc k) h u = absurd (u refl)

module _ (s : Store) (t : Account) (g : Fine s t) where
  cover_one : (a : List ℕ) → Full s.n a →
      count a (refuted_branches t) + count a (open_branches t) + count a (cubes_now Waiting t) + count a (cubes_now Out t) + count a (cubes_now Closed t) ≡ 1
  cover_one a full =
      let h = g.one a full in
      let k = by_state a (cubes_of t.entries) t.states g.booked in
      omega arith

  -- where a state's tally is 0, no assignment agrees with a cube in it
  tally_zero : (y : Mark) (a : List ℕ) → tally_of y t.states ≡ 0 → count a (cubes_now y t) ≡ 0
  tally_zero y a e = count_empty a (cubes_now y t) (tally_is y (cubes_of t.entries) t.states g.booked ∙ e)

  nothing_left : Each (NoneAgrees s) (cubes_now Closed t) → length t.pile + tally_of Waiting t.states + tally_of Out t.states ≡ 0 → (a : List ℕ) → Satisfies s a → ⊥
  nothing_left h e a sat =
      let k = cover_one a sat.full in
      let k1 = count_none s a sat (refuted_branches t) g.none_left in
      let k2 = count_empty a (open_branches t) (length-map t.pile (λ (b : Branch). b.decisions) ∙ (omega arith)) in
      let k3 = tally_zero Waiting a (omega arith) in
      let k4 = tally_zero Out a (omega arith) in
      let k5 = count_none s a sat (cubes_now Closed t) h in
      omega arith

  pub fine_holds : Holds s t
  fine_holds =
      record {
        cover = cover_one;
        learnt_true = g.right;
        refuted_none = g.none_left;
        kept_right = g.model_right;
        verdict_right = λ h u.
            verdict_by s t.kept g.model_right (length t.pile + tally_of Waiting t.states + tally_of Out t.states) (nothing_left h) u;
      }

-- the theorem; of the lookahead it takes only the laws of a node
pub tree : (s : Store) → Keeps s → TreeHolds s
tree s keep fit c cs = fine_holds s (run s fit (first s.n c) cs) (run_fine s fit (right s keep) cs (first s.n c) (first_fine s c))
