use Rattle.std.proofs.Common.{◌≡◌, ℕ, ◌+◌, ◌-◌, ◌<◌, ◌≤◌, List, map, length, take, set, Ok, Err, Result, sym, refl, ap, ◌∙◌, subst, arith}
use Rattle.std.specs.Prelude.{IsErr}
use Rattle.std.proofs.lemmas.Bool.{true≢false}
use Rattle.closing.specs.declared.ending.Clash.{Clash}
use Rattle.stack.specs.declared.kinds.Record.{Record}
use Rattle.rules.specs.Literals.{Extends, free}
use Rattle.closing.proofs.Right.{right}
use Rattle.lookahead.specs.Trials.{dead, by_gains, pass, rank_of, scored}
use Rattle.lookahead.specs.Answers.{noted, goes_on, passed}
use Rattle.lookahead.proofs.Passing.{free_mono, passing_starts, passing_set, passing_dead, note_room, passing_kept, passing_ranked, passing_ends, looks_clash, looks_on, moved}
use Rattle.lookahead.proofs.looking.look_ahead.Goals as goal
use Rattle.lookahead.proofs.looking.look_ahead.Goals.{then-is_free+in_ok-gains+in_default, then-is_free+in_ok-gains+in-Some, else-is_free}

-- a clash refutes
ends : (r : Result ℕ Clash) → IsErr r → (p : List ℕ) (notes : List Record) → dead ≡ passed r p notes
ends (Ok k) h p notes = absurd (true≢false (sym h))
ends (Err e) h p notes = refl

pub returns-in_err-close-clause-value : goal.returns-in_err-close-clause-value
returns-in_err-close-clause-value g c =
    let s = g.S.Rules.means c.args.store.now in
    looks_clash s (by_gains s) c.args.partial.now (sym c.in_err-close.ensures.value) ∙ ends c.from_residual.result c.from_residual.ensures.0 c.close.new.partial c.args.notes.now

pub loop-i-init : goal.loop-i-init
loop-i-init g c =
    let s = g.S.Rules.means c.args.store.now in
    let keep = g.S.Rules.laws.keeps c.args.store.now in
    let p = c.args.partial.now in
    let q = c.close.new.partial in
    let adds = subst (λ u. Extends u p) (sym c.close.ensures.leaves) ((right s keep).left_sets_free p c.requires.0) in
    let fewer = free_mono p q (c.close.ensures.fit.long ∙ sym c.requires.0.long) adds in
    let notes : free q ≤ length c.args.notes.now = omega (arith, fewer, c.requires.1.1.1) in
    let places : free q ≤ length c.args.places.now = omega (arith, fewer, c.requires.1.1.0) in
    passing_starts s (by_gains s) q (length c.args.places.now) c.args.notes.now c.close.ensures.fit notes places

pub returns-in_err-gains-clause-value : goal.returns-in_err-gains-clause-value
returns-in_err-gains-clause-value g c =
    let s = g.S.Rules.means c.args.store.now in
    let q = c.close.new.partial in
    let p = c.loop-i.partial in
    let i = c.loop-i.i in
    let k = c.loop-i.k in
    let notes = c.loop-i.notes in
    let high : i < s.n = omega (arith, c.close.ensures.fit.long, c.loop-i-test.true) in
    looks_on s (by_gains s) c.args.partial.now q (sym c.in_ok-close.ensures.value)
    ∙ passing_dead s (by_gains s) q (length c.args.places.now) p notes i k high c.loop-i.invariant c.if-is_free.ensures
    (c.in_err-gains.ensures.value (pass s (by_gains s) (s.n - (i + 1)) (i + 1)) (map noted (take k notes)))
    ∙ ends c.from_residual-in_err-gains.result c.from_residual-in_err-gains.ensures.0 c.trial.new.partial notes

pub note-requires : goal.note-requires
note-requires g c = omega (arith, c.close.ensures.fit.long, c.loop-i-test.true, g.S.Rules.laws.few_vars c.args.store.now)

pub bounds-notes-k : goal.bounds-notes-k
bounds-notes-k g c =
    let s = g.S.Rules.means c.args.store.now in
    let high : c.loop-i.i < s.n = omega (arith, c.close.ensures.fit.long, c.loop-i-test.true) in
    note_room s (by_gains s) c.close.new.partial (length c.args.places.now) c.loop-i.partial c.loop-i.notes c.loop-i.i c.loop-i.k high c.loop-i.invariant c.if-is_free.ensures

pub loop-i-preserved : goal.loop-i-preserved
loop-i-preserved g c =
    let s = g.S.Rules.means c.args.store.now in
    let rank = by_gains s in
    let q = c.close.new.partial in
    let room = length c.args.places.now in
    let p = c.loop-i.partial in
    let i = c.loop-i.i in
    let k = c.loop-i.k in
    let notes = c.loop-i.notes in
    let high : i < s.n = omega (arith, c.close.ensures.fit.long, c.loop-i-test.true) in
    let go = pass s rank (s.n - (i + 1)) (i + 1) in
    let to = moved s rank q room (i + 1) c.if-is_free.partial c.if-is_free.notes c.if-is_free.k in
    elim c.if-is_free.branch [
      | then-is_free+in_ok-gains+in_default w ↦
          to w.trial.new.partial notes k w.partial-is w.notes-is w.k-is
          (passing_kept s rank q room p notes i k high c.loop-i.invariant w.if-is_free.ensures w.trial.new.partial w.trial.ensures.fit w.trial.ensures.adds
          (w.in_ok-gains.ensures.value go (map noted (take k notes)) ∙ ap (λ o. goes_on (Ok o) go w.trial.new.partial i (map noted (take k notes))) w.in_default.is))
      | then-is_free+in_ok-gains+in-Some w ↦
          to w.trial.new.partial (set notes k w.note.result) (k + 1) w.partial-is w.notes-is w.k-is
          (passing_ranked s rank q room p notes i k high c.loop-i.invariant w.if-is_free.ensures w.trial.new.partial w.trial.ensures.fit w.trial.ensures.adds w.note.result (scored i (rank_of w.in-Some.gains.yes w.in-Some.gains.no)) w.note.ensures
          (w.in_ok-gains.ensures.value go (map noted (take k notes)) ∙ ap (λ o. goes_on (Ok o) go w.trial.new.partial i (map noted (take k notes))) w.in-Some.is))
      | else-is_free w ↦
          to p notes k w.partial-is w.notes-is w.k-is (passing_set s rank q room p notes i k high c.loop-i.invariant w.if-is_free.ensures)
    ]

pub returns : goal.returns
returns g c =
    let s = g.S.Rules.means c.args.store.now in
    let q = c.close.new.partial in
    let done : s.n ≤ c.loop-i.i = omega (arith, c.close.ensures.fit.long, c.loop-i-test.false) in
    record {
      value =
          looks_on s (by_gains s) c.args.partial.now q (sym c.in_ok-close.ensures.value)
          ∙ passing_ends s (by_gains s) q (length c.args.places.now) c.loop-i.partial c.loop-i.notes c.loop-i.i c.loop-i.k done c.loop-i.invariant;
      fit = c.loop-i.invariant.fits;
      few = omega (arith, c.loop-i.invariant.notes_room);
    }
