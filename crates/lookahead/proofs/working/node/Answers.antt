use Rattle.std.proofs.Common.{◌≡◌, ℕ, ◌-◌, Bool, true, false, List, map, length, take, sym, ap, ◌∙◌, subst, arith}
use Rattle.rules.specs.Literals.{Literal, Partial, Each}
use Rattle.stack.specs.declared.kinds.Record.{Record}
use Rattle.cutoff.specs.declared.kinds.Cutoff.{Cutoff}
use Rattle.cutoff.specs.Theta.{shrink}
use Rattle.cutoff.specs.Cutoffs.{eased, cuts_at}
use Rattle.lookahead.specs.Trials.{Scored, by_gains}
use Rattle.lookahead.specs.Nodes.{deepened, best, set_in}
use Rattle.lookahead.specs.Answers.{noted, worked, literal_in}
use Rattle.lookahead.specs.declared.kinds.Outcome.TheVariants as outcome
use Rattle.lookahead.proofs.Passes.{alive_means}
use Rattle.lookahead.proofs.Right.{right}
use Rattle.lookahead.proofs.Finished.{node_dead, node_alive, node_settled, filled_fits, each_of, decided_by}
use Rattle.lookahead.proofs.working.node.Goals as goal

pub returns-in_default : goal.returns-in_default
returns-in_default g c =
    let s = g.S.Rules.means c.args.store.now in
    record {
      value =
          node_dead s (by_gains s) c.args.cutoff.now c.args.decisions c.args.partial.now c.fall.new.self c.in_default.ensures.value
          (c.fall.ensures.value ∙ ap (eased shrink) c.rise.ensures.value);
      fit = c.look_ahead.ensures.fit;
      range = λ h. c.fall.ensures.range (c.rise.ensures.range h);
      right = right s (g.S.Rules.laws.keeps c.args.store.now);
    }

pub returns-then-settle : goal.returns-then-settle
returns-then-settle g c =
    let s = g.S.Rules.means c.args.store.now in
    let d = c.args.decisions in
    let q = c.look_ahead.new.partial in
    let after = c.if-settle.ensures.leaves in
    record {
      value =
          node_settled s (by_gains s) c.args.cutoff.now d c.args.partial.now c.deepen.new.cutoff q (map noted (take c.in-Ok.k c.look_ahead.new.notes)) c.in-Ok.ensures.value
          (c.deepen.ensures.value ∙ ap (deepened d) c.rise.ensures.value) (sym c.if-settle.ensures.value)
          ∙ ap (λ u. worked c.deepen.new.cutoff outcome.Model u) (sym after);
      fit = subst (Partial s.n) (sym after) (filled_fits s.n q c.look_ahead.ensures.fit);
      range = λ h. c.deepen.ensures.range (c.rise.ensures.range h);
      right = right s (g.S.Rules.laws.keeps c.args.store.now);
    }

-- the cutoff was asked of the partial that the pass left
asked_of : (e : Cutoff) (n d : ℕ) (q u : List ℕ) (b : Bool) → length q ≡ n → u ≡ q → b ≡ cuts_at e (length u) d (set_in u) → cuts_at e n d (set_in q) ≡ b
asked_of e n d q u b long same asked =
    ap (λ m. cuts_at e m d (set_in q)) (sym long) ∙ ap (λ v. cuts_at e (length v) d (set_in v)) (sym same) ∙ sym asked

pub returns-then-is_cut : goal.returns-then-is_cut
returns-then-is_cut g c =
    let s = g.S.Rules.means c.args.store.now in
    let d = c.args.decisions in
    let q = c.look_ahead.new.partial in
    let u = c.settle.new.partial in
    let e = c.deepen.new.cutoff in
    let same = c.if-settle.ensures.leaves in
    record {
      value =
          node_alive s (by_gains s) c.args.cutoff.now d c.args.partial.now e q (map noted (take c.in-Ok.k c.look_ahead.new.notes)) false true c.in-Ok.ensures.value
          (c.deepen.ensures.value ∙ ap (deepened d) c.rise.ensures.value) (sym c.if-settle.ensures.value)
          (asked_of e s.n d q u true c.look_ahead.ensures.fit.long same c.if-is_cut.ensures);
      fit = subst (Partial s.n) (sym same) c.look_ahead.ensures.fit;
      range = λ h. c.deepen.ensures.range (c.rise.ensures.range h);
      right = right s (g.S.Rules.laws.keeps c.args.store.now);
    }

whole : (k : ℕ) → k - 0 ≡ k
whole k = omega arith

pub choose-requires : goal.choose-requires
choose-requires g c =
    let s = g.S.Rules.means c.args.store.now in
    let keep = g.S.Rules.laws.keeps c.args.store.now in
    let q = c.look_ahead.new.partial in
    let k = c.in-Ok.k in
    let notes = c.look_ahead.new.notes in
    let stands = alive_means s keep (by_gains s) c.args.partial.now c.requires.0 q (map noted (take k notes)) c.in-Ok.ensures.value in
    let each = each_of (λ (x : Scored). Literal s.n x.literal) noted (take k notes) stands.literals in
    let long : length c.settle.new.partial ≡ s.n = ap length c.if-settle.ensures.leaves ∙ c.look_ahead.ensures.fit.long in
    subst (λ j. Each (λ (x : Record). Literal (length c.settle.new.partial) x.decision) (take j notes)) (sym (whole k))
    (subst (λ n. Each (λ (x : Record). Literal n x.decision) (take k notes)) (sym long) each)

pub returns : goal.returns
returns g c =
    let s = g.S.Rules.means c.args.store.now in
    let d = c.args.decisions in
    let q = c.look_ahead.new.partial in
    let u = c.settle.new.partial in
    let e = c.deepen.new.cutoff in
    let k = c.in-Ok.k in
    let notes = c.look_ahead.new.notes in
    let xs = map noted (take k notes) in
    let same = c.if-settle.ensures.leaves in
    let chosen : c.choose.result ≡ literal_in (best q xs) =
    c.choose.ensures ∙ ap (λ j. literal_in (best u (map noted (take j notes)))) (whole k) ∙ ap (λ v. literal_in (best v xs)) same
    in
    record {
      value =
          node_alive s (by_gains s) c.args.cutoff.now d c.args.partial.now e q xs false false c.in-Ok.ensures.value
          (c.deepen.ensures.value ∙ ap (deepened d) c.rise.ensures.value) (sym c.if-settle.ensures.value)
          (asked_of e s.n d q u false c.look_ahead.ensures.fit.long same c.if-is_cut.ensures)
          ∙ ap (λ r. record { cutoff = e; result = r }) (decided_by q (best q xs) c.choose.result (sym chosen))
          ∙ ap (λ r. worked e r q) (sym c.decided.ensures)
          ∙ ap (worked e c.decided.result) (sym same);
      fit = subst (Partial s.n) (sym same) c.look_ahead.ensures.fit;
      range = λ h. c.deepen.ensures.range (c.rise.ensures.range h);
      right = right s (g.S.Rules.laws.keeps c.args.store.now);
    }
