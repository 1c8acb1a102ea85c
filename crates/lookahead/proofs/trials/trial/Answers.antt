use Rattle.std.proofs.Common.{◌≡◌, ℕ, List, true, false, take, ℤ, Ok, Result, sym, ap, ◌∙◌, subst}
use Rattle.std.specs.Prelude.{IfOk}
use Rattle.rules.specs.Literals.{Partial, Extends}
use Rattle.stores.specs.Stores.{Store, Keeps}
use Rattle.stores.specs.Walks.{gained}
use Rattle.closing.specs.Closing.{close, left, ended}
use Rattle.closing.specs.declared.ending.Clash.{Clash}
use Rattle.lookahead.specs.declared.trials.Kept.{Kept}
use Rattle.lookahead.specs.declared.trials.Left.TheVariants as side
use Rattle.lookahead.specs.Trials.{common, by_gains, rank_of}
use Rattle.lookahead.specs.Answers.{Taken, set_all, held}
use Rattle.lookahead.proofs.Partials.{common_adds, common_partial}
use Rattle.lookahead.proofs.Sides.{set_held, set_news}
use Rattle.lookahead.proofs.Turns.{ends_by, true_side, both_sides, side_adds, closes_more, gain_low}
use Rattle.lookahead.proofs.trials.trial.Goals as goal

taken_at : (s : Store) (p q : List ℕ) (places : List ℤ) (r : Result Kept Clash) (k : Kept) → r ≡ Ok k → IfOk r (λ k. Taken s p q places k.gain k.news) → Taken s p q places k.gain k.news
taken_at s p q places r k e h = subst (λ u. IfOk u (λ k. Taken s p q places k.gain k.news)) e h

-- where both sides close, the new literals of q that hold on r too, set in p, give u: what q and r share; closing it only adds to p
module _ (s : Store) (keep : Keeps s) (p q r : List ℕ) (places : List ℤ) (t k : ℕ) (fp : Partial s.n p) (fq : Partial s.n q) (fr : Partial s.n r) (adds : Extends q p) (taken : Taken s p q places t k) where
  shares : set_all p (held r (take k places)) ≡ common p q r
  shares = ap (λ ls. set_all p (held r ls)) taken.front ∙ set_held s.n p q fp fq adds r fr

  shared_adds : (v : List ℕ) → v ≡ left s (set_all p (held r (take k places))) → Extends v p
  shared_adds v leaves = closes_more s keep p (common p q r) v (common_partial s.n p q r fp fq) (common_adds p q r adds) (leaves ∙ ap (left s) shares)

  ranks : (f : ℕ) → f ≡ gained s p r → rank_of (gained s p q) (gained s p r) ≡ rank_of t f
  ranks f e = ap (λ k. rank_of k (gained s p r)) (sym taken.gains) ∙ ap (rank_of t) (sym e)

pub invariant_of-gains : goal.invariant_of-gains
invariant_of-gains g c =
    let s = g.S.Rules.means c.args.store.now in
    let few = g.S.Rules.laws.few_rules c.args.store.now in
    let p = c.args.partial.now in
    let first = c.try_true_side-first in
    let second = c.try_side-second in
    let kept = c.in-Both.kept in
    let ends = ends_by first.result second.result (Ok (side.Both kept)) (ap Ok (sym c.in-Both.is) ∙ c.in_ok-sides_left.ensures) in
    let taken = taken_at s p first.new.side first.new.places first.result kept ends.0 first.ensures.kept in
    record { low = (gain_low s few p first.new.side kept.gain taken.gains, gain_low s few p second.new.side c.gain.result c.gain.ensures) }

pub returns-in-False-clause-adds : goal.returns-in-False-clause-adds
returns-in-False-clause-adds g c =
    let p = c.args.partial.now in
    subst (λ u. Extends u p) (sym c.copy_from_slice.ensures.after)
    (side_adds (g.S.Rules.means c.args.store.now) (g.S.Rules.laws.keeps c.args.store.now) p c.args.i false c.try_side-second.new.side c.requires.0 c.requires.1.1.1.1 c.try_side-second.ensures.leaves)

pub returns-in-True : goal.returns-in-True
returns-in-True g c =
    let s = g.S.Rules.means c.args.store.now in
    let keep = g.S.Rules.laws.keeps c.args.store.now in
    let p = c.args.partial.now in
    let first = c.try_true_side-first in
    let second = c.try_side-second in
    let q = first.new.side in
    let kept = c.in-True.kept in
    let ends = ends_by first.result second.result (Ok (side.True kept)) (ap Ok (sym c.in-True.is) ∙ c.in_ok-sides_left.ensures) in
    let taken = taken_at s p q first.new.places first.result kept ends.0 first.ensures.kept in
    let adds = side_adds s keep p c.args.i true q c.requires.0 c.requires.1.1.1.1 first.ensures.leaves in
    let after : c.adopt.new.partial ≡ q = c.adopt.ensures ∙ ap (set_all p) taken.front ∙ set_news s.n p q c.requires.0 first.ensures.fit adds in
    record {
      value = λ go xs. true_side s (by_gains s) p c.args.i go xs q (ap (λ u. ended u q) (sym ends.0) ∙ first.ensures.value) (ends.1 second.new.side ∙ second.ensures.value) ∙ ap (λ u. go u xs) (sym after);
      fit = subst (Partial s.n) (sym after) first.ensures.fit;
      adds = subst (λ u. Extends u p) (sym after) adds;
    }

pub returns-in-Both : goal.returns-in-Both
returns-in-Both g c =
    let s = g.S.Rules.means c.args.store.now in
    let keep = g.S.Rules.laws.keeps c.args.store.now in
    let p = c.args.partial.now in
    let first = c.try_true_side-first in
    let q = first.new.side in
    let second = c.try_side-second in
    let r = second.new.side in
    let v = c.share-shared.new.partial in
    let kept = c.in-Both.kept in
    let ends = ends_by first.result second.result (Ok (side.Both kept)) (ap Ok (sym c.in-Both.is) ∙ c.in_ok-sides_left.ensures) in
    let taken = taken_at s p q first.new.places first.result kept ends.0 first.ensures.kept in
    let adds = side_adds s keep p c.args.i true q c.requires.0 c.requires.1.1.1.1 first.ensures.leaves in
    let same = shares s keep p q r first.new.places kept.gain kept.news c.requires.0 first.ensures.fit second.ensures.fit adds taken in
    let rank = ranks s keep p q r first.new.places kept.gain kept.news c.requires.0 first.ensures.fit second.ensures.fit adds taken c.gain.result c.gain.ensures in
    record {
      value = λ go xs.
          both_sides s (by_gains s) p c.args.i go xs q r (ap (λ u. ended u q) (sym ends.0) ∙ first.ensures.value) (ends.1 r ∙ second.ensures.value)
          c.share-shared.result v (c.share-shared.ensures.value ∙ ap (close s) same) _ c.ranked.result c.ranked.ensures rank;
      fit = c.share-shared.ensures.fit;
      adds = shared_adds s keep p q r first.new.places kept.gain kept.news c.requires.0 first.ensures.fit second.ensures.fit adds taken v c.share-shared.ensures.leaves;
    }
