use Rattle.std.proofs.Common.{◌+◌, ◌++◌, sym, ap, ◌∙◌, arith}
use Rattle.outlet.proofs.Appending.{appended_size, appended_sound, appended_kept}
use Rattle.lines.specs.Lines.{of_kind}
use Rattle.textoutlet.specs.Counting.{counted, next_line}
use Rattle.textoutlet.specs.TextHeld.{text_fit}
use Rattle.textoutlet.proofs.Held.{text_next, counts_push, narrow_push, one_more, four_bytes}
use Rattle.textoutlet.proofs.out.TextOutletAppend.append.Goals as goal

pub invariant_of-self : goal.invariant_of-self
invariant_of-self c =
    let o = c.args.self.now in
    let k = c.args.kind in
    let ls = c.args.lits.now in
    let t = c.put_next.new.text in
    let a = c.put_next.ensures.line in
    let f = o.few in
    let b = o.addressed in
    let one = one_more k o.counts in
    let four = four_bytes k (of_kind k o.counts.cubes o.counts.learnt + 1) ls in
    let long = a.len in
    let size = appended_size o.text (next_line o.counts k ls) t a in
    record { whole = appended_sound o.text (next_line o.counts k ls) t a o.whole; few = rw c.add.ensures (omega (arith, f, one, four, long)); addressed = omega (arith, b, size) }

pub returns : goal.returns
returns c =
    let o = c.args.self.now in
    let k = c.args.kind in
    let ls = c.args.lits.now in
    let t = c.put_next.new.text in
    let ws = next_line o.counts k ls in
    let a = c.put_next.ensures.line in
    record {
      entries = λ es m. record {
        held = a.items ∙ ap (λ x. x ++ ws) m.held ∙ text_next o es m k ls;
        counts = c.add.ensures ∙ ap (counted k) m.counts ∙ sym (counts_push es k ls);
        narrow = narrow_push es k ls m.narrow c.put_next.ensures.narrow;
      };
      fitting = ap text_fit (appended_size o.text ws t a);
      kept = appended_kept o.text ws t a;
    }
