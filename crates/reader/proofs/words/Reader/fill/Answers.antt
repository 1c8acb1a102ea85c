use Rattle.std.proofs.Common.{◌≡◌, pos, unwrap_or, sym, ap, ◌∙◌, w32, to_z, of_z, rules}
use Rattle.rules.specs.declared.kind.Kind.{Kind}
use Rattle.rules.specs.declared.kind.Kind.TheVariants.{Clause, Odd}
use Rattle.reader.specs.Left.{left}
use Rattle.reader.specs.Filling.{number_in, kind_after, goes_to, sent_by}
use Rattle.reader.proofs.Laying.{laying_same, laying_own, laying_other, sent_number}
use Rattle.reader.proofs.words.Reader.fill.Goals as goal
use Rattle.reader.proofs.words.Reader.fill.Goals.{After-unwrap_or-z, in-Clause, in-Odd}

-- what the number sends to a table
sends : (which : Kind) (c : After-unwrap_or-z) → sent_by which c.loop-word.kind (left c.loop-word.reader) ≡ goes_to which c.loop-word.kind c.unwrap_or-z.result (sent_by which (kind_after c.loop-word.kind c.unwrap_or-z.result) (left c.next_word.new.self))
sends which c =
    let k = c.loop-word.kind in
    let next = left c.next_word.new.self in
    let z : c.unwrap_or-z.result ≡ number_in c.in-Some.word.bytes.now = c.unwrap_or-z.ensures ∙ ap (λ o. unwrap_or o (pos 0)) c.signed_number.ensures in
    ap (sent_by which k) c.in-Some.ensures.word.0
    ∙ (sent_number which k c.in-Some.word.place c.in-Some.word.bytes.now next c.if-is_odd.ensures ∙ ap (λ y. goes_to which k y (sent_by which (kind_after k y) next)) (sym z))

pub loop-word-preserved : goal.loop-word-preserved
loop-word-preserved c =
    let n = (goal.at.loop-word-preserved c).After-unwrap_or-z in
    let m = c.loop-word.invariant in
    let k = c.loop-word.kind in
    let z = c.unwrap_or-z.result in
    let rest = λ (which : Kind). sent_by which (kind_after k z) (left c.next_word.new.self) in
    let same : to_z w32 (of_z w32 z) ≡ z = search rules in
    let after = sym (c.kind_after-kind.ensures ∙ ap (kind_after k) same) in
    let then = λ (which : Kind). ap (λ j. sent_by which j (left c.next_word.new.self)) after in
    let cs = laying_same (sends Clause n) m.1 in
    let os = laying_same (sends Odd n) m.2 in
    elim c.match-kind.branch [
      | in-Clause w ↦ (
        c.in-Some.ensures.text ∙ m.0,
        laying_same (then Clause) (laying_own Clause k z _ cs w.in-Clause.is c.requires.clauses _ same w.clauses-is w.c-is),
        laying_same (then Odd) (laying_other Odd k z _ os (ap (λ j. goes_to Odd j z (rest Odd)) w.in-Clause.is) w.odds-is w.o-is),
      )
      | in-Odd w ↦ (
        c.in-Some.ensures.text ∙ m.0,
        laying_same (then Clause) (laying_other Clause k z _ cs (ap (λ j. goes_to Clause j z (rest Clause)) w.in-Odd.is) w.clauses-is w.c-is),
        laying_same (then Odd) (laying_own Odd k z _ os w.in-Odd.is c.requires.odds _ same w.odds-is w.o-is),
      )
    ]
