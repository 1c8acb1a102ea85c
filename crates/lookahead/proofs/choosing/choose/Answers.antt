use Rattle.std.proofs.Common.{◌≡◌, false, ℕ, zero, suc, ◌+◌, ◌<◌, ◌≤◌, List, map, length, get_or, drop, pos, sym, refl, ap, ◌∙◌, arith, w32, SFits, rules}
use mathlib.Core.Option.{Option}
use Rattle.std.proofs.lemmas.Int.{to_z-of_z}
use Rattle.std.proofs.lemmas.List.{at_drop_more, at_drop_all}
use Rattle.rules.specs.Literals.{place}
use Rattle.stack.specs.declared.kinds.Record.{Record}
use Rattle.lookahead.specs.Trials.{Scored}
use Rattle.lookahead.specs.Nodes.{best_from, better_if}
use Rattle.lookahead.specs.Answers.{noted, best_note, literal_in}
use Rattle.lookahead.proofs.choosing.choose.Goals as goal
use Rattle.lookahead.proofs.choosing.choose.Goals.{then-byte_of-eq0, else-byte_of-eq0}

abbrev nothing : Record
nothing = record { decision = pos 0; height = 0; second = false }

set_stays : (b : ℕ) → (b ≡ 0 → ⊥) → (o : Option Scored) (x : Scored) → o ≡ better_if b o x
set_stays zero h o x = absurd (h refl)
set_stays (suc b) h o x = refl

free_counts : (b : ℕ) → b ≡ 0 → (o : Option Scored) (x : Scored) → better_if 0 o x ≡ better_if b o x
free_counts b e o x = ap (λ c. better_if c o x) (sym e)

one_more : (p : List ℕ) (ns : List Record) (i : ℕ) → i < length ns → (o t : Option Scored) → t ≡ better_if (get_or p (place (get_or ns i nothing).decision) 0) o (noted (get_or ns i nothing)) → best_from p t (map noted (drop (i + 1) ns)) ≡ best_from p o (map noted (drop i ns))
one_more p ns i h o t e = ap (λ u. best_from p u (map noted (drop (i + 1) ns))) e ∙ sym (at_drop_more (λ u. best_from p o (map noted u)) ns i nothing h)

pub loop-note-preserved : goal.loop-note-preserved
loop-note-preserved c =
    let p = c.args.partial.now in
    let ns = c.args.notes.now in
    let i = c.loop-note.note-index in
    let x = noted (get_or ns i nothing) in
    let l = (get_or ns i nothing).decision in
    let o = best_note c.loop-note.top in
    let fit : SFits w32 l = search rules in
    let byte : c.byte_of.result ≡ get_or p (place l) 0 = c.byte_of.ensures ∙ ap (λ z. get_or p (place z) 0) (to_z-of_z w32 l fit) in
    elim c.if-byte_of-eq0.branch [
      | then-byte_of-eq0 w ↦
          one_more p ns i c.loop-note-test.true o (best_note c.if-byte_of-eq0.top)
          (ap best_note w.top-is ∙ w.better.ensures ∙ free_counts (get_or p (place l) 0) (sym byte ∙ w.if-byte_of-eq0.true) o x) ∙ c.loop-note.invariant
      | else-byte_of-eq0 w ↦
          one_more p ns i c.loop-note-test.true o (best_note c.if-byte_of-eq0.top)
          (ap best_note w.top-is ∙ set_stays (get_or p (place l) 0) (λ z. w.if-byte_of-eq0.false (byte ∙ z)) o x) ∙ c.loop-note.invariant
    ]

pub returns : goal.returns
returns c =
    let p = c.args.partial.now in
    let ns = c.args.notes.now in
    let top = c.loop-note.top in
    let h : length ns ≤ c.loop-note.note-index = omega arith in
    let e = sym (at_drop_all (λ u. best_from p (best_note top) (map noted u)) ns c.loop-note.note-index h) ∙ c.loop-note.invariant in
    let f : c.map.result ≡ literal_in (best_note top) = search rules in
    f ∙ ap literal_in e
