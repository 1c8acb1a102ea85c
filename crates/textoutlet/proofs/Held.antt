-- The text with one more entry.
use Rattle.std.proofs.Common.{◌≡◌, ℕ, ◌+◌, ◌≤◌, List, [], ◌∷◌, ◌++◌, length, ℤ, sym, refl, ap, ◌∙◌, append_assoc, arith, length-append, length-take, length-drop}
use Rattle.std.specs.List.{AllByRecursion}
use Rattle.std.proofs.ByRecursion.{All-push}
use Rattle.std.proofs.lemmas.List.{append-nil}
use Rattle.std.proofs.lemmas.Bool.Decides.{nat_tests}
use Rattle.stack.specs.Items.{items, spares, size}
use Rattle.outlet.specs.declared.kinds.Kind.{Kind}
use Rattle.outlet.specs.declared.kinds.Kind.TheVariants.{Cube, Learnt}
use Rattle.outlet.specs.Entries.{Entry, cube, learnt, entry_of}
use Rattle.lines.specs.Lines.{line, lines, text, of_kind, cubes_in, learnt_in, Narrow, NarrowEntry}
use Rattle.lines.proofs.Told.{text_told}
use Rattle.textoutlet.specs.declared.out.TextOutlet.{TextOutlet}
use Rattle.textoutlet.specs.declared.counts.Counts.{Counts}
use Rattle.textoutlet.specs.Counting.{counts_of, counted, next_line}
use Rattle.textoutlet.specs.TextHeld.{HoldsText, text_fit, room_for}

lines_push : (c l : ℕ) (es : List Entry) (k : Kind) (ls : List ℤ) →
    lines c l (es ++ entry_of k ls ∷ []) ≡ lines c l es ++ line k (of_kind k (c + cubes_in es) (l + learnt_in es) + 1) ls
lines_push c l [] Cube ls = append-nil (line Cube (c + 1) ls) ∙ ap (λ n. line Cube n ls) (omega arith)
lines_push c l [] Learnt ls = append-nil (line Learnt (l + 1) ls) ∙ ap (λ n. line Learnt n ls) (omega arith)
lines_push c l (cube ms ∷ es) k ls =
    ap (λ t. line Cube (c + 1) ms ++ t) (lines_push (c + 1) l es k ls) ∙ sym (append_assoc (line Cube (c + 1) ms) (lines (c + 1) l es) _)
    ∙ ap (λ m. (line Cube (c + 1) ms ++ lines (c + 1) l es) ++ line k (of_kind k m (l + learnt_in es) + 1) ls) (omega arith)
lines_push c l (learnt ms ∷ es) k ls =
    ap (λ t. line Learnt (l + 1) ms ++ t) (lines_push c (l + 1) es k ls) ∙ sym (append_assoc (line Learnt (l + 1) ms) (lines c (l + 1) es) _)
    ∙ ap (λ m. (line Learnt (l + 1) ms ++ lines c (l + 1) es) ++ line k (of_kind k (c + cubes_in es) m + 1) ls) (omega arith)

-- the order of two entries does not matter to the counts
counted_both : (k j : Kind) (c : Counts) → counted k (counted j c) ≡ counted j (counted k c)
counted_both Cube Cube c = refl
counted_both Cube Learnt c = refl
counted_both Learnt Cube c = refl
counted_both Learnt Learnt c = refl

pub counts_push : (es : List Entry) (k : Kind) (ls : List ℤ) → counts_of (es ++ entry_of k ls ∷ []) ≡ counted k (counts_of es)
counts_push [] Cube ls = refl
counts_push [] Learnt ls = refl
counts_push (cube ms ∷ es) k ls = ap (counted Cube) (counts_push es k ls) ∙ counted_both Cube k (counts_of es)
counts_push (learnt ms ∷ es) k ls = ap (counted Learnt) (counts_push es k ls) ∙ counted_both Learnt k (counts_of es)

pub narrow_push : (es : List Entry) (k : Kind) (ls : List ℤ) → AllByRecursion NarrowEntry es → AllByRecursion Narrow ls → AllByRecursion NarrowEntry (es ++ entry_of k ls ∷ [])
narrow_push es Cube ls a n = All-push NarrowEntry es (cube ls) a n
narrow_push es Learnt ls a n = All-push NarrowEntry es (learnt ls) a n

-- of an outlet o that holds es
module _ (o : TextOutlet) (es : List Entry) (m : HoldsText o es) where
  -- the next line stands behind the text
  pub text_next : (k : Kind) (ls : List ℤ) → text es ++ next_line o.counts k ls ≡ text (es ++ entry_of k ls ∷ [])
  text_next k ls = ap (λ c. text es ++ next_line c k ls) m.counts ∙ ap (λ n. text es ++ line k (n + 1) ls) (zeros k) ∙ sym (lines_push 0 0 es k ls)
    where
      zeros : (k : Kind) → of_kind k (cubes_in es) (learnt_in es) ≡ of_kind k (0 + cubes_in es) (0 + learnt_in es)
      zeros Cube = omega arith
      zeros Learnt = omega arith

  pub fit_is : (k : Kind) (ls : List ℤ) → text_fit (size o.text) es (entry_of k ls) ≡ room_for o k ls
  fit_is k ls =
      let s = o.text in
      let ws = next_line o.counts k ls in
      let e : length (text (es ++ entry_of k ls ∷ [])) ≡ length (items s) + length ws = ap length (sym (text_next k ls)) ∙ length-append (text es) ws ∙ ap (λ t. length t + length ws) (sym m.held) in
      let n : length (items s) + length (spares s) ≡ size s = simp (length-take, length-drop) (omega arith) in
      grind (arith, nat_tests)

pub told : (o : TextOutlet) (es fs : List Entry) → HoldsText o es → AllByRecursion NarrowEntry fs → items o.text ≡ text fs → fs ≡ es
told o es fs m n e = text_told fs es n m.narrow (sym e ∙ m.held)

-- one entry more is one more of all, and four bytes at least
pub one_more : (k : Kind) (c : Counts) → (counted k c).cubes + (counted k c).learnt ≡ c.cubes + c.learnt + 1
one_more Cube c = omega arith
one_more Learnt c = omega arith

pub four_bytes : (k : Kind) (n : ℕ) (ls : List ℤ) → 4 ≤ length (line k n ls)
four_bytes k n ls = simp length-append (omega arith)
