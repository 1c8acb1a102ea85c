-- Setting, one by one, the literals that are true on the other side too.
use Rattle.std.proofs.Common.{◌≡◌, ℕ, ◌+◌, ◌<◌, Bool, true, false, cond, List, ◌∷◌, length, get_or, drop, ℤ, pos, sym, refl, ap, ◌∙◌}
use Rattle.std.proofs.lemmas.List.{at_drop_more}
use Rattle.rules.specs.Literals.{put, is_true}
use Rattle.lookahead.specs.Answers.{set_all, held}

module _ (p r : List ℕ) (ls : List ℤ) (i : ℕ) (h : i < length ls) where
  abbrev the_literal : ℤ
  the_literal = get_or ls i (pos 0)

  held_more : (b : Bool) → is_true r the_literal ≡ b → set_all p (held r (drop i ls)) ≡ set_all p (cond b (the_literal ∷ held r (drop (i + 1) ls)) (held r (drop (i + 1) ls)))
  held_more b e =
      at_drop_more (λ u. set_all p (held r u)) ls i (pos 0) h
      ∙ ap (λ c. set_all p (cond c (the_literal ∷ held r (drop (i + 1) ls)) (held r (drop (i + 1) ls)))) e

  pub step : (b : Bool) (q : List ℕ) → is_true r the_literal ≡ b → q ≡ cond b (put p the_literal) p → set_all q (held r (drop (i + 1) ls)) ≡ set_all p (held r (drop i ls))
  step true q e f = ap (λ u. set_all u (held r (drop (i + 1) ls))) f ∙ sym (held_more true e)
  step false q e f = ap (λ u. set_all u (held r (drop (i + 1) ls))) f ∙ sym (held_more false e)

  pub adopts_held : (q : List ℕ) → q ≡ cond (is_true r the_literal) (put p the_literal) p → set_all q (held r (drop (i + 1) ls)) ≡ set_all p (held r (drop i ls))
  adopts_held q f = step (is_true r the_literal) q refl f
