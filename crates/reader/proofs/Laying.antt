-- One table, filled from its start.
use Rattle.std.proofs.Common.{◌≡◌, ℕ, ◌+◌, ◌<◌, ◌≤◌, false, List, [], ◌∷◌, ◌++◌, length, take, drop, set, ℤ, codes, sym, ap, ◌∙◌, subst, append_assoc, arith, length-append}
use Rattle.std.specs.Str.{bytes_eq}
use Rattle.std.proofs.lemmas.List.{length-set, length-take-le, take_more_set, drop-set-lt, drop-drop}
use Rattle.std.proofs.lemmas.Bool.{cond-false}
use Rattle.rules.specs.declared.kind.Kind.{Kind}
use Rattle.rules.specs.declared.kind.Kind.TheVariants.{Clause, Odd}
use Rattle.reader.specs.Tokens.{Token, token}
use Rattle.reader.specs.Filling.{number_in, kind_after, goes_to, sent_by}

-- of whole, which is laid into the table start, left is still to be written, from the place at on
pub record Laying (start table : List ℤ) (at : ℕ) (whole left : List ℤ) : Type 0 where
  pub front : take at table ++ left ≡ whole
  pub back : drop at table ≡ drop at start
  pub long : length table ≡ length start
  pub within : at ≤ length table

module _ {start table : List ℤ} {at : ℕ} {whole : List ℤ} where
  pub laying_same : {left left' : List ℤ} → left ≡ left' → Laying start table at whole left → Laying start table at whole left'
  laying_same e old = subst (Laying start table at whole) e old

  pub laying_room : {z : ℤ} {left : List ℤ} → length whole ≤ length start → Laying start table at whole (z ∷ left) → at < length table
  laying_room {z} {left} fits old = omega (arith, fits, old.long, ap length old.front, length-append (take at table) (z ∷ left), length-take-le at table old.within)

  laying_next : {z : ℤ} {left : List ℤ} → length whole ≤ length start → Laying start table at whole (z ∷ left) → Laying start (set table at z) (at + 1) whole left
  laying_next {z} {left} fits old =
      let room = laying_room fits old in
      record {
        front = ap (λ l. l ++ left) (take_more_set table at z room) ∙ (append_assoc (take at table) (z ∷ []) left ∙ old.front);
        back = drop-set-lt (at + 1) table at z (omega arith) ∙ (sym (drop-drop 1 at table) ∙ (ap (drop 1) old.back ∙ drop-drop 1 at start));
        long = length-set table at z ∙ old.long;
        within = omega (arith, room, length-set table at z);
      }

-- ---- what one word sends
own : (which k : Kind) (z : ℤ) (zs : List ℤ) → k ≡ which → goes_to which k z zs ≡ z ∷ zs
own Clause k z zs e = ap (λ j. goes_to Clause j z zs) e
own Odd k z zs e = ap (λ j. goes_to Odd j z zs) e

module _ {start table : List ℤ} {at : ℕ} {whole : List ℤ} (which k : Kind) (z : ℤ) (zs : List ℤ) (old : Laying start table at whole (goes_to which k z zs)) where
  -- a number that goes into the table
  pub laying_own : k ≡ which → length whole ≤ length start → {table' : List ℤ} {at' : ℕ} (y : ℤ) → y ≡ z → table' ≡ set table at y → at' ≡ at + 1 → Laying start table' at' whole zs
  laying_own e fits {table'} {at'} y same t a =
      subst (λ i. Laying start table' i whole zs) (sym a)
      (subst (λ x. Laying start x (at + 1) whole zs) (sym (t ∙ ap (set table at) same)) (laying_next fits (laying_same (own which k z zs e) old)))

  -- or into the other one
  pub laying_other : goes_to which k z zs ≡ zs → {table' : List ℤ} {at' : ℕ} → table' ≡ table → at' ≡ at → Laying start table' at' whole zs
  laying_other e {table'} {at'} t a = subst (λ i. Laying start table' i whole zs) (sym a) (subst (λ x. Laying start x at whole zs) (sym t) (laying_same e old))

module _ (which k : Kind) (p : ℕ) (w : List ℕ) (ts : List Token) where
  pub sent_number : false ≡ bytes_eq w (codes "odd") → sent_by which k (token p w ∷ ts) ≡ goes_to which k (number_in w) (sent_by which (kind_after k (number_in w)) ts)
  sent_number e = cond-false (bytes_eq w (codes "odd")) _ _ (sym e)
