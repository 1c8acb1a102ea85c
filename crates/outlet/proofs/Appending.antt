-- What is appended to a stack.
use Rattle.std.proofs.Common.{◌≡◌, ◌⊎◌, inl, inr, ◌+◌, ◌<◌, ◌≤◌, List, ◌++◌, length, take, drop, sym, ap, ◌∙◌, append_assoc, arith, length-append, length-take, length-drop, take-append-drop}
use Rattle.std.proofs.lemmas.List.{take_at, drop-drop, take-take, length-take-le, append-nil, nil_from_length}
use Rattle.std.proofs.lemmas.Bool.{cases_lt}
use Rattle.stack.specs.declared.Stack.{Stack}
use Rattle.stack.specs.Items.{items, spares, sound}
use Rattle.outlet.specs.Memory.{Appended, Kept, laid}

module _ {T : Type 0} (s : Stack T) (ws : List T) (t : Stack T) (a : Appended s ws t) where
  -- all of the memory
  pub appended_laid : t.cells.now ≡ laid s.cells.now s.len ws
  appended_laid =
      sym (take-append-drop t.len t.cells.now)
      ∙ ap (λ l. l ++ spares t) a.items ∙ ap (λ l. (items s ++ ws) ++ l) (a.spares ∙ drop-drop (length ws) s.len s.cells.now)
      ∙ append_assoc (items s) ws (drop (s.len + length ws) s.cells.now)

  pub appended_size : length t.cells.now ≡ length s.cells.now
  appended_size = let r = a.room in ap length appended_laid ∙ (simp (length-append, length-take, length-drop) (omega (arith, r, length-drop s.len s.cells.now)))

  pub appended_sound : sound s → sound t
  appended_sound h = let n = a.len in let r = a.room in omega (arith, r, appended_size, length-drop s.len s.cells.now)

  front : take s.len (items t) ≡ items s
  front = ap (take s.len) a.items ∙ by (cases_lt (length s.cells.now) s.len)
    where
      by : (length s.cells.now < s.len) ⊎ (s.len ≤ length s.cells.now) → take s.len (items s ++ ws) ≡ items s
      by (inl h) =
          let r = a.room in
          let none : length ws ≡ 0 = omega (arith, r, length-drop s.len s.cells.now) in
          rw (nil_from_length ws none, append-nil (items s)) (take-take s.len s.len s.cells.now (omega arith))
      by (inr h) = take_at (items s) ws s.len (length-take-le s.len s.cells.now h)

  pub appended_kept : Kept s t
  appended_kept =
      let n = a.len in
      let m : s.len ≤ t.len = omega arith in
      record {
        same = a.same;
        grew = record {
          longer = m;
          written = sym (take-take s.len t.len t.cells.now m) ∙ front;
          behind = a.spares ∙ drop-drop (length ws) s.len s.cells.now ∙ ap (λ k. drop k s.cells.now) (sym n);
        };
      }

pub appended_more : {T : Type 0} (s t u : Stack T) (ws vs : List T) → Appended s ws t → Appended t vs u → Appended s (ws ++ vs) u
appended_more s t u ws vs a b =
    let e = ap length a.spares in
    record {
      room = let p = a.room in let q = b.room in omega (arith, e, length-drop (length ws) (spares s), length-append ws vs);
      len = let p = a.len in let q = b.len in omega (arith, length-append ws vs);
      items = b.items ∙ ap (λ l. l ++ vs) a.items ∙ append_assoc (items s) ws vs;
      spares = b.spares ∙ ap (drop (length vs)) a.spares ∙ drop-drop (length vs) (length ws) (spares s) ∙ ap (λ n. drop n (spares s)) (sym (length-append ws vs));
      same = b.same ∙ a.same;
    }
