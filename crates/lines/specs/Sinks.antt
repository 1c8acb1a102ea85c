-- What is owed of a sink for bytes, and that a stack and a count of room keep it.
use Rattle.std.specs.Prelude.{◌≡◌, ℕ, ◌+◌, ◌<◌, List, [], ◌++◌, length, Result, MatchResult, refl}
use Rattle.std.proofs.Common.{sym, ap, arith, length-append, length-drop}
use Rattle.std.proofs.lemmas.List.{append-nil}
use Rattle.stack.specs.declared.Stack.{Stack}
use Rattle.stack.specs.Items.{items, spares}
use Rattle.outlet.specs.declared.kinds.Refusal.{Refusal}
use Rattle.outlet.specs.Memory.{Appended}
use Rattle.outlet.proofs.Appending.{appended_more}
use Rattle.lines.specs.declared.sinks.Room.{Room}

-- piece after piece is all of them at once, and a sink has as much less room as it took
pub record SinkLaws {S : Type 0} (took : S → List ℕ → S → Type 0) (room : S → ℕ) : Type 0 where
  pub took_nothing : (s : S) → took s [] s
  pub took_more : (s t u : S) (ws vs : List ℕ) → took s ws t → took t vs u → took s (ws ++ vs) u
  pub room_left : (s t : S) (ws : List ℕ) → took s ws t → room t + length ws ≡ room s

-- all of ws is taken, or there is no room for it
abbrev pub Takes : {S : Type 0} → (S → List ℕ → S → Type 0) → (S → ℕ) → S → List ℕ → S → Result (Unit {0}) Refusal → Type 0
Takes took room s ws t r = MatchResult r (λ _. took s ws t) (λ _. room s < length ws)

pub stack_laws : SinkLaws {S = Stack ℕ} Appended (λ s. length (spares s))
stack_laws = record {
  took_nothing = λ s. record { room = omega arith; len = omega arith; items = sym (append-nil (items s)); spares = refl; same = refl };
  took_more = λ s t u ws vs. appended_more s t u ws vs;
  room_left = λ s t ws a. let r = a.room in let e = ap length a.spares in omega (arith, e, length-drop (length ws) (spares s));
}

pub room_laws : SinkLaws {S = Room} (λ r ws q. q.left + length ws ≡ r.left) (λ r. r.left)
room_laws = record {
  took_nothing = λ r. omega arith;
  took_more = λ r q p ws vs a b. omega (arith, length-append ws vs);
  room_left = λ r q ws a. a;
}
