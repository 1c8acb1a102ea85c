-- What a sink takes piece by piece.
use Rattle.std.proofs.Common.{ℕ, List, ◌++◌, Ok, Err, Result, arith, length-append}
use Rattle.outlet.specs.declared.kinds.Refusal.{Refusal}
use Rattle.lines.specs.Sinks.{SinkLaws, Takes}

-- after ws, the answer for vs is that for both
pub takes_after : {S : Type 0} {took : S → List ℕ → S → Type 0} {room : S → ℕ} → SinkLaws took room → (s t u : S) (ws vs : List ℕ) (r : Result (Unit {0}) Refusal) →
    took s ws t → Takes took room t vs u r → Takes took room s (ws ++ vs) u r
takes_after laws s t u ws vs (Ok x) a b = laws.took_more s t u ws vs a b
takes_after laws s t u ws vs (Err e) a b = let q = laws.room_left s t ws a in omega (arith, length-append ws vs, q, b)
