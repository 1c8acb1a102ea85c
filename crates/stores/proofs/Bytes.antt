-- The bytes of a partial, gone over one by one.
use Rattle.std.proofs.Common.{◌≡◌, ℕ, ◌+◌, ◌<◌, ◌≤◌, true, false, ◌&&◌, leb, List, length, get_or, drop, ap, ◌∙◌}
use Rattle.std.proofs.lemmas.List.{at_drop_more, at_drop_all}
use Rattle.std.proofs.lemmas.Bool.{and_left, le-leb, lt-leb}
use Rattle.stores.specs.Stores.{legal}

pub legal_no : (p : List ℕ) (i : ℕ) → i < length p → 2 < get_or p i 0 → legal (drop i p) ≡ false
legal_no p i l h = at_drop_more legal p i 0 l ∙ and_left (leb (get_or p i 0) 2) (legal (drop (i + 1) p)) (lt-leb (get_or p i 0) 2 h)

pub legal_yes : (p : List ℕ) (i : ℕ) → i < length p → get_or p i 0 ≤ 2 → legal (drop i p) ≡ legal (drop (i + 1) p)
legal_yes p i l h = at_drop_more legal p i 0 l ∙ ap (λ b. b && legal (drop (i + 1) p)) (le-leb (get_or p i 0) 2 h)

pub legal_end : (p : List ℕ) (i : ℕ) → length p ≤ i → legal (drop i p) ≡ true
legal_end p i h = at_drop_all legal p i h
