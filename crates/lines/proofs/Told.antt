-- The entries can be told back from their text: no two lists of entries have the same lines.
use Rattle.std.proofs.Common.{◌≡◌, ℕ, suc, ◌+◌, ◌%◌, ◌^◌, ◌<◌, ◌≤◌, List, [], ◌∷◌, ◌++◌, length, ℤ, pos, negsuc, decimal, sym, refl, ap, ◌∙◌, subst, append_assoc, arith}
use Rattle.std.specs.Fmt.{signed_decimal}
use Rattle.std.specs.List.{AllByRecursion}
use Rattle.std.proofs.lemmas.Fmt.{decimal_by_steps, decimal_nonempty, signed_decimal_injective}
use Rattle.std.proofs.ByRecursion.{All-push}
use Rattle.std.proofs.lemmas.List.{append_cancel_left}
use Rattle.outlet.specs.declared.kinds.Kind.{Kind}
use Rattle.outlet.specs.declared.kinds.Kind.TheVariants.{Cube, Learnt}
use Rattle.outlet.specs.Entries.{Entry, cube, learnt}
use Rattle.lines.specs.Lines.{letter, spaced, parted, line, lines, text, Narrow, NarrowEntry}

-- a byte of a number is above every byte that ends one
abbrev Big : ℕ → Type 0
Big b = 32 < b

abbrev Stops : List ℕ → Type 0
Stops [] = ⊥
Stops (b ∷ bs) = b ≤ 32

big_decimal : (n : ℕ) → n < 2 ^ 64 → AllByRecursion Big (decimal n)
big_decimal n h = decimal_by_steps (λ m ds. AllByRecursion Big ds) (λ m k. (omega arith, tt)) (λ m ds k p. All-push Big ds (48 + m % 10) p (omega arith)) n h

big_signed : (z : ℤ) → Narrow z → AllByRecursion Big (signed_decimal z)
big_signed (pos n) h = big_decimal n (omega arith)
big_signed (negsuc n) h = (omega arith, big_decimal (suc n) (omega arith))

some_signed : (z : ℤ) → Narrow z → signed_decimal z ≡ [] → ⊥
some_signed (pos n) h e = let s = decimal_nonempty n (omega arith) in omega (arith, ap length e)
some_signed (negsuc n) h e = let z : ◌≡◌ {A = ℕ} 0 1 = cc in omega arith

-- two numbers, each before a byte that ends it
split : (xs ys us vs : List ℕ) → AllByRecursion Big xs → AllByRecursion Big ys → Stops us → Stops vs → xs ++ us ≡ ys ++ vs → (xs ≡ ys) × (us ≡ vs)
split [] [] us vs p q s t e = (refl, e)
split [] (y ∷ ys) us vs p q s t e = let h : y ≤ 32 = subst Stops e s in absurd (omega (arith, q.0))
split (x ∷ xs) [] us vs p q s t e = let h : x ≤ 32 = subst Stops (sym e) t in absurd (omega (arith, p.0))
split (x ∷ xs) (y ∷ ys) us vs p q s t e =
    let h : x ≡ y = cc in
    let f : xs ++ us ≡ ys ++ vs = cc in
    let r = split xs ys us vs p.1 q.1 s t f in
    (ap (λ z. z ∷ xs) h ∙ ap (λ l. y ∷ l) r.0, r.1)

stops_spaced : (ls : List ℤ) (us : List ℕ) → Stops (spaced ls ++ 10 ∷ us)
stops_spaced [] us = omega arith
stops_spaced (l ∷ ls) us = omega arith

same_signed : (y z : ℤ) → Narrow y → Narrow z → signed_decimal y ≡ signed_decimal z → y ≡ z
same_signed y z p q e = signed_decimal_injective y z (omega arith) (omega arith) e

-- literals after spaces, up to the line feed
spaced_told : (ls ks : List ℤ) (us vs : List ℕ) → AllByRecursion Narrow ls → AllByRecursion Narrow ks → spaced ls ++ 10 ∷ us ≡ spaced ks ++ 10 ∷ vs → (ls ≡ ks) × (us ≡ vs)
spaced_told [] [] us vs p q e = (refl, cc)
spaced_told [] (k ∷ ks) us vs p q e = cc
spaced_told (l ∷ ls) [] us vs p q e = cc
spaced_told (l ∷ ls) (k ∷ ks) us vs p q e =
    let f : (signed_decimal l ++ spaced ls) ++ 10 ∷ us ≡ (signed_decimal k ++ spaced ks) ++ 10 ∷ vs = cc in
    let g : signed_decimal l ++ (spaced ls ++ 10 ∷ us) ≡ signed_decimal k ++ (spaced ks ++ 10 ∷ vs) =
    sym (append_assoc (signed_decimal l) (spaced ls) (10 ∷ us)) ∙ f ∙ append_assoc (signed_decimal k) (spaced ks) (10 ∷ vs) in
    let r = split (signed_decimal l) (signed_decimal k) (spaced ls ++ 10 ∷ us) (spaced ks ++ 10 ∷ vs) (big_signed l p.0) (big_signed k q.0) (stops_spaced ls us) (stops_spaced ks vs) g in
    let t = spaced_told ls ks us vs p.1 q.1 r.1 in
    (ap (λ z. z ∷ ls) (same_signed l k p.0 q.0 r.0) ∙ ap (λ m. k ∷ m) t.0, t.1)

-- literals parted by spaces, up to the line feed
parted_told : (ls ks : List ℤ) (us vs : List ℕ) → AllByRecursion Narrow ls → AllByRecursion Narrow ks → parted ls ++ 10 ∷ us ≡ parted ks ++ 10 ∷ vs → (ls ≡ ks) × (us ≡ vs)
parted_told [] [] us vs p q e = (refl, cc)
parted_told [] (k ∷ ks) us vs p q e =
    let g : 10 ∷ us ≡ signed_decimal k ++ (spaced ks ++ 10 ∷ vs) = e ∙ append_assoc (signed_decimal k) (spaced ks) (10 ∷ vs) in
    let r = split [] (signed_decimal k) (10 ∷ us) (spaced ks ++ 10 ∷ vs) tt (big_signed k q.0) (omega arith) (stops_spaced ks vs) g in
    absurd (some_signed k q.0 (sym r.0))
parted_told (l ∷ ls) [] us vs p q e =
    let g : signed_decimal l ++ (spaced ls ++ 10 ∷ us) ≡ 10 ∷ vs = sym (append_assoc (signed_decimal l) (spaced ls) (10 ∷ us)) ∙ e in
    let r = split (signed_decimal l) [] (spaced ls ++ 10 ∷ us) (10 ∷ vs) (big_signed l p.0) tt (stops_spaced ls us) (omega arith) g in
    absurd (some_signed l p.0 r.0)
parted_told (l ∷ ls) (k ∷ ks) us vs p q e =
    let g : signed_decimal l ++ (spaced ls ++ 10 ∷ us) ≡ signed_decimal k ++ (spaced ks ++ 10 ∷ vs) =
    sym (append_assoc (signed_decimal l) (spaced ls) (10 ∷ us)) ∙ e ∙ append_assoc (signed_decimal k) (spaced ks) (10 ∷ vs) in
    let r = split (signed_decimal l) (signed_decimal k) (spaced ls ++ 10 ∷ us) (spaced ks ++ 10 ∷ vs) (big_signed l p.0) (big_signed k q.0) (stops_spaced ls us) (stops_spaced ks vs) g in
    let t = spaced_told ls ks us vs p.1 q.1 r.1 in
    (ap (λ z. z ∷ ls) (same_signed l k p.0 q.0 r.0) ∙ ap (λ m. k ∷ m) t.0, t.1)

-- a line of one kind and number, before the rest of the text
line_opened : (k : Kind) (n : ℕ) (ls : List ℤ) (us : List ℕ) → line k n ls ++ us ≡ letter k ∷ 44 ∷ (decimal n ++ (44 ∷ (parted ls ++ 10 ∷ us)))
line_opened k n ls us = ap (λ t. letter k ∷ 44 ∷ t)
    (append_assoc (decimal n) (44 ∷ (parted ls ++ 10 ∷ [])) us ∙ ap (λ t. decimal n ++ (44 ∷ t)) (append_assoc (parted ls) (10 ∷ []) us))

line_told : (k : Kind) (n : ℕ) (ls ks : List ℤ) (us vs : List ℕ) → AllByRecursion Narrow ls → AllByRecursion Narrow ks → line k n ls ++ us ≡ line k n ks ++ vs → (ls ≡ ks) × (us ≡ vs)
line_told k n ls ks us vs p q e =
    let f : letter k ∷ 44 ∷ (decimal n ++ (44 ∷ (parted ls ++ 10 ∷ us))) ≡ letter k ∷ 44 ∷ (decimal n ++ (44 ∷ (parted ks ++ 10 ∷ vs))) =
    sym (line_opened k n ls us) ∙ e ∙ line_opened k n ks vs in
    let g = append_cancel_left (letter k ∷ 44 ∷ decimal n) (44 ∷ (parted ls ++ 10 ∷ us)) (44 ∷ (parted ks ++ 10 ∷ vs)) f in
    let h = append_cancel_left (44 ∷ []) (parted ls ++ 10 ∷ us) (parted ks ++ 10 ∷ vs) g in
    parted_told ls ks us vs p q h

lines_told : (c l : ℕ) (es fs : List Entry) → AllByRecursion NarrowEntry es → AllByRecursion NarrowEntry fs → lines c l es ≡ lines c l fs → es ≡ fs
lines_told c l [] [] p q e = refl
lines_told c l [] (cube ks ∷ fs) p q e = cc
lines_told c l [] (learnt ks ∷ fs) p q e = cc
lines_told c l (cube ls ∷ es) [] p q e = cc
lines_told c l (learnt ls ∷ es) [] p q e = cc
lines_told c l (cube ls ∷ es) (learnt ks ∷ fs) p q e = absurd (let z : ◌≡◌ {A = ℕ} 67 76 = cc in omega arith)
lines_told c l (learnt ls ∷ es) (cube ks ∷ fs) p q e = absurd (let z : ◌≡◌ {A = ℕ} 76 67 = cc in omega arith)
lines_told c l (cube ls ∷ es) (cube ks ∷ fs) p q e =
    let r = line_told Cube (c + 1) ls ks (lines (c + 1) l es) (lines (c + 1) l fs) p.0 q.0 e in
    ap (λ m. cube m ∷ es) r.0 ∙ ap (λ gs. cube ks ∷ gs) (lines_told (c + 1) l es fs p.1 q.1 r.1)
lines_told c l (learnt ls ∷ es) (learnt ks ∷ fs) p q e =
    let r = line_told Learnt (l + 1) ls ks (lines c (l + 1) es) (lines c (l + 1) fs) p.0 q.0 e in
    ap (λ m. learnt m ∷ es) r.0 ∙ ap (λ gs. learnt ks ∷ gs) (lines_told c (l + 1) es fs p.1 q.1 r.1)

pub text_told : (es fs : List Entry) → AllByRecursion NarrowEntry es → AllByRecursion NarrowEntry fs → text es ≡ text fs → es ≡ fs
text_told es fs p q e = lines_told 0 0 es fs p q e
