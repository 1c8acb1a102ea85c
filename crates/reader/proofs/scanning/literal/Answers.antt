use Rattle.std.proofs.Common.{◌≡◌, ◌-◌, ◌<◌, ◌≤◌, ◌∷◌, ◌++◌, [], eqb, get_or, set, nat_abs, sym, ap, ◌∙◌, subst, w32, to_z, of_z, rules}
use Rattle.reader.specs.Reading.{wrong, gives, literal_says}
use Rattle.reader.specs.Marks.{Marked}
use Rattle.reader.proofs.Saying.{says_repeated, says_given, marked_grown}
use Rattle.reader.proofs.scanning.literal.Goals as goal

pub returns-then-mark-clause-says : goal.returns-then-mark-clause-says
returns-then-mark-clause-says c =
    let z = c.in-Some.z in
    let s = c.args.marks.now in
    let some : 0 < nat_abs z = search rules in
    let low : nat_abs z ≤ c.args.header.variables = search rules in
    let v : c.unsigned_abs-variable.result ≡ nat_abs z = search rules in
    let hit = c.if-mark.ensures.value ∙ ap (λ k. eqb (get_or s.stamps (k - 1) 0) s.top) v in
    λ ls m. ap (λ f. wrong f.reason) c.at-then-mark.ensures ∙ (says_repeated _ z m some low c.args.header.few (sym hit) ∙ ap (literal_says _ ls) c.in-Some.ensures)

pub returns-clause-says : goal.returns-clause-says
returns-clause-says c =
    let z = c.in-Some.z in
    let s = c.args.marks.now in
    let same : to_z w32 (of_z w32 z) ≡ z = search rules in
    let some : 0 < nat_abs z = search rules in
    let low : nat_abs z ≤ c.args.header.variables = search rules in
    let v : c.unsigned_abs-variable.result ≡ nat_abs z = search rules in
    let miss = c.if-mark.ensures.value ∙ ap (λ k. eqb (get_or s.stamps (k - 1) 0) s.top) v in
    λ ls m. ap gives same ∙ (says_given _ z m some low c.args.header.few (sym miss) ∙ ap (literal_says _ ls) c.in-Some.ensures)

pub returns-clause-marked : goal.returns-clause-marked
returns-clause-marked c =
    let z = c.in-Some.z in
    let s = c.args.marks.now in
    let same : to_z w32 (of_z w32 z) ≡ z = search rules in
    let some : 0 < nat_abs z = search rules in
    let low : nat_abs z ≤ c.args.header.variables = search rules in
    let v : c.unsigned_abs-variable.result ≡ nat_abs z = search rules in
    let stamps = c.mark.ensures.stamps ∙ ap (λ k. set s.stamps (k - 1) s.top) v in
    λ ls m. subst (λ y. Marked c.mark.new.self.stamps c.mark.new.self.top (ls ++ (y ∷ []))) (sym same)
    (subst (λ t. Marked c.mark.new.self.stamps t (ls ++ (z ∷ []))) (sym c.mark.ensures.top)
    (subst (λ x. Marked x s.top (ls ++ (z ∷ []))) (sym stamps) (marked_grown _ z m some low c.args.header.few s.long)))
