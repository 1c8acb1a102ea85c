-- The number outlet keeps the laws: above all, no two lists of entries have the same numbers.
use Rattle.std.specs.Prelude.{◌≡◌, List, [], ◌∷◌, ◌++◌, length, take, drop, refl}
use Rattle.std.proofs.Common.{sym, ◌∙◌, ap}
use Rattle.std.proofs.lemmas.List.{take_at, drop_at}
use Rattle.outlet.specs.Entries.{Entry, cube, learnt, OutletLaws}
use Rattle.outlet.specs.Memory.{kept_none, kept_more}
use Rattle.outlet.specs.Numbers.{numbers, HoldsNumbers, KeepsNumbers}

-- lists with fronts of one length are equal part by part
pub front_same : {X : Type 0} (ls ks rs ss : List X) → length ls ≡ length ks → ls ++ rs ≡ ks ++ ss → ls ≡ ks
front_same ls ks rs ss n e = sym (take_at ls rs (length ks) n) ∙ ap (take (length ks)) e ∙ take_at ks ss (length ks) refl

pub rest_same : {X : Type 0} (ls ks rs ss : List X) → length ls ≡ length ks → ls ++ rs ≡ ks ++ ss → rs ≡ ss
rest_same ls ks rs ss n e = sym (drop_at ls rs (length ks) n) ∙ ap (drop (length ks)) e ∙ drop_at ks ss (length ks) refl

pub numbers_told : (es fs : List Entry) → numbers es ≡ numbers fs → es ≡ fs
numbers_told [] [] h = refl
numbers_told [] (cube ks ∷ fs) h = cc
numbers_told [] (learnt ks ∷ fs) h = cc
numbers_told (cube ls ∷ es) [] h = cc
numbers_told (learnt ls ∷ es) [] h = cc
numbers_told (cube ls ∷ es) (learnt ks ∷ fs) h = cc
numbers_told (learnt ls ∷ es) (cube ks ∷ fs) h = cc
numbers_told (cube ls ∷ es) (cube ks ∷ fs) h =
    let n : length ls ≡ length ks = cc in
    let r : ls ++ numbers es ≡ ks ++ numbers fs = cc in
    ap (λ ms. cube ms ∷ es) (front_same ls ks (numbers es) (numbers fs) n r)
    ∙ ap (λ gs. cube ks ∷ gs) (numbers_told es fs (rest_same ls ks (numbers es) (numbers fs) n r))
numbers_told (learnt ls ∷ es) (learnt ks ∷ fs) h =
    let n : length ls ≡ length ks = cc in
    let r : ls ++ numbers es ≡ ks ++ numbers fs = cc in
    ap (λ ms. learnt ms ∷ es) (front_same ls ks (numbers es) (numbers fs) n r)
    ∙ ap (λ gs. learnt ks ∷ gs) (numbers_told es fs (rest_same ls ks (numbers es) (numbers fs) n r))

pub number_laws : OutletLaws HoldsNumbers KeepsNumbers
number_laws = record {
  one_list = λ o es fs m n. numbers_told es fs (sym m.held ∙ n.held);
  keeps_none = λ o. kept_none o.numbers;
  keeps_more = λ o p q. kept_more o.numbers p.numbers q.numbers;
}
