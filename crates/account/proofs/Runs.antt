-- A list of calls with one more at its end.
use Rattle.std.proofs.Common.{◌≡◌, List, [], ◌∷◌, ◌++◌, refl, ap}
use Rattle.stores.specs.Stores.{Store}
use Rattle.account.specs.Account.{Account, Fitting, Call}
use Rattle.account.specs.Calls.{turn, run, answers}

module _ (s : Store) (fit : Fitting) where
  -- the last call turns the account that the others leave
  pub run_push : (t : Account) (cs : List Call) (c : Call) → run s fit t (cs ++ (c ∷ [])) ≡ (turn s fit (run s fit t cs) c).account
  unfolding run
  run_push t [] c = refl
  run_push t (b ∷ cs) c = run_push (turn s fit t b).account cs c

  -- and answers last
  pub answers_push : (t : Account) (cs : List Call) (c : Call) → answers s fit t (cs ++ (c ∷ [])) ≡ answers s fit t cs ++ ((turn s fit (run s fit t cs) c).answer ∷ [])
  unfolding run answers
  answers_push t [] c = refl
  answers_push t (b ∷ cs) c = ap (λ u. (turn s fit t b).answer ∷ u) (answers_push (turn s fit t b).account cs c)
