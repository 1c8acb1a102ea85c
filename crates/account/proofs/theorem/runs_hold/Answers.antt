use Rattle.std.proofs.Common.{refl}
use lib.Ieee.{lt, mul, of_int}
use Rattle.stores.specs.Walks.{found, settled_from, gain_from}
use Rattle.closing.specs.Closing.{close_in, close}
use Rattle.lookahead.specs.Trials.{pass, lookahead}
use Rattle.lookahead.specs.Nodes.{node}
use Rattle.account.specs.Calls.{first_broken, turn, run, answers}
use Rattle.account.specs.Cases.{RunsHold}
use Rattle.account.proofs.theorem.runs_hold.Goals as goal

runs : RunsHold
unfolding lt mul of_int found settled_from gain_from close_in close pass lookahead node first_broken turn run answers
runs =
    record {
      nothing_asked = refl;
      nothing_kept = refl;
      empty_clause = refl;
      four_refuted = refl;
      four_learnt = refl;
      both_force = refl;
      common_set = refl;
      odd_told = refl;
      odd_written = refl;
      root_written = refl;
      root_open = refl;
      root_closed = refl;
      odd_offered = refl;
      half_goes_on = refl;
      half_cut = refl;
      half_written = refl;
      half_deeper = refl;
      half_of_four = (refl, refl);
    }

pub returns : goal.returns
returns c = runs
