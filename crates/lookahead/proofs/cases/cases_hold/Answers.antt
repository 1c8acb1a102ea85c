use Rattle.std.proofs.Common.{refl}
use lib.Ieee.{lt, mul, of_int, of_bits, to_bits, round}
use Rattle.stores.specs.Walks.{found, settled_from, gain_from}
use Rattle.closing.specs.Closing.{close_in, close}
use Rattle.lookahead.specs.Trials.{pass, lookahead}
use Rattle.lookahead.specs.Nodes.{node}
use Rattle.lookahead.specs.Cases.{CasesHold}
use Rattle.lookahead.proofs.cases.cases_hold.Goals as goal

table : CasesHold
unfolding found settled_from gain_from close_in close pass lookahead node lt mul of_int of_bits to_bits round
table =
    record {
      no_rules = refl;
      empty_clause = refl;
      both_fail = refl;
      one_fails = refl;
      necessary = refl;
      odd_scores = refl;
      odd_root = refl;
      odd_true_side = refl;
      odd_false_side = refl;
      odd_at_once = refl;
      later_scores = refl;
      lowest_wins = refl;
      clause_scores = refl;
      clause_firsts = refl;
      false_first = refl;
      share_two = refl;
      share_three = refl;
      two_set = refl;
      two_set_deeper = refl;
      three_set = refl;
      two_of_five = refl;
      three_of_five = refl;
      only_rises = refl;
      falls_deep = refl;
      falls_refuted = refl;
    }

pub returns : goal.returns
returns c = table
