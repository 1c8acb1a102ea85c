use Rattle.std.proofs.Common.{cond, ap, ◌∙◌}
use mathlib.Core.Option.{some}
use Rattle.meaning.specs.Tables.{rule_fault}
use Rattle.meaning.proofs.Faults.{faults_mean}
use Rattle.meaning.proofs.Tables.{opens_rules}
use Rattle.tables.proofs.table.Table.check.Goals as goal

pub returns-then-beyond_limits : goal.returns-then-beyond_limits
returns-then-beyond_limits c =
    record {
      value = ap (λ b. cond b (some (19, 0)) (rule_fault c.args.vars c.args.table.now)) c.if-beyond_limits.ensures;
      rules = opens_rules c.args.vars c.args.table.now;
      faults = faults_mean c.args.vars c.args.table.now;
    }

pub returns : goal.returns
returns c =
    record {
      value = c.check_rules.ensures ∙ ap (λ b. cond b (some (19, 0)) (rule_fault c.args.vars c.args.table.now)) c.if-beyond_limits.ensures;
      rules = opens_rules c.args.vars c.args.table.now;
      faults = faults_mean c.args.vars c.args.table.now;
    }
