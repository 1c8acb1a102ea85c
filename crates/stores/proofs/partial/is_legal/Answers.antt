use Rattle.std.proofs.Common.{sym, ◌∙◌, arith}
use Rattle.stores.proofs.Bytes.{legal_no, legal_yes, legal_end}
use Rattle.stores.proofs.partial.is_legal.Goals as goal

pub returns-then-b-gt2 : goal.returns-then-b-gt2
returns-then-b-gt2 c = sym (legal_no c.args.bytes.now c.loop-b.b-index (omega arith) (omega arith)) ∙ c.loop-b.invariant

pub loop-b-preserved : goal.loop-b-preserved
loop-b-preserved c = sym (legal_yes c.args.bytes.now c.loop-b.b-index (omega arith) (omega arith)) ∙ c.loop-b.invariant

pub returns : goal.returns
returns c = sym (legal_end c.args.bytes.now c.loop-b.b-index (omega arith)) ∙ c.loop-b.invariant
