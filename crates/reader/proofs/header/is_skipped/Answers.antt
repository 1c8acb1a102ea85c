use Rattle.std.proofs.Common.{◌∙◌}
use Rattle.reader.proofs.Fields.{skipped_blank}
use Rattle.reader.proofs.header.is_skipped.Goals as goal

pub returns-else-is_comment : goal.returns-else-is_comment
returns-else-is_comment c = c.all_blank.ensures ∙ skipped_blank c.args.line.now c.if-is_comment.ensures
