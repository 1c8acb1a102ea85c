-- The line that is written, by what was read.
use Rattle.std.proofs.Common.{◌≡◌, ℕ, List, length, Result, ap, ◌∙◌}
use Rattle.rules.specs.declared.fault.Fault.{Fault}
use Rattle.reader.specs.declared.counts.Counts.{Counts}
use Rattle.reader.specs.Reading.{parse, answer}
use Rattle.report.specs.Report.{report_line, text_line}

pub reported : (text : List ℕ) (c o : ℕ) (r : Result Counts Fault) → c ≡ 16384 → o ≡ 16384 → r ≡ answer (length text) c o (parse text) → report_line r ≡ text_line text
reported text c o r ec eo e = ap report_line (e ∙ (λ i. answer (length text) (ec i) (eo i) (parse text)))
