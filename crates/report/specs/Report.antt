-- What `split` writes for an input.
use Rattle.std.specs.Prelude.{ℕ, cond, List, ◌++◌, length, take, drop, Some, None, Ok, Err, codes, decimal, Option, Result, nat_le, nat_lt}
use Rattle.std.specs.Str.{bytes_eq}
use Rattle.rules.specs.declared.fault.Fault.{Fault}
use Rattle.rules.specs.declared.fault.Reason.TheVariants.{Input}
use Rattle.reader.specs.declared.counts.Counts.{Counts}
use Rattle.reader.specs.Numerals.{numeral}
use Rattle.reader.specs.Runs.{line_of, after_line}
use Rattle.rules.specs.Faults.{number_of, faulty}
use Rattle.reader.specs.Reading.{parse, answer}

-- a refusal: its number and its place
abbrev pub refused_line : Fault → List ℕ
refused_line f = codes "refused," ++ (decimal (number_of f.reason) ++ (codes "," ++ (decimal f.place ++ codes "\n")))

-- a text that was accepted: its variables, clauses and odd rules
abbrev pub read_line : ℕ → ℕ → ℕ → List ℕ
read_line n c o = codes "read," ++ (decimal n ++ (codes "," ++ (decimal c ++ (codes "," ++ (decimal o ++ codes "\n")))))

-- a depth is at most 2,048
abbrev pub at_most_deepest : ℕ → Option ℕ
at_most_deepest d = cond (nat_le d 2048) (Some d) None

abbrev pub depth_by : Option ℕ → Option ℕ
depth_by None = None
depth_by (Some d) = at_most_deepest d

-- the line `depth,D`
abbrev pub depth_in : List ℕ → Option ℕ
depth_in line = cond (bytes_eq (take 6 line) (codes "depth,")) (depth_by (numeral (drop 6 line))) None

abbrev pub report_line : Result Counts Fault → List ℕ
report_line (Ok k) = read_line k.variables k.clauses.rules k.odds.rules
report_line (Err f) = refused_line f

-- a rule file, whose places count from its own start, read into two tables of 16,384 numbers
abbrev pub text_line : List ℕ → List ℕ
text_line text = report_line (answer (length text) 16384 16384 (parse text))

abbrev pub after_depth : Option ℕ → List ℕ → List ℕ
after_depth None text = refused_line (faulty Input 0)
after_depth (Some d) text = text_line text

-- an input of at most 65,536 bytes: the line with the depth, then the rule file
abbrev pub report_of : List ℕ → List ℕ
report_of input = cond (nat_lt 65536 (length input)) (refused_line (faulty Input 0)) (after_depth (depth_in (line_of input)) (after_line input))
