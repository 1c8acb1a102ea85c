use Rattle.std.proofs.Common.{◌≡◌, ap, ◌∙◌, rules}
use Rattle.outlet.specs.Memory.{laid}
use Rattle.outlet.proofs.Appending.{appended_laid}
use Rattle.lines.specs.Lines.{line}
use Rattle.lines.proofs.write.put_line.Goals as goal

pub returns-clause-memory : goal.returns-clause-memory
returns-clause-memory c =
    let s = c.keep_spares.new.self in
    let ws = line c.args.kind c.args.n c.args.lits.now in
    let a = c.put.ensures.line in
    let same = a.same in
    let at : s.len ≡ c.args.at = search rules in
    let memory = appended_laid s ws c.put.new.out a ∙ ap (λ n. laid s.cells.now n ws) at ∙ ap (λ xs. laid xs c.args.at ws) (c.keep_spares.ensures.memory ∙ c.new-text.ensures.memory) in
    search (rules, memory)
