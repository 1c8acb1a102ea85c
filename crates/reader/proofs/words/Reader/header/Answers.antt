use Rattle.std.proofs.Common.{◌≡◌, ◌+◌, min, length, take, drop, sym, ap, ◌∙◌, subst}
use Rattle.reader.specs.Runs.{line_len}
use Rattle.reader.specs.declared.cursor.Mode.TheVariants.{Start}
use Rattle.reader.specs.Left.{left}
use Rattle.reader.specs.Tokens.{ahead}
use Rattle.reader.specs.Turns.{HeaderRead}
use Rattle.reader.proofs.Lining.{line_skipped, line_told, read_before}
use Rattle.reader.proofs.words.Reader.header.Goals as goal
use Rattle.reader.proofs.words.Reader.header.Goals.{After-next_line-line}

-- the line and the next place, in the text as it was lent
module _ (c : After-next_line-line) where
  here : c.next_line-line.result.now ≡ take (line_len (drop c.loop-self.self.at c.args.self.now.text.now)) (drop c.loop-self.self.at c.args.self.now.text.now)
  here =
      subst (λ t. c.next_line-line.result.now ≡ take (line_len (drop c.loop-self.self.at t)) (drop c.loop-self.self.at t))
      (ap (λ r. r.now) c.loop-self.invariant.0) c.next_line-line.ensures.line

  on : c.next_line-line.new.self.at ≡ min (c.loop-self.self.at + line_len (drop c.loop-self.self.at c.args.self.now.text.now) + 1) (length c.args.self.now.text.now)
  on =
      subst (λ t. c.next_line-line.new.self.at ≡ min (c.loop-self.self.at + line_len (drop c.loop-self.self.at t) + 1) (length t))
      (ap (λ r. r.now) c.loop-self.invariant.0) c.next_line-line.ensures.at

pub returns-then-not-is_skipped-clause-read : goal.returns-then-not-is_skipped-clause-read
returns-then-not-is_skipped-clause-read c =
    let n = (goal.at.returns-then-not-is_skipped-clause-read c).After-next_line-line in
    let x = c.next_line-line.new.self in
    let t = c.args.self.now.text.now in
    let told = line_told t c.loop-self.self.at x.at c.next_line-line.result.now c.loop-self-test.true (here n) (on n) c.header.result c.if-not-is_skipped.ensures c.header.ensures in
    let same : ahead t x.at Start ≡ left x = λ i. ahead (sym (c.next_line-line.ensures.text ∙ c.loop-self.invariant.0) i).now x.at (sym c.next_line-line.ensures.mode i) in
    subst (λ ts. HeaderRead t c.args.self.now.at ts c.header.result) same (read_before t _ _ _ _ c.loop-self.invariant.1 told)

pub loop-self-preserved : goal.loop-self-preserved
loop-self-preserved c =
    let n = (goal.at.loop-self-preserved c).After-next_line-line in (
      c.next_line-line.ensures.text ∙ c.loop-self.invariant.0,
      line_skipped c.args.self.now.text.now c.loop-self.self.at c.next_line-line.new.self.at c.next_line-line.result.now c.loop-self-test.true (here n) (on n) c.if-not-is_skipped.ensures ∙ c.loop-self.invariant.1,
    )
