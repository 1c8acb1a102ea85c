use Rattle.std.proofs.Common.{◌≡◌, ◌+◌, ◌-◌, ◌<◌, ◌∷◌, length, take, drop, sym, ap, ◌∙◌, arith}
use Rattle.std.proofs.lemmas.List.{take_rest, length-take-le}
use Rattle.reader.specs.declared.cursor.Mode.TheVariants.{Within}
use Rattle.reader.specs.Runs.{word_len}
use Rattle.reader.specs.Tokens.{token, ahead}
use Rattle.reader.proofs.Walks.{nothing_ahead, word_ahead, word_some}
use Rattle.reader.proofs.words.Reader.next_word.Goals as goal

pub returns-then-place-self-clause-word : goal.returns-then-place-self-clause-word
returns-then-place-self-clause-word c =
    let s = c.skip_gap.new.self in
    sym c.skip_gap.ensures.same ∙ nothing_ahead s.text.now s.at s.mode (omega arith)

pub returns-clause-word : goal.returns-clause-word
returns-clause-word c =
    let s = c.skip_gap.new.self in
    let rest = take (length s.text.now - s.at) (drop s.at s.text.now) in
    let from : rest ≡ drop s.at s.text.now = take_rest s.text.now s.at in
    let lt : s.at < length s.text.now = omega (arith, s.inside) in
    let is = c.skip_gap.ensures.stops lt in
    let size : c.word_len.result ≡ word_len (drop s.at s.text.now) = c.word_len.ensures.value ∙ ap word_len from in
    let long : length (take c.word_len.result rest) ≡ c.word_len.result = length-take-le c.word_len.result rest c.word_len.ensures.within in
    let on : s.at + length (take c.word_len.result rest) ≡ s.at + word_len (drop s.at s.text.now) = omega (arith, long, size) in (
      sym c.skip_gap.ensures.same
          ∙ (word_ahead s.text.now s.at s.mode lt is
          ∙ (λ i. token s.at (take (sym size i) (sym from i)) ∷ ahead s.text.now (sym on i) Within)),
      omega (arith, c.skip_gap.ensures.on, word_some s.text.now s.at s.mode lt is, on),
    )
