use Rattle.std.proofs.Common.{◌-◌, length, take, drop, ap, ◌∙◌}
use Rattle.std.proofs.lemmas.List.{take_rest}
use Rattle.reader.proofs.Fields.{split_words, split_none}
use Rattle.reader.proofs.header.split_word.Goals as goal

pub returns : goal.returns
returns c =
    let line = c.args.line.now in
    let rest = take (length line - c.gap_len.result) (drop c.gap_len.result line) in
    let from = take_rest line c.gap_len.result ∙ ap (λ k. drop k line) c.gap_len.ensures.value in
    let first = c.split_at.ensures.front ∙ ap (λ k. take k rest) c.word_len.ensures.value in
    let after = c.split_at.ensures.back ∙ ap (λ k. drop k rest) c.word_len.ensures.value in
    record { words = split_words line rest _ _ from first after; none = split_none line rest _ _ from first after }
