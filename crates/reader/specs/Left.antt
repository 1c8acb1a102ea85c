-- The words that a reader still meets.
use Rattle.std.specs.Prelude.{List}
use Rattle.reader.specs.declared.words.Reader.{Reader}
use Rattle.reader.specs.Tokens.{Token, ahead}

abbrev pub left : Reader → List Token
left r = ahead r.text.now r.at r.mode
