-- How much is still to be read.
use Rattle.std.specs.Prelude.{ℕ, length}
use Rattle.text.specs.declared.words.Lines.{Lines}

abbrev pub left : Lines → ℕ
left lines = length lines.rest.now
