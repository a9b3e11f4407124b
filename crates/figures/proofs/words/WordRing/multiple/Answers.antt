use Rattle.std.proofs.Common.{◌^◌, sym}
use Rattle.figures.specs.Words.{ops}
use Rattle.figures.specs.Same.{same_word}
use Rattle.figures.specs.Modular.{multiple_mod, word_modular}
use Rattle.figures.proofs.words.WordRing.multiple.Goals as goal

pub returns : goal.returns
returns c = same_word _ _ (sym (multiple_mod (2 ^ 64) (λ x. x.number) ops word_modular c.args.times c.args.self))
