use Rattle.std.proofs.Common.{refl}
use lib.Count.{count_trailing_zeros}
use lib.Ieee.{odd}
use Rattle.examples.proofs.examples_follow.Goals as goal

-- Whole numbers as floats take their trailing zeros off.
pub returns : goal.returns
unfolding odd count_trailing_zeros
returns c = refl
