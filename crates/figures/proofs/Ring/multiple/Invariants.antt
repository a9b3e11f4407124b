use Rattle.std.proofs.Common.{◌≡◌}
use Rattle.algebra.specs.Sums.{multiple}
use Rattle.figures.proofs.Ring.multiple.Given as goal

abbrev pub invariant-loop-left : goal.invariant-loop-left
invariant-loop-left g l = let o = g.Self.Ring.ops in o.plus l.sum (multiple o l.left l.doubled) ≡ multiple o l.initial.left l.initial.doubled

abbrev pub decreases-loop-left : goal.decreases-loop-left
decreases-loop-left g l = l.left
