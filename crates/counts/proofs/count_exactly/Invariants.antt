use Rattle.std.proofs.Common.{take}
use Rattle.algebra.specs.Patterns.{naturals, natural_lives}
use Rattle.algebra.proofs.Fronts.{Begun}
use Rattle.counts.specs.Floats.{float}
use Rattle.counts.proofs.count_exactly.Given as goal

-- The row of the lives so far, and then the entries as they were.
abbrev pub invariant-loop-i : goal.invariant-loop-i
invariant-loop-i l = Begun naturals float l.i (natural_lives l.whole (take l.i l.lives)) l.initial.work l.work
