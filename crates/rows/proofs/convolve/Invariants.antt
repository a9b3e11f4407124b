use Rattle.std.proofs.Common.{length}
use Rattle.algebra.specs.Ring.{semi}
use Rattle.rows.proofs.Convolving.{UpTo}
use Rattle.rows.proofs.convolve.Given as goal

abbrev pub invariant-loop-i : goal.invariant-loop-i
invariant-loop-i g l = UpTo (semi g.F.Ring.ops) g.F.Ring.figure g.F.Ring.plain l.first l.second (length l.initial.row) l.i l.row
