use Rattle.roster.proofs.Gaps.{Closing}
use Rattle.roster.proofs.writing.close_gap.Given as goal

abbrev pub invariant-loop-k : goal.invariant-loop-k
invariant-loop-k g l = Closing (g.F.Ring.plain g.F.Ring.ops.zero) l.place l.n l.initial.cells l.k l.cells
