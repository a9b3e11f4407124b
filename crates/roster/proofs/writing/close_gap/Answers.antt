use Rattle.std.proofs.Common.{arith}
use Rattle.roster.proofs.Gaps.{closing_start, closing_step, closing_end}
use Rattle.roster.proofs.writing.close_gap.Goals as goal

pub loop-k-init : goal.loop-k-init
loop-k-init g c = closing_start (g.F.Ring.plain g.F.Ring.ops.zero) c.args.place c.args.n c.args.cells.now

pub loop-k-preserved : goal.loop-k-preserved
loop-k-preserved g c =
    closing_step (g.F.Ring.plain g.F.Ring.ops.zero) c.args.place c.args.n c.args.cells.now c.loop-k.cells c.loop-k.k c.index-cells-k.result c.index-cells-k-in-loop-k.result
    (omega arith) (omega arith) c.index-cells-k.is c.loop-k.invariant

pub returns : goal.returns
returns g c below =
    closing_end (g.F.Ring.plain g.F.Ring.ops.zero) c.args.place c.args.n c.args.cells.now c.loop-k.cells c.loop-k.k c.index-cells-n.result c.to_plain-last.result
    (omega (arith, c.loop-k.auto.k-end below)) below (omega arith) (cc) c.loop-k.invariant
