use Rattle.std.proofs.Common.{◌-◌, ap, ◌∙◌, arith}
use Rattle.roster.proofs.RowsTriangle.{differences_down}
use Rattle.roster.proofs.tables.differences.Goals as goal

pub loop-r-preserved : goal.loop-r-preserved
loop-r-preserved g c =
    differences_down g.F.Ring.ops g.F.Ring.plain g.F.Ring.figure c.args.row.now c.loop-r.row c.loop-r.r (c.loop-r.r - 1)
    c.index-row-r.result c.from_plain.result c.loop-r.above c.neg.result c.add-above.result c.to_plain.result (omega arith) (omega arith) c.loop-r.invariant
    (c.from_plain.ensures ∙ ap g.F.Ring.figure c.index-row-r.is) c.neg.ensures c.add-above.ensures c.to_plain.ensures
