use Rattle.std.proofs.Common.{◌-◌, arith}
use Rattle.std.proofs.lemmas.List.{length-map}
use Rattle.roster.specs.Ledger.{figures}
use Rattle.roster.proofs.QuestionsRead.{read_figure, read_sum}
use Rattle.roster.proofs.RowsTriangle.{weighing_more}
use Rattle.roster.proofs.tables.weigh.Goals as goal

pub loop-r-preserved : goal.loop-r-preserved
loop-r-preserved g c size led held lives =
    let back = g.met.F.Ring.back in
    let figure = g.F.Ring.figure in
    let r = c.loop-r.r - 1 in
    weighing_more g.F.Ring.ops g.F.Ring.plain led.whole (figures led.lives) g.met.F.Ring.laws c.loop-r.r r
    c.loop-r.power c.from_plain-whole.result c.from_plain.result c.mul.result c.mul-power.result c.to_plain.result c.loop-r.row
    (omega arith) (rw length-map (omega arith)) (omega arith) (c.loop-r.invariant size led held lives)
    (read_figure figure back held 0 c.index-cells-0.result c.from_plain-whole.result c.requires.0 c.from_plain-whole.ensures)
    (read_sum figure back held r c.index-cells-r.result c.from_plain.result (omega arith) c.from_plain.ensures)
    c.mul.ensures c.to_plain.ensures c.mul-power.ensures
