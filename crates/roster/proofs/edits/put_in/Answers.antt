use Rattle.roster.proofs.Holding.{put_in_held}
use Rattle.roster.proofs.edits.put_in.Goals as goal

pub returns : goal.returns
returns g c size l held counted room some =
    put_in_held g.met.F.Ring.laws g.F.Ring.plain g.F.Ring.figure g.met.F.Ring.back size l c.args.n c.args.number c.args.figure c.args.cells.now _ c.index-cells-n.result c.to_plain-life.result
    held counted room some (cc) c.to_plain-life.ensures
