use Rattle.roster.proofs.Holding.{take_out_held}
use Rattle.roster.proofs.edits.take_out.Goals as goal

pub returns : goal.returns
returns g c size l number held counted found =
    take_out_held g.met.F.Ring.laws g.F.Ring.plain g.F.Ring.figure g.met.F.Ring.back number c.args.n c.args.place
    c.index-cells-place.result c.from_plain-out.result held found counted c.requires.0 c.from_plain-out.ensures
    _ c.close_gap.new.cells (cc) c.close_gap.ensures
