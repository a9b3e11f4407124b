use Rattle.roster.proofs.Holding.{alter_held}
use Rattle.roster.proofs.edits.alter.Goals as goal

pub returns : goal.returns
returns g c size l number held counted found =
    alter_held g.met.F.Ring.laws g.F.Ring.plain g.F.Ring.figure g.met.F.Ring.back number c.args.n c.args.place
    c.index-cells-place.result c.from_plain-out.result held found counted c.requires.0 c.from_plain-out.ensures
    _ c.index-cells-place-2.result c.args.figure c.to_plain.result (cc) c.to_plain.ensures
