use Rattle.std.proofs.Common.{◌<◌, length, refl, rules}
use Rattle.roster.proofs.Holding.{opened_some}
use Rattle.roster.proofs.writing.lay_out.Goals as goal

pub returns-in-Some : goal.returns-in-Some
returns-in-Some g c =
    let some : 0 < length c.args.cells.now = search rules in
    opened_some g.met.F.Ring.laws g.F.Ring.plain (length c.args.cells.now) c.args.whole c.wipe.new.cells _ some c.wipe.ensures c.to_plain.ensures (cc) refl
