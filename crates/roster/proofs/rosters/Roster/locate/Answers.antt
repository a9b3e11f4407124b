use Rattle.std.proofs.Common.{Some, None, sym, ◌∙◌}
use Rattle.roster.proofs.Calls.{leaves}
use Rattle.roster.proofs.rosters.Roster.locate.Goals as goal

pub returns-in-None-clause-found : goal.returns-in-None-clause-found
returns-in-None-clause-found g c size l held =
    let found = c.search-found.ensures.found size l held in
    (leaves g.F.Ring.ops g.F.Ring.plain c.args.number c.if-number-eq0.false l None (sym c.in-None.is ∙ found.1), tt)

pub returns-in-Some-clause-found : goal.returns-in-Some-clause-found
returns-in-Some-clause-found g c size l held =
    let found = c.search-found.ensures.found size l held in
    let at = sym c.in-Some.is ∙ found.1 in
    (leaves g.F.Ring.ops g.F.Ring.plain c.args.number c.if-number-eq0.false l (Some c.in-Some.place) at, (sym at, found.0))
