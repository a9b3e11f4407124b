use Rattle.roster.proofs.rosters.Roster.lives.Goals as goal

pub returns-clause-counted : goal.returns-clause-counted
returns-clause-counted g c size l held = (c.search.ensures.found size l held).0
