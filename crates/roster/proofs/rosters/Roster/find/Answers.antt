use Rattle.roster.proofs.rosters.Roster.find.Goals as goal

pub returns-clause-found : goal.returns-clause-found
returns-clause-found g c size l held = (c.search.ensures.found size l held).1
