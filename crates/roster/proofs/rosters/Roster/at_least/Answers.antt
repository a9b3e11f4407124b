use Rattle.roster.proofs.QuestionsRead.{asked, at_least_asked}
use Rattle.roster.proofs.rosters.Roster.at_least.Goals as goal

pub returns : goal.returns
returns g c size l held =
    let looked = c.in_ok-k.ensures in
    (at_least_asked g.F.Ring.plain g.met.F.Ring.laws l c.in_ok-k.k c.args.k c.tail.result looked.0 looked.1 (c.tail.ensures size l held), asked held _)
