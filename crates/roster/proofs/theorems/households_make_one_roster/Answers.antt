use Rattle.roster.proofs.Households.{one_roster}
use Rattle.roster.proofs.theorems.households_make_one_roster.Goals as goal

pub returns : goal.returns
returns g c = λ l m both t u output same whole lives few. one_roster g.met.F.Ring.laws g.F.Ring.figure g.F.Ring.plain g.met.F.Ring.back l m both t u output same whole lives few
