use Rattle.roster.proofs.Runs.{follows}
use Rattle.roster.proofs.theorems.chains_follow_the_ledger.Goals as goal

pub returns : goal.returns
returns g c = λ size d before after calls gives h chain. follows g.F.Ring.ops g.F.Ring.plain size _ h chain
