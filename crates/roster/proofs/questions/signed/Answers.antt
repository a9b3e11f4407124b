use Rattle.std.proofs.Common.{◌∙◌, arith}
use Rattle.roster.proofs.QuestionsSums.{signed_even, signed_odd}
use Rattle.roster.proofs.questions.signed.Goals as goal

pub returns-then-t-eq0 : goal.returns-then-t-eq0
returns-then-t-eq0 g c = signed_even g.met.F.Ring.laws c.args.t c.args.x (omega arith)

pub returns-else-t-eq0 : goal.returns-else-t-eq0
returns-else-t-eq0 g c = c.neg.ensures ∙ signed_odd g.met.F.Ring.laws c.args.t c.args.x (omega arith)
