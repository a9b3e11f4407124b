use Rattle.algebra.proofs.Elementary.{at_least_zero_against}
use Rattle.algebra.proofs.Waring.{waring_exactly, waring_at_least}
use Rattle.roster.proofs.theorems.waring_sums_hold.Goals as goal

pub returns : goal.returns
returns g c = record {
  exactly = λ d ps k h. waring_exactly g.met.F.Ring.laws d ps k h;
  at_least = λ d ps k h i. waring_at_least g.met.F.Ring.laws d ps k h i;
  at_least_none = λ d ps. at_least_zero_against g.met.F.Ring.laws d ps;
}
