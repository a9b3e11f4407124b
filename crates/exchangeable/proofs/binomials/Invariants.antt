use Rattle.std.proofs.Common.{◌≡◌, ℕ, ◌-◌, ◌<◌, get_or}
use Rattle.algebra.specs.Binomial.{choose}
use Rattle.exchangeable.proofs.binomials.Given as goal

abbrev pub invariant-loop-n : goal.invariant-loop-n
invariant-loop-n l = (k : ℕ) → k < l.n → get_or l.row k 0 ≡ choose (l.n - 1) k
