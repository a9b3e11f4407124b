use Rattle.std.proofs.Common.{◌≡◌, ℕ, ◌-◌, ◌<◌, get_or, pos}
use Rattle.exchangeable.specs.Events.{value}
use Rattle.exchangeable.proofs.Table.extend_to.Given as goal

abbrev pub invariant-loop-m : goal.invariant-loop-m
invariant-loop-m l = (k : ℕ) → k < l.m → get_or l.values k (pos 0) ≡ value l.self.coefficients.now k (l.m - 1)
