use Rattle.std.proofs.Common.{◌≡◌, ℕ, ◌+◌, ◌-◌, ◌<◌, ◌≤◌, get_or, pos}
use Rattle.exchangeable.specs.Events.{value}
use Rattle.exchangeable.proofs.Table.extend.Given as goal

-- The places from k on have the new column, `above` being its entry at k, and those below k the old one.
abbrev pub invariant-loop-k : goal.invariant-loop-k
invariant-loop-k l =
    ((j : ℕ) → l.k ≤ j → j < l.m + 1 → get_or l.values j (pos 0) ≡ value l.self.coefficients.now j l.m)
    × ((j : ℕ) → j < l.k → get_or l.values j (pos 0) ≡ value l.self.coefficients.now j (l.m - 1))
    × (l.above ≡ value l.self.coefficients.now l.k l.m)
