use Rattle.std.proofs.Common.{◌≡◌, ℕ, ◌<◌, ◌≤◌, get_or, pos, ◌*ℤ◌}
use Rattle.exchangeable.proofs.multiply.Given as goal

-- The places below k have the products, and the others are as they were.
abbrev pub invariant-loop-k : goal.invariant-loop-k
invariant-loop-k l =
    ((j : ℕ) → j < l.k → pos (get_or l.row j 0) ≡ pos (get_or l.initial.row j 0) *ℤ get_or l.values j (pos 0))
    × ((j : ℕ) → l.k ≤ j → get_or l.row j 0 ≡ get_or l.initial.row j 0)
