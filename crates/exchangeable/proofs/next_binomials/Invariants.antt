use Rattle.std.proofs.Common.{◌≡◌, ℕ, ◌+◌, ◌<◌, ◌≤◌, ◌∷◌, get_or}
use Rattle.exchangeable.proofs.next_binomials.Given as goal

-- The places so far have taken on the one before, and the rest is as it was.
abbrev pub invariant-loop-entry : goal.invariant-loop-entry
invariant-loop-entry l =
    (l.before ≡ get_or (1 ∷ l.initial.inner) l.entry-index 0)
    × ((k : ℕ) → k < l.entry-index → get_or l.inner k 0 ≡ get_or (1 ∷ l.initial.inner) k 0 + get_or l.initial.inner k 0)
    × ((k : ℕ) → l.entry-index ≤ k → get_or l.inner k 0 ≡ get_or l.initial.inner k 0)
