use Rattle.std.proofs.Common.{◌≡◌, ℕ, ◌<◌, ◌≤◌, length, take}
use Rattle.std.specs.Option.{IfSome}
use Rattle.roster.specs.Ledger.{Ledger, place_of}
use Rattle.roster.specs.Cells.{Holds}
use Rattle.roster.proofs.rosters.Roster.search.Given as goal

-- The cells so far hold lives, and the number's place is sought among these.
abbrev pub invariant-loop-life : goal.invariant-loop-life
invariant-loop-life g l =
    (l.found.lives ≡ l.life-index)
    × IfSome l.found.place (λ k. (0 < k) × (k ≤ l.life-index))
    × ((size : ℕ) (led : Ledger g.row.F.Denot) → Holds g.F.Ring.ops g.F.Ring.plain size led l.self.cells.now
    → (l.life-index ≤ length led.lives) × (l.found.place ≡ place_of l.number (take l.life-index led.lives)))
