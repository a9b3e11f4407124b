use Rattle.std.proofs.Common.{◌≡◌, ℕ, ◌+◌, ◌++◌, map, take, drop}
use Rattle.algebra.specs.Ring.{semi}
use Rattle.algebra.specs.Rows.{row}
use Rattle.algebra.specs.Sums.{against}
use Rattle.roster.specs.Cells.{Holds}
use Rattle.roster.specs.Ledger.{Ledger, figures}
use Rattle.roster.proofs.rosters.Roster.composed_row.Given as goal

-- The row of the first i lives.
abbrev pub invariant-loop-i : goal.invariant-loop-i
invariant-loop-i g l =
    let o = g.F.Ring.ops in
    let plain = g.F.Ring.plain in
    (size : ℕ) (led : Ledger g.row.F.Denot) → Holds o plain size led l.self.cells.now
    → l.table ≡ map plain (row (semi o) (l.i + 1) (against o led.whole (take l.i (figures led.lives)))) ++ drop (l.i + 1) l.initial.table
