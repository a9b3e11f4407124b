use Rattle.std.proofs.Common.{◌≡◌, ℕ, ◌+◌, length}
use Rattle.roster.specs.Cells.{Holds}
use Rattle.roster.specs.Ledger.{Ledger, figures}
use Rattle.roster.proofs.RowsTriangle.{Weighing}
use Rattle.roster.proofs.tables.weigh.Given as goal

abbrev pub invariant-loop-r : goal.invariant-loop-r
invariant-loop-r g l =
    let o = g.F.Ring.ops in
    let plain = g.F.Ring.plain in
    (size : ℕ) (led : Ledger g.row.F.Denot) → Holds o plain size led l.cells → length l.initial.row ≡ length led.lives + 1
    → Weighing o plain led.whole (figures led.lives) l.r l.power l.row
