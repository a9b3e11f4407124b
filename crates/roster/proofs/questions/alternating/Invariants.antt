use Rattle.std.proofs.Common.{◌≡◌, ℕ}
use Rattle.algebra.specs.Waring.{signed}
use Rattle.algebra.proofs.Waring.{horner, summand}
use Rattle.roster.specs.Cells.{Holds}
use Rattle.roster.specs.Ledger.{Ledger, figures}
use Rattle.roster.proofs.questions.alternating.Given as goal

abbrev pub invariant-loop-t : goal.invariant-loop-t
invariant-loop-t g l =
    let o = g.F.Ring.ops in
    (size : ℕ) (led : Ledger g.row.F.Denot) → Holds o g.F.Ring.plain size led l.cells → o.minus l.sum ≡ signed o l.t (horner o led.whole (summand o (figures led.lives) l.j l.k) l.t)
