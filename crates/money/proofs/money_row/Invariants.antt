use Rattle.std.proofs.Common.{◌≡◌, ◌+◌, ◌++◌, take, drop}
use Rattle.money.specs.Money.{money_row}
use Rattle.money.proofs.money_row.Given as goal

-- The row of the lives so far, and then the entries as they were.
abbrev pub invariant-loop-i : goal.invariant-loop-i
invariant-loop-i l = l.row ≡ money_row (take l.i l.lives) ++ drop (l.i + 1) l.initial.row
