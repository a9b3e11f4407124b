use Rattle.std.proofs.Common.{◌≡◌, ◌<◌, ◌≤◌, ◌++◌, take, drop}
use Rattle.money.specs.Money.{pass, whole}
use Rattle.money.proofs.add_life.Given as goal

-- The rest is as it was, and what is done, followed by the pass over the rest, is the whole pass.
abbrev pub invariant-loop-cell : goal.invariant-loop-cell
invariant-loop-cell l =
    (l.below ≤ whole) × (l.carry < whole)
    × (drop l.cell-index l.row ≡ drop l.cell-index l.initial.row)
    × (take l.cell-index l.row ++ pass l.p l.below l.carry (drop l.cell-index l.initial.row)
    ≡ pass l.p 0 0 l.initial.row)
