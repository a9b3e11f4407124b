use Rattle.std.proofs.Common.{◌≡◌, ◌++◌, take, drop}
use Rattle.algebra.specs.Ring.{semi}
use Rattle.roster.proofs.RowsComposed.{composed}
use Rattle.roster.proofs.tables.compose.Given as goal

-- What is done, followed by the pass over the rest, is the whole pass.
abbrev pub invariant-loop-entry : goal.invariant-loop-entry
invariant-loop-entry g l =
    let pass = composed (semi g.F.Ring.ops) g.F.Ring.plain g.F.Ring.figure (record { alive = l.alive; dead = l.dead }) in
    take l.entry-index l.row ++ pass l.below (drop l.entry-index l.row) ≡ pass l.initial.below l.initial.row
