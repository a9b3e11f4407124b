use Rattle.std.proofs.Common.{◌≡◌, ◌++◌, take, drop}
use Rattle.algebra.proofs.Composition.{compose}
use Rattle.counts.specs.Floats.{floats}
use Rattle.counts.proofs.compose.Given as goal

-- What is done, followed by the pass over the rest, is the whole pass.
abbrev pub invariant-loop-entry : goal.invariant-loop-entry
invariant-loop-entry l =
    let pass = compose floats (record { alive = l.alive; dead = l.dead }) in
    take l.entry-index l.row ++ pass l.below (drop l.entry-index l.row) ≡ pass l.initial.below l.initial.row
