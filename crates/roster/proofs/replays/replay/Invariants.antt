use Rattle.std.proofs.Common.{◌≡◌}
use Rattle.roster.proofs.Runs.{Running}
use Rattle.roster.proofs.replays.replay.Given as goal

abbrev pub invariant-loop-exchange : goal.invariant-loop-exchange
invariant-loop-exchange g l =
    Running g.F.Ring.ops g.F.Ring.plain l.initial.roster.cells.now l.initial.exchanges l.exchange-index l.exchanges l.roster.cells.now
    × (l.roster.cells.ghost_name ≡ l.initial.roster.cells.ghost_name)
