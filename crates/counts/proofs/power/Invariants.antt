use Rattle.std.proofs.Common.{◌≡◌, ◌^◌, ◌≤◌}
use Rattle.counts.specs.Answer.{most}
use Rattle.counts.specs.Floats.{float}
use Rattle.counts.proofs.power.Given as goal

-- The power so far, exactly.
abbrev pub invariant-loop : goal.invariant-loop
invariant-loop l = (l.product ≡ float (l.whole ^ l.counter)) × (l.whole ^ l.counter ≤ most)
