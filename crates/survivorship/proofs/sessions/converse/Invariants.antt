use Rattle.std.proofs.Common.{◌≤◌}
use Rattle.text.specs.Reading.{left}
use Rattle.survivorship.proofs.sessions.converse.Given as goal

abbrev pub invariant-loop-words : goal.invariant-loop-words
invariant-loop-words g l = left l.console.lines ≤ left l.initial.console.lines

abbrev pub decreases-loop-words : goal.decreases-loop-words
decreases-loop-words g l = left l.console.lines
