use Rattle.text.specs.Reading.{left}
use Rattle.survivorship.proofs.sessions.run.Given as goal

abbrev pub decreases-loop-words : goal.decreases-loop-words
decreases-loop-words l = left l.console.lines
