use Rattle.std.proofs.Common.{◌≡◌, ◌≤◌}
use Rattle.text.specs.Reading.{left}
use Rattle.text.specs.Text.{commands}
use Rattle.text.proofs.words.Lines.next_command.Given as goal

abbrev pub invariant-loop-line : goal.invariant-loop-line
invariant-loop-line l = (left l.self ≤ left l.initial.self) × (commands l.self.rest.now ≡ commands l.initial.self.rest.now)

abbrev pub decreases-loop-line : goal.decreases-loop-line
decreases-loop-line l = left l.self
