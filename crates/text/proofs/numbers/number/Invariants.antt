use Rattle.std.proofs.Common.{◌≡◌, ◌≤◌, drop}
use Rattle.text.proofs.Decimal.{rest}
use Rattle.text.specs.Text.{number_within}
use Rattle.text.proofs.numbers.number.Given as goal

abbrev pub invariant-loop-b : goal.invariant-loop-b
invariant-loop-b l = (rest l.limit l.n (drop l.b-index l.word) ≡ number_within l.limit l.word) × (l.n ≤ l.limit)
