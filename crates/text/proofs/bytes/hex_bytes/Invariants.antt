use Rattle.std.proofs.Common.{◌≡◌, drop, vec_items}
use Rattle.text.specs.Text.{hex_bytes}
use Rattle.text.proofs.Digits.{onto, pairs_read}
use Rattle.text.proofs.bytes.hex_bytes.Given as goal

abbrev pub invariant-loop-high : goal.invariant-loop-high
invariant-loop-high l = onto (vec_items l.bytes) (pairs_read (drop l.high-index l.pairs)) ≡ hex_bytes l.word
