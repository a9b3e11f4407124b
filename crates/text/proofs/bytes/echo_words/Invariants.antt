use Rattle.std.proofs.Common.{◌≡◌, ◌++◌, map, drop, vec_items}
use Rattle.text.specs.Text.{echoed_words}
use Rattle.text.proofs.bytes.echo_words.Given as goal

abbrev pub invariant-loop-word : goal.invariant-loop-word
invariant-loop-word l = vec_items l.echoed ++ echoed_words (map (λ word. word.now) (drop l.word-index l.words)) ≡ echoed_words (map (λ word. word.now) l.words)
