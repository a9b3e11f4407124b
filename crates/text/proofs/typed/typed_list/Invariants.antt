use Rattle.std.proofs.Common.{◌≡◌, Some, map, take, vec_items}
use Rattle.text.proofs.typed.typed_list.Given as goal

abbrev pub invariant-loop-word : goal.invariant-loop-word
invariant-loop-word g l = map Some (vec_items l.list) ≡ map (λ word. g.P.Typed.reads word.now) (take l.word-index l.words)
