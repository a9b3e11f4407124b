use Rattle.std.proofs.Common.{◌≡◌, [], ◌∷◌, ◌++◌, ◌+◌, map, drop, vec_items, ap, ◌∙◌, rules, arith}
use Rattle.std.proofs.lemmas.Iterator.{YieldsList-from_slice, YieldsList-from_map}
use Rattle.std.proofs.lemmas.Iterator.Adapters.{items_from_extend}
use Rattle.std.proofs.lemmas.Iterator.Consumers.{YieldsList-at}
use Rattle.std.specs.Slice.Iter.{iter_rest}
use Rattle.text.proofs.Echoes.{word_more}
use Rattle.text.specs.Text.{echoed, echoed_words}
use Rattle.text.proofs.bytes.echo_words.Goals as goal

pub loop-word-preserved : goal.loop-word-preserved
loop-word-preserved c =
    let h = items_from_extend c.extend.result c.extend.ensures.ran (YieldsList-from_map _ echoed (YieldsList-at c.map.ensures.source (YieldsList-from_slice (iter_rest c.iter.result) (cc))) c.map.ensures.closure (λ x r q k. search rules)) in
    let b : vec_items c.push.new.self ≡ (vec_items c.loop-word.echoed ++ map echoed (iter_rest c.iter.result)) ++ (32 ∷ []) = search rules in
    ap (λ t. t ++ echoed_words (map (λ word. word.now) (drop (c.loop-word.word-index + 1) c.args.words.now)))
    (b ∙ ap (λ word. (vec_items c.loop-word.echoed ++ map echoed word) ++ (32 ∷ [])) c.iter.ensures.rest)
    ∙ word_more c.args.words.now c.loop-word.word-index _ (vec_items c.loop-word.echoed) (omega arith) ∙ c.loop-word.invariant
