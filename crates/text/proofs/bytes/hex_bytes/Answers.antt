use Rattle.std.proofs.Common.{◌≡◌, ◌+◌, ◌<◌, ◌%◌, [], length, drop, vec_items, sym, ap, ◌∙◌, arith}
use Rattle.text.specs.Text.{hex_bytes}
use Rattle.text.proofs.Digits.{onto, pairs_read, hex_odd, pairs_first, pair_more, pair_high, pair_low, pairs_all}
use Rattle.text.proofs.bytes.hex_bytes.Goals as goal
use Rattle.text.proofs.bytes.hex_bytes.Goals.{in_default-2-via-in-Some+in_default, in_default-2-via-in_default}

pub returns-in_default : goal.returns-in_default
returns-in_default c = sym (hex_odd c.args.word.now (omega arith))

pub returns-in_default-2 : goal.returns-in_default-2
returns-in_default-2 c =
    let h : c.loop-high.high-index < length c.as_chunks.result.0.now = omega arith in
    let xs = vec_items c.loop-high.bytes in
    let inv = c.loop-high.invariant in
    elim c.in_default-2.branch [
      | in_default-2-via-in-Some+in_default w ↦ sym (pair_low c.as_chunks.result.0.now c.loop-high.high-index [] h xs (hex_bytes c.args.word.now) inv w.in_default-2.ensures'.value)
      | in_default-2-via-in_default w ↦
          sym (pair_high c.as_chunks.result.0.now c.loop-high.high-index [] h xs (hex_bytes c.args.word.now) inv (sym w.in_default-2.is-0 ∙ c.hex_digit.ensures.value))
    ]

pub loop-high-init : goal.loop-high-init
loop-high-init c =
    let even : length c.args.word.now % 2 ≡ 0 = omega arith in
    ap (λ xs. onto xs (pairs_read (drop 0 c.as_chunks.result.0.now))) c.new-bytes.ensures.items
    ∙ ap (λ ps. onto [] (pairs_read (drop 0 ps))) c.as_chunks.ensures.front ∙ pairs_first c.args.word.now even

pub loop-high-preserved : goal.loop-high-preserved
loop-high-preserved c =
    ap (λ xs. onto xs (pairs_read (drop (c.loop-high.high-index + 1) c.as_chunks.result.0.now))) c.in_ok-push.ensures.items
    ∙ pair_more c.as_chunks.result.0.now c.loop-high.high-index [] (omega arith) (vec_items c.loop-high.bytes) (hex_bytes c.args.word.now) c.loop-high.invariant
    c.in-Some-Some.high c.in-Some-Some.low c.in-Some-Some.ensures.value c.in-Some-Some.ensures'.value

pub returns : goal.returns
returns c = sym (pairs_all c.as_chunks.result.0.now c.loop-high.high-index (vec_items c.loop-high.bytes) (hex_bytes c.args.word.now) (omega arith) c.loop-high.invariant)
