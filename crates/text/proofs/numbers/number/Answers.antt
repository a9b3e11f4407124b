use Rattle.std.proofs.Common.{◌≡◌, ◌+◌, ◌-◌, ◌*◌, ◌<◌, true, false, length, get_or, drop, sym, ◌∙◌, arith, rules}
use Rattle.text.specs.Text.{digit}
use Rattle.text.proofs.Decimal.{one_more, too_large, ends}
use Rattle.text.proofs.numbers.number.Goals as goal

pub returns-then-not-is_ascii_digit : goal.returns-then-not-is_ascii_digit
returns-then-not-is_ascii_digit c =
    let d : digit (get_or c.args.word.now c.loop-b.b-index 0) ≡ false = search rules in
    let h : c.loop-b.b-index < length c.args.word.now = omega arith in
    record {
      value = sym (one_more c.args.limit c.loop-b.n c.loop-b.b-index c.args.word.now false h d) ∙ c.loop-b.invariant.0;
      bound = search rules;
    }

pub returns-then-next-limit : goal.returns-then-next-limit
returns-then-next-limit c =
    let d : digit (get_or c.args.word.now c.loop-b.b-index 0) ≡ true = search rules in
    let h : c.loop-b.b-index < length c.args.word.now = omega arith in
    let past : c.args.limit < c.loop-b.n * 10 + (get_or c.args.word.now c.loop-b.b-index 0 - 48) = omega arith in
    record {
      value =
          sym (too_large c.args.limit (c.loop-b.n * 10 + (get_or c.args.word.now c.loop-b.b-index 0 - 48)) (drop (c.loop-b.b-index + 1) c.args.word.now) past)
          ∙ sym (one_more c.args.limit c.loop-b.n c.loop-b.b-index c.args.word.now true h d) ∙ c.loop-b.invariant.0;
      bound = search rules;
    }

pub loop-b-preserved : goal.loop-b-preserved
loop-b-preserved c =
    let d : digit (get_or c.args.word.now c.loop-b.b-index 0) ≡ true = search rules in
    let h : c.loop-b.b-index < length c.args.word.now = omega arith in
    (sym (one_more c.args.limit c.loop-b.n c.loop-b.b-index c.args.word.now true h d) ∙ c.loop-b.invariant.0, omega arith)

pub returns : goal.returns
returns c = record {
  value = sym (ends c.args.limit c.loop-b.n c.loop-b.b-index c.args.word.now (omega arith) c.loop-b.invariant.1) ∙ c.loop-b.invariant.0;
  bound = c.loop-b.invariant.1;
}
