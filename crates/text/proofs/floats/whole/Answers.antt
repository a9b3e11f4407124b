use Rattle.std.proofs.Common.{◌≤◌, sym, ap, ◌∙◌, subst, pos, to_bits, arith}
use Rattle.std.specs.Float.{binary64}
use lib.Ieee.{of_int}
use Rattle.counts.specs.Answer.{most}
use Rattle.text.proofs.FloatTexts.{cut_is, by_bits, bits_of}
use Rattle.text.proofs.floats.whole.Goals as goal
use Rattle.text.proofs.floats.whole.Goals.{else-n-le-MOST-via-then-n-le-MOST+else-f64_to_bits_with_nan, else-n-le-MOST-via-else-n-le-MOST}

pub returns-then-f64_to_bits_with_nan : goal.returns-then-f64_to_bits_with_nan
returns-then-f64_to_bits_with_nan c =
    by_bits c.args.x c.saturating_f64_to_u64-n.result c.well_formed.0.1 (omega (arith, c.if-n-le-MOST.true))
    (sym c.f64_to_bits_with_nan.ensures ∙ c.if-f64_to_bits_with_nan.true ∙ c.f64_to_bits_with_nan-then-n-le-MOST.ensures)

pub returns : goal.returns
returns c n w =
    let cut = c.saturating_f64_to_u64-n.ensures ∙ cut_is c.args.x n w in
    elim c.else-n-le-MOST.branch [
      | else-n-le-MOST-via-then-n-le-MOST+else-f64_to_bits_with_nan b ↦
          b.if-f64_to_bits_with_nan.false
          (b.f64_to_bits_with_nan.ensures ∙ ap (λ m. to_bits binary64 (of_int binary64 (pos m))) cut ∙ bits_of c.args.x n w ∙ sym b.f64_to_bits_with_nan-then-n-le-MOST.ensures)
      | else-n-le-MOST-via-else-n-le-MOST b ↦ omega (arith, b.if-n-le-MOST.false, subst (λ m. m ≤ most) (sym cut) w.0)
    ]
