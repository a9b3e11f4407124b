use Rattle.std.proofs.Common.{◌/◌, ◌^◌, pos, sym, ap, ◌∙◌, arith}
use native.Mathlib.Nat.{pow-zero}
use lib.Ieee.{binary64, of_int}
use Rattle.std.proofs.lemmas.Bool.{cond-true, lt-ltb}
use Rattle.counts.specs.Answer.{most}
use Rattle.counts.specs.Floats.{float}
use Rattle.counts.proofs.Floats.{float_one_bits}
use Rattle.counts.proofs.Powers.{power_within, power_past, power_exact}
use Rattle.counts.proofs.power.Goals as goal

pub loop-init : goal.loop-init
loop-init c = (float_one_bits ∙ ap float (sym (pow-zero c.args.whole)), omega (arith, pow-zero c.args.whole))

pub returns-then-product-largest : goal.returns-then-product-largest
returns-then-product-largest c =
    sym (cond-true _ _ _ (lt-ltb most (c.args.whole ^ c.args.n)
    (power_past c.args.whole c.loop.counter c.loop.product _ c.requires c.loop.invariant.0 (ap (λ w. of_int binary64 (pos (most / w))) c.from.ensures) c.args.n c.loop-test.true c.if-product-largest.true)))

pub loop-preserved : goal.loop-preserved
loop-preserved c =
    let is-m = ap (λ w. of_int binary64 (pos (most / w))) c.from.ensures in
    let within = power_within c.args.whole c.loop.counter c.loop.product _ c.requires c.loop.invariant.0 is-m c.if-product-largest.false in
    (power_exact c.args.whole c.loop.counter c.loop.product _ c.requires c.loop.invariant.0 is-m c.from-factor.result c.from-factor.ensures (omega (arith, c.ranges.whole.fits)) within, within)
