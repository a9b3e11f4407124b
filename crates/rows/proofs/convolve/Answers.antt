use Rattle.std.proofs.Common.{◌+◌, ◌-◌, length, ap, ◌∙◌, refl, rules, arith}
use Rattle.algebra.specs.Ring.{semi}
use Rattle.algebra.proofs.Filled.{filled}
use Rattle.algebra.proofs.Semiring.{laws_semi}
use Rattle.rows.specs.Answer.{together}
use Rattle.rows.proofs.Convolving.{read, up_to_none, up_to_more, up_to_all}
use Rattle.rows.proofs.convolve.Goals as goal

pub loop-i-init : goal.loop-i-init
loop-i-init g c =
    let row = c.fill_with.new.self in
    up_to_none (laws_semi g.met.F.Ring.laws) g.F.Ring.figure g.F.Ring.plain c.args.first.now c.args.second.now (length row) row
    (filled _ (g.F.Ring.plain g.F.Ring.ops.zero) _ (λ y f' k. search rules) row _ refl c.fill_with.ensures.ran)

pub loop-i-preserved : goal.loop-i-preserved
loop-i-preserved g c =
    let figure = g.F.Ring.figure in
    let first = c.args.first.now in
    let second = c.args.second.now in
    let i = c.loop-i.i in
    up_to_more (laws_semi g.met.F.Ring.laws) figure g.F.Ring.plain first second (length c.fill_with.new.self) g.met.F.Ring.back i c.loop-i.row c.loop-i.invariant
    c.from_plain-factor.result c.add_products.new.row (i + length second - i) (omega arith) (omega (arith, c.loop-i-test.true, c.requires, c.fill_with.ensures.len))
    (read figure first i c.index-first-i.result c.from_plain-factor.result g.F.Ring.ops.zero c.index-first-i.is c.from_plain-factor.ensures c.loop-i-test.true)
    c.add_products.auto.row c.add_products.ensures

pub returns : goal.returns
returns g c =
    let figure = g.F.Ring.figure in
    let plain = g.F.Ring.plain in
    let first = c.args.first.now in
    let second = c.args.second.now in
    up_to_all (laws_semi g.met.F.Ring.laws) figure plain first second (length c.fill_with.new.self) c.loop-i.i c.loop-i.row c.loop-i.invariant (omega (arith, c.loop-i-test.false, c.loop-i.auto.i-end))
    ∙ ap (together (semi g.F.Ring.ops) figure plain first second) c.fill_with.ensures.len
