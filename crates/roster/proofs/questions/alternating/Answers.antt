use Rattle.std.proofs.Common.{◌+◌, get_or, ap, ◌∙◌, arith}
use Rattle.std.proofs.lemmas.List.Edits.{length-between, get_or-between}
use Rattle.algebra.proofs.Waring.{horner, summand}
use Rattle.roster.specs.Ledger.{figures}
use Rattle.roster.proofs.QuestionsRead.{read_figure, read_sum}
use Rattle.roster.proofs.QuestionsSums.{alternating_none, alternating_more, alternating_all}
use Rattle.roster.proofs.questions.alternating.Goals as goal

pub loop-t-init : goal.loop-t-init
loop-t-init g c size led held = alternating_none g.met.F.Ring.laws c.zero-sum.result c.zero-sum.ensures

pub loop-t-preserved : goal.loop-t-preserved
loop-t-preserved g c size led held =
    let back = g.met.F.Ring.back in
    let figure = g.F.Ring.figure in
    let t = c.loop-t.t in
    let k = c.args.k in
    let x = c.cell-item.result in
    let last = k + c.args.m + 1 in
    let long = length-between c.args.cells.now k last (omega (arith, c.requires.1)) in
    let read = c.cell-item.is ∙ get_or-between c.args.cells.now k last t x (omega (arith, long)) in
    alternating_more g.met.F.Ring.laws led.whole (figures led.lives) c.args.j k t (get_or c.coefficients-ways.result.now t 0)
    c.loop-t.sum c.from_plain.result c.neg-minus.result c.one.result c.multiple-coefficient.result c.from_plain-in-loop-t.result c.sum_of_products-sum.result
    (c.loop-t.invariant size led held)
    (read_figure figure back held 0 c.index-cells-0.result c.from_plain.result (omega arith) c.from_plain.ensures)
    c.neg-minus.ensures
    (c.coefficients-ways.ensures.1 t (omega arith))
    c.one.ensures
    c.multiple-coefficient.ensures
    (read_sum figure back held (k + t) x c.from_plain-in-loop-t.result (omega arith) (c.from_plain-in-loop-t.ensures ∙ ap (λ cell. figure cell.sum) read))
    c.sum_of_products-sum.ensures

pub returns : goal.returns
returns g c size led held =
    let o = g.F.Ring.ops in
    c.signed.ensures
    ∙ alternating_all g.met.F.Ring.laws (horner o led.whole (summand o (figures led.lives) c.args.j c.args.k)) c.args.m c.loop-t.t c.loop-t.sum (omega arith) (c.loop-t.invariant size led held)
