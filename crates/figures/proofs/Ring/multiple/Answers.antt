use Rattle.std.proofs.Common.{◌≡◌, ◌%◌, sym, ap, ◌∙◌, arith}
use Rattle.algebra.specs.Sums.{multiple}
use Rattle.algebra.proofs.Elementary.{doubling_round}
use Rattle.figures.proofs.Ring.multiple.Goals as goal
use Rattle.figures.proofs.Ring.multiple.Goals.{then-left-eq1, else-left-eq1}

pub loop-left-preserved : goal.loop-left-preserved
loop-left-preserved g c =
    let o = g.Self.Ring.ops in
    let L = g.met.Self.Ring.laws in
    let l = c.loop-left in
    let added : c.if-left-eq1.sum ≡ o.plus l.sum (multiple o (l.left % 2) l.doubled) =
    elim c.if-left-eq1.branch [
      | then-left-eq1 w ↦
          let odd : l.left % 2 ≡ 1 = omega arith in
          w.sum-is ∙ w.add-sum.ensures ∙ ap (o.plus l.sum) (sym (ap (λ r. multiple o r l.doubled) odd ∙ L.plus_zero l.doubled))
      | else-left-eq1 w ↦
          let even : l.left % 2 ≡ 0 = omega arith in
          w.sum-is ∙ sym (ap (λ r. o.plus l.sum (multiple o r l.doubled)) even ∙ L.plus_zero l.sum)
    ] in
    doubling_round L l.left l.sum l.doubled c.if-left-eq1.sum c.add-doubled.result (multiple o c.args.times c.args.self) added c.add-doubled.ensures l.invariant
