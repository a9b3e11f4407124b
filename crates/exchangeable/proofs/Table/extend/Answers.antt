use Rattle.std.proofs.Common.{◌-◌, arith}
use Rattle.std.proofs.lemmas.Grind.{elements}
use Rattle.exchangeable.proofs.Columns.{taken_fits, taken_back}
use Rattle.exchangeable.proofs.Table.extend.Goals as goal

pub overflow_sub-above : goal.overflow_sub-above
overflow_sub-above c =
    taken_fits c.args.self.now.coefficients.now c.args.self.now.admitted c.args.m c.loop-k.k (omega arith) (omega arith) (omega arith) _ _
    (c.loop-k.invariant.1 (c.loop-k.k - 1) (omega arith)) c.loop-k.invariant.2

pub loop-k-preserved : goal.loop-k-preserved
loop-k-preserved c =
    let step =
    taken_back c.args.self.now.coefficients.now c.args.self.now.admitted c.args.m c.loop-k.k (omega arith) (omega arith) (omega arith) _ _
    (c.loop-k.invariant.1 (c.loop-k.k - 1) (omega arith)) c.loop-k.invariant.2 in
    (λ j a b. grind (arith, elements), λ j a. grind (arith, elements), step)
