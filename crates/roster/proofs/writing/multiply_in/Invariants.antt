use Rattle.roster.specs.Passes.{with_sum}
use Rattle.roster.proofs.Sums.{Passing}
use Rattle.roster.proofs.writing.multiply_in.Given as goal

abbrev pub invariant-loop-cell : goal.invariant-loop-cell
invariant-loop-cell g l =
    let ring = g.F.Ring in
    Passing (λ below cell. ring.figure cell.sum) (λ below cell. with_sum ring.ops ring.plain ring.figure cell (ring.ops.plus (ring.figure cell.sum) (ring.ops.times l.figure below))) ring.ops.zero l.initial.cells l.cell-index l.below l.cells
