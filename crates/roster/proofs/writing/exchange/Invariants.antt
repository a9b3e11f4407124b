use Rattle.roster.specs.Passes.{with_sum, rest}
use Rattle.roster.proofs.Sums.{Passing}
use Rattle.roster.proofs.writing.exchange.Given as goal

abbrev pub invariant-loop-cell : goal.invariant-loop-cell
invariant-loop-cell g l =
    let ring = g.F.Ring in
    Passing (rest ring.ops ring.plain ring.figure l.out)
    (λ below cell. with_sum ring.ops ring.plain ring.figure cell (ring.ops.plus (rest ring.ops ring.plain ring.figure l.out below cell) (ring.ops.times l.figure below))) ring.ops.zero l.initial.cells l.cell-index l.without l.cells
