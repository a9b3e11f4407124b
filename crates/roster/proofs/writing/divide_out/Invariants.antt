use Rattle.roster.specs.Passes.{with_sum, rest}
use Rattle.roster.proofs.Sums.{Passing}
use Rattle.roster.proofs.writing.divide_out.Given as goal

abbrev pub invariant-loop-cell : goal.invariant-loop-cell
invariant-loop-cell g l =
    let ring = g.F.Ring in
    Passing (rest ring.ops ring.plain ring.figure l.figure) (λ below cell. with_sum ring.ops ring.plain ring.figure cell (rest ring.ops ring.plain ring.figure l.figure below cell)) ring.ops.zero l.initial.cells l.cell-index l.below l.cells
