use Rattle.std.proofs.Common.{ℕ, arith}
use Rattle.roster.proofs.WaysTable.{row_within, row_between}
use Rattle.roster.proofs.coefficients.coefficients.Goals as goal

pub slice_bounds-result-end : goal.slice_bounds-result-end
slice_bounds-result-end c = omega (arith, row_within c.args.j c.requires)

pub returns : goal.returns
returns c =
    let row = λ (start : ℕ) (end : ℕ). row_between c.args.j start end c.requires in
    search (row, arith)
