use Rattle.std.proofs.Common.{◌≡◌, ℕ, ◌<◌, ◌≤◌, get_or}
use Rattle.rows.proofs.add_products.Given as goal

-- The places below j have their sums, and the others are as they were.
abbrev pub invariant-loop-j : goal.invariant-loop-j
invariant-loop-j g l =
    let o = g.F.Ring.ops in
    let figure = g.F.Ring.figure in
    ((k : ℕ) (e : g.row.F-Plain.Denot) → k < l.j → get_or l.row k e ≡ g.F.Ring.plain (o.plus (figure (get_or l.initial.row k e)) (o.times l.factor (figure (get_or l.other k e)))))
    × ((k : ℕ) (e : g.row.F-Plain.Denot) → l.j ≤ k → get_or l.row k e ≡ get_or l.initial.row k e)
