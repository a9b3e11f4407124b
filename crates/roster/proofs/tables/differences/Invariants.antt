use Rattle.std.proofs.Common.{◌≡◌, ◌++◌, map, get_or, take, drop}
use Rattle.roster.specs.Triangle.{differences}
use Rattle.roster.proofs.tables.differences.Given as goal

-- The pass has come down to place r.
abbrev pub invariant-loop-r : goal.invariant-loop-r
invariant-loop-r g l =
    let passed = differences g.F.Ring.ops (map g.F.Ring.figure (drop l.r l.initial.row)) in
    (l.row ≡ take l.r l.initial.row ++ map g.F.Ring.plain passed) × (l.above ≡ get_or passed 0 g.F.Ring.ops.zero)
