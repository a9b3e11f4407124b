use Rattle.std.proofs.Common.{◌≡◌, ◌+◌, List, map, length}
use Rattle.std.specs.List.{range_with_len}
use Rattle.algebra.proofs.Waring.{entry}
use Rattle.roster.proofs.RowsTriangle.{passes}
use Rattle.roster.proofs.rosters.Roster.triangle_row.Given as goal

-- So many passes are done.
abbrev pub invariant-loop-i : goal.invariant-loop-i
invariant-loop-i g l =
    let o = g.F.Ring.ops in
    let plain = g.F.Ring.plain in
    (d : g.row.F.Denot) (ps : List g.row.F.Denot)
    → length ps ≡ l.last
    → l.initial.row ≡ map plain (map (entry o d ps 0) (range_with_len 0 (length ps + 1)))
    → l.row ≡ passes g.met.F.Ring.laws plain d ps l.i
