use Rattle.std.proofs.Common.{◌≡◌, ◌+◌, ◌++◌, map, length, drop, sym, ap, ◌∙◌, arith}
use Rattle.std.proofs.lemmas.List.{length-map, length-take-le, take_rest}
use Rattle.algebra.specs.Ring.{semi}
use Rattle.algebra.specs.Rows.{row}
use Rattle.algebra.specs.Sums.{against}
use Rattle.roster.specs.Ledger.{figures}
use Rattle.roster.specs.Triangle.{differences}
use Rattle.roster.proofs.QuestionsRead.{asked, row_asked}
use Rattle.roster.proofs.RowsTable.{written_from}
use Rattle.roster.proofs.RowsTriangle.{passes_more, passes_all}
use Rattle.roster.proofs.rosters.Roster.triangle_row.Goals as goal

pub loop-i-preserved : goal.loop-i-preserved
loop-i-preserved g c d ps lives first =
    let l = c.loop-i in
    written_from l.row c.differences.new.row l.i
    ∙ passes_more g.met.F.Ring.laws g.F.Ring.plain d ps g.F.Ring.figure g.met.F.Ring.back l.i l.row c.differences.new.row (omega arith) (l.invariant d ps lives first)
    (c.differences.ensures ∙ ap (λ xs. map g.F.Ring.plain (differences g.F.Ring.ops (map g.F.Ring.figure xs))) (take_rest l.row l.i))

pub returns : goal.returns
returns g c size led held =
    let o = g.F.Ring.ops in
    let plain = g.F.Ring.plain in
    let ps = figures led.lives in
    let table = c.args.table.now in
    let n = c.lives-last.result in
    let rest = drop (n + 1) table in
    let lives = c.lives-last.ensures.counted size led held in
    let len : length ps ≡ n = rw length-map (sym lives) in
    let first = c.weigh.ensures size led held (length-take-le (n + 1) table (omega arith) ∙ ap (λ k. k + 1) lives) in
    let whole = passes_all g.met.F.Ring.laws plain led.whole ps c.loop-i.i c.loop-i.row (omega arith) (c.loop-i.invariant led.whole ps len first) in (
      row_asked o plain led table (c.loop-i.row ++ rest) n lives c.if-table-last.false (ap (λ xs. xs ++ rest) whole ∙ ap (λ k. map plain (row (semi o) (k + 1) (against o led.whole ps)) ++ rest) len),
      asked held _,
    )
