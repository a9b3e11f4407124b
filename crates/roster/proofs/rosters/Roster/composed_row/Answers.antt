use Rattle.std.proofs.Common.{◌≡◌, ◌+◌, ◌<◌, [], ◌++◌, map, length, get_or, take, drop, set, sym, refl, ap, ◌∙◌, add-one, arith}
use Rattle.std.proofs.lemmas.List.{length-map, length-set, length-take-le, get_or-take, drop-set-lt}
use Rattle.algebra.specs.Patterns.{Life}
use Rattle.algebra.specs.Ring.{semi}
use Rattle.algebra.specs.Rows.{row}
use Rattle.algebra.specs.Sums.{against}
use Rattle.algebra.proofs.Semiring.{laws_semi}
use Rattle.roster.specs.Ledger.{figures}
use Rattle.roster.proofs.Laying.{length_held}
use Rattle.roster.proofs.QuestionsRead.{read_figure, asked, row_asked}
use Rattle.algebra.proofs.Fronts.{begun_first, begun_more, begun_all}
use Rattle.roster.proofs.RowsComposed.{composed, composed_back, life, life_read, row_nobody}
use Rattle.roster.proofs.rosters.Roster.composed_row.Goals as goal

pub loop-i-init : goal.loop-i-init
loop-i-init g c size led held =
    let table = c.args.table.now in
    let w = c.to_plain.result in
    let kept : drop 1 table ≡ drop 1 (set table 0 w) = sym (drop-set-lt 1 table 0 w (omega arith)) in
    begun_first (laws_semi g.met.F.Ring.laws) g.F.Ring.plain table w (omega arith) (c.to_plain.ensures ∙ ap g.F.Ring.plain c.one.ensures)
    ∙ ap (λ t. map g.F.Ring.plain (row (semi g.F.Ring.ops) 1 []) ++ t) kept

pub loop-i-preserved : goal.loop-i-preserved
loop-i-preserved g c size led held =
    let o = g.F.Ring.ops in
    let plain = g.F.Ring.plain in
    let figure = g.F.Ring.figure in
    let back = g.met.F.Ring.back in
    let d = led.whole in
    let ps = figures led.lives in
    let i = c.loop-i.i in
    let n = c.lives-n.result in
    let cells = c.args.self.now.cells.now in
    let others = c.in-Some.lives.now in
    let x = c.life-item.result in
    let w = c.to_plain.result in
    let entry = set c.args.table.now 0 w in
    let l : Life g.row.F.Denot = record { alive = c.from_plain-alive.result; dead = c.add.result } in
    let split = c.in-Some.ensures.cases.0 in
    let lives = c.lives-n.ensures.counted size led held in
    let part = length-take-le n others (omega (arith, c.lives-n.ensures.within, c.in-Some.ensures.cases.1)) in
    let inside : i < length ps = rw length-map (omega arith) in
    let room : i + 1 < length entry = rw length-set (omega arith) in
    let here : x ≡ get_or cells (i + 1) x = c.life-item.is ∙ get_or-take n others i x (omega arith) ∙ rw (split, add-one) refl in
    let next = life_read o d ps i c.from_plain-whole.result c.from_plain-alive.result c.neg.result c.add.result
    (read_figure figure back held 0 c.in-Some.first.now c.from_plain-whole.result (omega arith) (rw split c.from_plain-whole.ensures))
    (read_figure figure back held (i + 1) x c.from_plain-alive.result (omega arith) (c.from_plain-alive.ensures ∙ ap (λ cell. figure cell.figure) here))
    c.neg.ensures c.add.ensures in
    begun_more (laws_semi g.met.F.Ring.laws) plain (life o d) ps entry (composed (semi o) plain figure l o.zero) i o.zero l c.to_plain-in-loop-i.result c.loop-i.table c.compose.new.row
    inside room (c.loop-i.invariant size led held) next (c.to_plain-in-loop-i.ensures ∙ ap plain c.zero.ensures)
    (composed_back (semi o) plain figure back l (row (semi o) (i + 1 + 1) (against o d (take i ps))))
    c.compose.ensures

pub returns : goal.returns
returns g c size led held =
    let o = g.F.Ring.ops in
    let plain = g.F.Ring.plain in
    let table = c.args.table.now in
    let w = c.to_plain.result in
    let ps = figures led.lives in
    let n = length ps in
    let part = length-take-le c.lives-n.result c.in-Some.lives.now (omega (arith, c.lives-n.ensures.within, c.in-Some.ensures.cases.1)) in
    let lives = c.lives-n.ensures.counted size led held in
    let len : n ≡ c.lives-n.result = rw length-map (sym lives) in
    let kept : drop (n + 1) (set table 0 w) ≡ drop (n + 1) table = drop-set-lt (n + 1) table 0 w (omega arith) in
    let whole = begun_all (laws_semi g.met.F.Ring.laws) plain (life o led.whole) ps (set table 0 w) c.loop-i.i c.loop-i.table (omega (arith, len)) (c.loop-i.invariant size led held) in (
      row_asked o plain led table c.loop-i.table n (len ∙ lives) (omega (arith, len, c.if-table-n.false)) (whole ∙ ap (λ t. map plain (row (semi o) (n + 1) (against o led.whole ps)) ++ t) kept),
      asked held _,
    )

pub returns-in_default : goal.returns-in_default
returns-in_default g c size led held =
    let o = g.F.Ring.ops in
    let plain = g.F.Ring.plain in
    let table = c.args.table.now in
    let empty : length c.args.self.now.cells.now ≡ 0 = c.in_default.ensures.cases in
    let nobody : length led.lives ≡ 0 = omega (arith, length_held held) in
    let len : length (figures led.lives) ≡ 0 = rw length-map nobody in (
      row_asked o plain led table _ 0 (sym nobody) (omega arith) (row_nobody g.met.F.Ring.laws plain led.whole (figures led.lives) table c.to_plain.result len (omega arith) (c.to_plain.ensures ∙ ap plain c.one.ensures)),
      asked held _,
    )
