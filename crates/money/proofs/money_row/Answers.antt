use Rattle.std.proofs.Common.{◌∷◌, set, sym, refl, ap, ◌∙◌, arith, length-set}
use Rattle.std.proofs.lemmas.List.{drop-set, drop-set-lt}
use Rattle.std.proofs.lemmas.Result.{err_from_is_err_and}
use Rattle.money.specs.Money.{whole}
use Rattle.money.proofs.Rows.{part_small, row_more, row_all}
use Rattle.money.proofs.money_row.Goals as goal

pub returns-in_err-admit : goal.returns-in_err-admit
returns-in_err-admit c =
    let p = err_from_is_err_and c.from_residual.result c.from_residual.ensures.1 in
    rw (p.1, p.2) (c.in_err-admit.ensures 0 _, refl)

pub loop-i-init : goal.loop-i-init
loop-i-init c =
    let row = c.args.row.now in
    drop-set row 0 whole (omega arith) ∙ ap (λ zs. whole ∷ zs) (sym (drop-set-lt 1 row 0 whole (omega arith)))

pub add_life-requires : goal.add_life-requires
add_life-requires c =
    let a = c.in_ok-admit.ensures in (
      a.1 c.loop-i.i c.loop-i-test.true,
      part_small c.args.lives.now (set c.args.row.now 0 whole) c.loop-i.row c.loop-i.i a c.loop-i-test.true
          (omega (arith, length-set c.args.row.now 0 whole)) c.loop-i.invariant,
    )

pub loop-i-preserved : goal.loop-i-preserved
loop-i-preserved c =
    row_more c.args.lives.now (set c.args.row.now 0 whole) c.loop-i.row c.loop-i.i c.in_ok-admit.ensures
    c.loop-i-test.true (omega (arith, length-set c.args.row.now 0 whole)) c.loop-i.invariant
    c.add_life.new.row c.add_life.ensures

pub returns : goal.returns
returns c =
    row_all c.args.lives.now c.args.row.now c.loop-i.row c.loop-i.i c.in_ok-admit.ensures (omega arith)
    (omega arith) c.loop-i.invariant
