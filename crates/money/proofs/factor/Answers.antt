use Rattle.std.proofs.Common.{◌+◌, length, ap, ◌∙◌, take, arith, rules}
use Rattle.std.proofs.lemmas.Iterator.{YieldsList-from_slice}
use Rattle.std.proofs.lemmas.Iterator.Adapters.{YieldsList-from_skip}
use Rattle.std.proofs.lemmas.Iterator.Consumers.{fits_from_yields_list, sum_from_yields_List}
use Rattle.std.proofs.lemmas.Result.{err_from_is_err_and}
use Rattle.money.proofs.Rows.{factor_from}
use Rattle.money.proofs.Sums.{total_is_sum, sum_drop_le}
use Rattle.money.proofs.factor.Goals as goal

pub returns-in_err-admit : goal.returns-in_err-admit
returns-in_err-admit c =
    let p = err_from_is_err_and c.from_residual.result c.from_residual.ensures.1 in
    record { answer = rw (p.1, p.2) (c.in_err-admit.ensures c.args.k _); wiped = search rules }

pub sum-requires-clause-fits : goal.sum-requires-clause-fits
sum-requires-clause-fits c =
    let row = take (length c.args.lives.now + 1) c.money_row.new.row in
    fits_from_yields_list c.skip.result _
    (YieldsList-from_skip c.args.k (YieldsList-from_slice row (ap (λ s. s.rest.now) c.skip.ensures.source ∙ c.iter.ensures.rest)) (omega arith))
    (omega (arith, total_is_sum row, sum_drop_le c.args.k row, c.in_ok-money_row.ensures))

pub returns-clause-answer : goal.returns-clause-answer
returns-clause-answer c =
    let row = take (length c.args.lives.now + 1) c.money_row.new.row in
    factor_from c.args.lives.now c.args.work.now c.money_row.new.row c.args.k c.sum.result (omega arith)
    c.in_ok-money_row.ensures
    (sum_from_yields_List c.skip.result _ c.sum.ensures.ran
    (YieldsList-from_skip c.args.k (YieldsList-from_slice row (ap (λ s. s.rest.now) c.skip.ensures.source ∙ c.iter.ensures.rest)) (omega arith)))
