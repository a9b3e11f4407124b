use Rattle.std.proofs.Common.{ℕ, ◌+◌, ◌<◌, ◌++◌, length, take, drop, get_or, pos, ◌≤ℤ◌, ◌<ℤ◌, refl, subst, arith, rules, length-take}
use Rattle.std.proofs.lemmas.Result.{err_from_is_err_and}
use Rattle.exchangeable.specs.Answer.{Answered}
use Rattle.exchangeable.specs.declared.Refusal.TheVariants.{RowAboveTable, ShortOutput}
use Rattle.exchangeable.proofs.Computed.{refused_from, answered_from}
use Rattle.exchangeable.proofs.Differences.{events_from}
use Rattle.exchangeable.proofs.Rows.{none_below, some_below, sizes, row_from}
use Rattle.exchangeable.proofs.exchangeable_row.Goals as goal

pub returns-in_err-table : goal.returns-in_err-table
returns-in_err-table c =
    let p = err_from_is_err_and c.from_residual.result c.from_residual.ensures.1 in
    let refused = c.in_err-table.ensures c.args.m c.args.out.now in
    rw (p.1, p.2) (record { events = (refused, refl); computed = refused_from c.args.table.now c.args.m c.args.out.now _ refused })

pub returns-then-m-top-clause-computed : goal.returns-then-m-top-clause-computed
returns-then-m-top-clause-computed c = refused_from c.args.table.now c.args.m c.args.out.now RowAboveTable (search rules)

pub returns-then-m-out-clause-computed : goal.returns-then-m-out-clause-computed
returns-then-m-out-clause-computed c = refused_from c.args.table.now c.args.m c.args.out.now ShortOutput (search rules)

pub returns-in-Some : goal.returns-in-Some
returns-in-Some c =
    let t = c.in_ok-table.table in
    let ws = take (c.top-top.result + 1) c.extend_to-2.new.values in
    let h : (c.in-Some.place < length ws) × (get_or ws c.in-Some.place (pos 0) <ℤ pos 0)
    × ((i : ℕ) → i < c.in-Some.place → pos 0 ≤ℤ get_or ws i (pos 0)) = search rules in
    let r =
    some_below t.coefficients.now c.extend_to-2.new.values _ c.top-top.ensures (omega arith) c.extend_to-2.ensures c.args.m c.args.out.now
    c.in-Some.place t.admitted (omega arith) (omega arith) h in
    let refused = rw c.in_ok-table.ensures at r in
    record { events = (refused, refl); computed = refused_from c.args.table.now c.args.m c.args.out.now _ refused }

pub multiply-requires-clause-sizes : goal.multiply-requires-clause-sizes
multiply-requires-clause-sizes c =
    let t = c.in_ok-table.table in
    let ws = take (c.top-top.result + 1) c.extend_to-2.new.values in
    let h : (k : ℕ) → k < length ws → pos 0 ≤ℤ get_or ws k (pos 0) = search rules in
    let last = none_below t.coefficients.now c.extend_to-2.new.values _ c.top-top.ensures (omega arith) c.extend_to-2.ensures h in
    sizes t.coefficients.now c.args.m (take (c.args.m + 1) c.args.out.now) c.binomials.new.row c.extend_to.new.values
    (omega (arith, length-take (c.args.m + 1) c.args.out.now)) c.binomials.auto.row c.binomials.ensures c.extend_to.ensures
    t.admitted (omega arith) last

pub returns : goal.returns
returns c =
    let t = c.in_ok-table.table in
    let ws = take (c.top-top.result + 1) c.extend_to-2.new.values in
    let h : (k : ℕ) → k < length ws → pos 0 ≤ℤ get_or ws k (pos 0) = search rules in
    let last = none_below t.coefficients.now c.extend_to-2.new.values _ c.top-top.ensures (omega arith) c.extend_to-2.ensures h in
    let r =
    row_from t.coefficients.now c.args.m (take (c.args.m + 1) c.args.out.now) c.binomials.new.row c.extend_to.new.values
    (omega (arith, length-take (c.args.m + 1) c.args.out.now)) c.binomials.auto.row c.binomials.ensures c.extend_to.ensures
    c.multiply.new.row (drop (c.args.m + 1) c.args.out.now) c.multiply.auto.row c.multiply.ensures in
    let answered =
    subst (λ u. Answered u c.args.m c.args.out.now (c.multiply.new.row ++ drop (c.args.m + 1) c.args.out.now)) c.in_ok-table.ensures
    (t.admitted, omega arith, omega arith, events_from t.coefficients.now last, r.0, r.1) in
    record { events = answered; computed = answered_from c.args.table.now c.args.m c.args.out.now _ answered }
