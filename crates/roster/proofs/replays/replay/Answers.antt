use Rattle.std.proofs.Common.{rules, length, sym, ◌∙◌, subst}
use Rattle.roster.specs.Cells.{Holds}
use Rattle.roster.specs.Ledger.{opened}
use Rattle.roster.proofs.Runs.{running_step, running_end}
use Rattle.roster.proofs.replays.replay.Goals as goal

pub loop-exchange-preserved : goal.loop-exchange-preserved
loop-exchange-preserved g c = (
  running_step g.F.Ring.ops g.F.Ring.plain c.open-roster.result.cells.now c.args.exchanges.now c.loop-exchange.exchange-index c.loop-exchange.exchanges _ c.replace-taken.result c.settle.result
      c.loop-exchange.roster.cells.now _ (search rules) c.loop-exchange.auto.exchanges c.replace-taken.ensures.value c.settle.ensures.settled c.settle.ensures.holds c.loop-exchange.invariant.0,
  c.settle.ensures.lent ∙ c.loop-exchange.invariant.1,
)

pub returns : goal.returns
returns g c =
    let size = length c.args.cells.now in
    let ran = running_end g.F.Ring.ops g.F.Ring.plain c.open-roster.result.cells.now c.args.exchanges.now c.loop-exchange.exchange-index c.loop-exchange.exchanges c.loop-exchange.roster.cells.now
    (search rules) c.loop-exchange.auto.exchanges c.loop-exchange.invariant.0 size (opened size c.args.whole) c.open-roster.ensures.holds in
    let lent = sym (c.loop-exchange.invariant.1 ∙ c.open-roster.ensures.lent) in
    record {
      settled = ran.0;
      holds = subst (Holds g.F.Ring.ops g.F.Ring.plain size _) (search rules) ran.1;
    }
