use Rattle.roster.specs.Ledger.{Leave, Done}
use Rattle.roster.specs.Passes.{left}
use Rattle.roster.proofs.Calls.{answer_met, still}
use Rattle.roster.proofs.rosters.Roster.leave.Goals as goal

pub returns-clause-met : goal.returns-clause-met
returns-clause-met g c =
    answer_met g.F.Ring.ops g.F.Ring.plain (Leave c.args.number) c.args.self.now.cells.now Done c.take_out.new.cells (λ size l held.
    let found = c.in_ok-k.ensures.found size l held in (found.0, c.take_out.ensures size l c.args.number held found.1.1 found.1.0))

pub invariant_of-self : goal.invariant_of-self
invariant_of-self g c = record {
  held = still g.F.Ring.ops g.F.Ring.plain (λ l. left l c.args.number) c.args.self.now.cells.now c.take_out.new.cells
      (λ size l held. let found = (c.in_ok-k.ensures.found size l held).1 in c.take_out.ensures size l c.args.number held found.1 found.0) c.args.self.now.held;
}
