use Rattle.roster.specs.Ledger.{Change, Done}
use Rattle.roster.specs.Passes.{altered}
use Rattle.roster.proofs.Calls.{answer_met, still}
use Rattle.roster.proofs.rosters.Roster.change.Goals as goal

pub returns-clause-met : goal.returns-clause-met
returns-clause-met g c =
    answer_met g.F.Ring.ops g.F.Ring.plain (Change c.args.number c.args.figure) c.args.self.now.cells.now Done c.alter.new.cells (λ size l held.
    let found = c.in_ok-k.ensures.found size l held in (found.0, c.alter.ensures size l c.args.number held found.1.1 found.1.0))

pub invariant_of-self : goal.invariant_of-self
invariant_of-self g c = record {
  held = still g.F.Ring.ops g.F.Ring.plain (λ l. altered l c.args.number c.args.figure) c.args.self.now.cells.now c.alter.new.cells
      (λ size l held. let found = (c.in_ok-k.ensures.found size l held).1 in c.alter.ensures size l c.args.number held found.1 found.0) c.args.self.now.held;
}
