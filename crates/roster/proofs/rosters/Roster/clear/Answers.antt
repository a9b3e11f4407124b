use Rattle.std.proofs.Common.{◌≡◌, ◌-◌, ◌<◌, length, replicate, rules}
use Rattle.roster.specs.Cells.{zero_cell}
use Rattle.roster.proofs.Calls.{clear_done, still}
use Rattle.roster.proofs.rosters.Roster.clear.Goals as goal

pub returns-then-not-is_empty-clause-met : goal.returns-then-not-is_empty-clause-met
returns-then-not-is_empty-clause-met g c =
    let some : 0 < length c.args.self.now.cells.now = search rules in
    let is : c.wipe.new.cells ≡ replicate (length c.args.self.now.cells.now - 1) (zero_cell g.F.Ring.ops g.F.Ring.plain) = search rules in
    clear_done g.met.F.Ring.laws g.F.Ring.plain c.args.self.now.cells.now c.wipe.new.cells some is

pub invariant_of-self : goal.invariant_of-self
invariant_of-self g c =
    let some : 0 < length c.args.self.now.cells.now = search rules in
    let is : c.wipe.new.cells ≡ replicate (length c.args.self.now.cells.now - 1) (zero_cell g.F.Ring.ops g.F.Ring.plain) = search rules in
    record {
      held = still g.F.Ring.ops g.F.Ring.plain _ c.args.self.now.cells.now _
          (λ size l held. (clear_done g.met.F.Ring.laws g.F.Ring.plain c.args.self.now.cells.now c.wipe.new.cells some is size l held).1) c.args.self.now.held;
    }
