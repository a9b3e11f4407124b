use Rattle.std.proofs.Common.{◌≡◌, true, false, rules, arith}
use Rattle.std.specs.Option.{is_some}
use Rattle.roster.proofs.Calls.{join_present, join_full, join_done, still}
use Rattle.roster.specs.Passes.{joined}
use Rattle.roster.proofs.Laying.{length_held}
use Rattle.roster.proofs.rosters.Roster.join.Goals as goal

pub returns-then-is_some-clause-met : goal.returns-then-is_some-clause-met
returns-then-is_some-clause-met g c =
    let there : is_some c.search-found.result.place ≡ true = search rules in
    join_present g.F.Ring.ops g.F.Ring.plain c.args.number c.if-number-eq0.false c.args.figure c.search-found.result.place c.args.self.now.cells.now (λ size l held. (c.search-found.ensures.found size l held).1) there

pub returns-then-found-capacity-clause-met : goal.returns-then-found-capacity-clause-met
returns-then-found-capacity-clause-met g c =
    let missing : is_some c.search-found.result.place ≡ false = search rules in
    join_full g.F.Ring.ops g.F.Ring.plain c.args.number c.if-number-eq0.false c.args.figure c.search-found.result.place c.args.self.now.cells.now (λ size l held. (c.search-found.ensures.found size l held).1) missing c.search-found.result.lives (λ size l held. (c.search-found.ensures.found size l held).0) (omega arith)

pub returns-clause-met : goal.returns-clause-met
returns-clause-met g c =
    let missing : is_some c.search-found.result.place ≡ false = search rules in
    join_done g.F.Ring.ops g.F.Ring.plain c.args.number c.if-number-eq0.false c.args.figure c.search-found.result.place c.args.self.now.cells.now (λ size l held. (c.search-found.ensures.found size l held).1) missing c.search-found.result.lives (λ size l held. (c.search-found.ensures.found size l held).0) c.put_in.new.cells (omega arith) c.put_in.ensures

pub invariant_of-self : goal.invariant_of-self
invariant_of-self g c = record {
  held = still g.F.Ring.ops g.F.Ring.plain (λ l. joined l c.args.number c.args.figure) c.args.self.now.cells.now c.put_in.new.cells
      (λ size l held. c.put_in.ensures size l held ((c.search-found.ensures.found size l held).0) (omega (arith, held.room, length_held held)) c.if-number-eq0.false) c.args.self.now.held;
}
