use Rattle.std.proofs.Common.{length, refl, arith}
use Rattle.roster.specs.Ledger.{opened}
use Rattle.roster.proofs.rosters.Roster.open.Goals as goal

pub invariant_of-result : goal.invariant_of-result
invariant_of-result g c = record {
  held = ∣ (length c.args.cells.now, (opened (length c.args.cells.now) c.args.whole, record { room = refl; few = omega arith; numbered = tt; are = c.lay_out.ensures })) ∣₁;
}
