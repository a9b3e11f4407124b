use Rattle.std.proofs.lemmas.Nat.{xor_lt}
use Rattle.figures.proofs.scenario_bits.ScenariosRing.add.Goals as goal

pub invariant_of-result : goal.invariant_of-result
invariant_of-result c = record { fits = xor_lt 64 _ _ c.args.self.fits c.args.other.fits }
