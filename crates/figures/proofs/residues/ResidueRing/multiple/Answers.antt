use Rattle.std.proofs.Common.{arith}
use Rattle.std.proofs.lemmas.Nat.{mul-mod_first}
use Rattle.figures.specs.Residues.{modulus, ops}
use Rattle.figures.specs.Same.{same_residue}
use Rattle.figures.specs.Modular.{multiple_mod, residue_modular}
use Rattle.figures.proofs.residues.ResidueRing.multiple.Goals as goal

pub returns : goal.returns
returns c =
    same_residue _ _ (grind (
      arith,
      mul-mod_first c.args.times c.args.self.number modulus,
      multiple_mod modulus (λ x. x.number) ops residue_modular c.args.times c.args.self,
    ))
