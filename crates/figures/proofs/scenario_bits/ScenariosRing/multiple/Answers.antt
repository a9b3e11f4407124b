use Rattle.std.proofs.Common.{sym, ◌∙◌, arith}
use Rattle.algebra.proofs.Elementary.{multiple_odd, multiple_even}
use Rattle.figures.specs.Bits.{scenario_laws}
use Rattle.figures.proofs.scenario_bits.ScenariosRing.multiple.Goals as goal

pub returns-then-times-eq1 : goal.returns-then-times-eq1
returns-then-times-eq1 c = sym (multiple_odd scenario_laws c.args.self (scenario_laws.plus_minus c.args.self) c.args.times (omega arith))

pub returns-else-times-eq1 : goal.returns-else-times-eq1
returns-else-times-eq1 c = c.zero.ensures ∙ sym (multiple_even scenario_laws c.args.self (scenario_laws.plus_minus c.args.self) c.args.times (omega arith))
