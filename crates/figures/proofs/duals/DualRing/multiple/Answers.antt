use Rattle.std.proofs.Common.{sym, ap₂, ◌∙◌}
use Rattle.figures.specs.Duals.{dual}
use Rattle.figures.specs.DualLaws.{multiple_parts}
use Rattle.figures.proofs.duals.DualRing.multiple.Goals as goal

pub returns : goal.returns
returns g c = ap₂ dual c.multiple.ensures c.multiple-2.ensures ∙ sym (multiple_parts g.R.Ring.ops c.args.times c.args.self)
