use Rattle.std.proofs.Common.{rules}
use Rattle.roster.specs.Cells.{zero_cell}
use Rattle.algebra.proofs.Filled.{filled}
use Rattle.roster.proofs.writing.wipe.Goals as goal

pub returns : goal.returns
returns g c = filled _ (zero_cell g.F.Ring.ops g.F.Ring.plain) _ (λ y f' k. search rules) c.fill_with.new.self _ c.fill_with.ensures.len c.fill_with.ensures.ran
