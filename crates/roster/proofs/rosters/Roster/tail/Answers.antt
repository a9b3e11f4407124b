use Rattle.std.proofs.Common.{◌≡◌, ◌+◌, ◌-◌, ◌<◌, length, sym, ◌∙◌, arith, rules}
use Rattle.std.proofs.lemmas.List.{length-map}
use Rattle.algebra.proofs.Waring.{entry_past}
use Rattle.roster.specs.Ledger.{figures}
use Rattle.roster.proofs.Laying.{length_held}
use Rattle.roster.proofs.QuestionsSums.{alternating_entry, entry_nobody}
use Rattle.roster.proofs.rosters.Roster.tail.Goals as goal

pub returns-then-k-n : goal.returns-then-k-n
returns-then-k-n g c size l held =
    let beyond : length (figures l.lives) < c.args.k = rw length-map (omega (arith, c.lives-n.ensures.counted size l held)) in
    c.zero.ensures ∙ sym (entry_past g.met.F.Ring.laws l.whole (figures l.lives) c.args.j c.args.k beyond)

pub returns-then-is_empty : goal.returns-then-is_empty
returns-then-is_empty g c size l held =
    let empty : length c.args.self.now.cells.now ≡ 0 = search rules in
    let none : length l.lives ≡ 0 = omega (arith, length_held held) in
    let nobody : length (figures l.lives) ≡ 0 = rw length-map none in
    c.one.ensures ∙ entry_nobody g.met.F.Ring.laws l.whole (figures l.lives) c.args.j c.args.k nobody (omega (arith, c.lives-n.ensures.counted size l held))

pub returns : goal.returns
returns g c size l held =
    let rest = c.lives-n.result - c.args.k in
    let whole : c.args.k + rest ≡ length (figures l.lives) = rw length-map (omega (arith, c.lives-n.ensures.counted size l held)) in
    c.alternating.ensures size l held ∙ alternating_entry g.met.F.Ring.laws l.whole (figures l.lives) c.args.j c.args.k rest whole
