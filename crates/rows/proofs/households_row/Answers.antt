use Rattle.std.proofs.Common.{◌≡◌, ◌+◌, ◌++◌, length, drop, ap, ap₂, ◌∙◌, arith}
use Rattle.std.proofs.lemmas.List.{length-take-le}
use Rattle.algebra.specs.Ring.{semi}
use Rattle.algebra.proofs.Semiring.{laws_semi}
use Rattle.rows.specs.Answer.{together}
use Rattle.rows.proofs.Households.{length_theirs, together_row}
use Rattle.rows.proofs.households_row.Goals as goal

pub returns-clause-households : goal.returns-clause-households
returns-clause-households g c ls ms theirs others =
    let L = laws_semi g.met.F.Ring.laws in
    let figure = g.F.Ring.figure in
    let plain = g.F.Ring.plain in
    let first = c.args.first.now in
    let second = c.args.second.now in
    let n : c.saturating_add-lives.result + 1 ≡ length ls + length ms + 1 = omega (arith, length_theirs L figure plain ls first theirs, length_theirs L figure plain ms second others, c.in_ok-lives_of.ensures, c.in_ok-lives_of-2.ensures, c.saturating_add-lives.ensures, c.if-lives-gt-MOST.false) in
    ap₂ ◌++◌ (c.convolve.ensures ∙ ap (together (semi g.F.Ring.ops) figure plain first second) (length-take-le (c.saturating_add-lives.result + 1) c.args.output.now (omega (arith, c.if-output-lives.false)) ∙ n) ∙ together_row L figure plain ls ms first second theirs others (length ls + length ms + 1)) (ap (λ k. drop k c.args.output.now) n)
