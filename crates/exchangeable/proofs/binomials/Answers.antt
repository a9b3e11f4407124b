use Rattle.std.proofs.Common.{◌≡◌, suc, ◌+◌, ◌-◌, set, arith}
use Rattle.std.proofs.lemmas.Grind.{elements}
use Rattle.algebra.proofs.Binomial.{choose_fits}
use Rattle.exchangeable.proofs.Columns.{inner, next_row}
use Rattle.exchangeable.proofs.binomials.Goals as goal

pub next_binomials-requires : goal.next_binomials-requires
next_binomials-requires c = λ k l.
    let e = inner (set c.loop-n.row c.loop-n.n 1) c.loop-n.n k (λ j l. grind (arith, elements)) (grind (arith, elements)) in
    rw e (choose_fits 31 (c.loop-n.n - 1) (suc k) (grind (arith, elements)))

pub loop-n-preserved : goal.loop-n-preserved
loop-n-preserved c =
    let q : c.loop-n.n + 1 - 1 ≡ c.loop-n.n = omega arith in
    rw q (next_row (set c.loop-n.row c.loop-n.n 1) c.next_binomials.new.inner c.loop-n.n (grind (arith, elements)) (omega arith)
    (λ k l. grind (arith, elements)) (grind (arith, elements)) (grind (arith, elements)) (λ k l. c.next_binomials.ensures k (grind (arith, elements))))
