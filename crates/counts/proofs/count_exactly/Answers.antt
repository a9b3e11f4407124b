use Rattle.std.proofs.Common.{rules, ◌≡◌, ◌+◌, ◌∷◌, ◌++◌, length, get_or, take, map, set, refl, sym, ap, ◌∙◌, arith, length-set}
use Rattle.std.proofs.lemmas.List.{drop-set-lt}
use lib.Ieee.{binary64, of_bits}
use Rattle.algebra.specs.Patterns.{naturals, natural_life, natural_lives}
use Rattle.algebra.specs.Rows.{row}
use Rattle.algebra.proofs.Semiring.{naturals_laws}
use Rattle.algebra.proofs.Composition.{compose}
use Rattle.algebra.proofs.Fronts.{begun_first, begun_more, begun_all}
use Rattle.std.specs.Float.{float_zero}
use Rattle.counts.specs.Floats.{float, floats}
use Rattle.counts.proofs.Floats.{float_zero_bits, float_one_bits}
use Rattle.counts.proofs.Powers.{power_given}
use Rattle.counts.proofs.Counting.{none_above, pass_exact, granted}
use Rattle.counts.proofs.count_exactly.Goals as goal

pub loop-i-init : goal.loop-i-init
loop-i-init c =
    let work = c.args.work.now in
    begun_first naturals_laws float work _ (omega arith) float_one_bits
    ∙ ap (λ t. float 1 ∷ t) (sym (drop-set-lt 1 work 0 _ (omega arith)))

pub overflow_sub-whole : goal.overflow_sub-whole
overflow_sub-whole c = none_above c.args.whole c.args.lives.now c.in_ok-admit.ensures.3 c.loop-i.i c.loop-i-test.true

pub loop-i-preserved : goal.loop-i-preserved
loop-i-preserved c =
    let d = c.args.whole in
    let ps = c.args.lives.now in
    let i = c.loop-i.i in
    let p = get_or ps i 0 in
    let few = c.in_ok-admit.ensures in
    let entry = set c.args.work.now 0 (of_bits binary64 0x3ff0_0000_0000_0000) in
    let given = power_given d (length ps) c.power.result c.in_ok-denominator.denominator c.power.ensures c.in_ok-denominator.ensures.ok_part in
    begun_more naturals_laws float (natural_life d) ps entry (compose floats (record { alive = c.from.result; dead = c.from-in-loop-i.result }) float_zero) i 0 (natural_life d p) (of_bits binary64 0) c.loop-i.work c.compose.new.row
    c.loop-i-test.true (omega (arith, length-set c.args.work.now 0 (of_bits binary64 0x3ff0_0000_0000_0000))) c.loop-i.invariant refl float_zero_bits
    (pass_exact d ps few.3 i few.1 (omega (arith, few.2)) given.0 c.loop-i-test.true c.from.result c.from-in-loop-i.result c.from.ensures c.from-in-loop-i.ensures)
    c.compose.ensures

pub returns : goal.returns
returns c =
    let d = c.args.whole in
    let ps = c.args.lives.now in
    let after = c.loop-i.work in
    let entry = set c.args.work.now 0 (of_bits binary64 0x3ff0_0000_0000_0000) in
    let given = power_given d (length ps) c.power.result c.in_ok-denominator.denominator c.power.ensures c.in_ok-denominator.ensures.ok_part in
    let begun = begun_all naturals_laws float (natural_life d) ps entry c.loop-i.i after (omega arith) c.loop-i.invariant in
    let kept = drop-set-lt (length ps + 1) c.args.work.now 0 (of_bits binary64 0x3ff0_0000_0000_0000) (omega arith) in
    let is = begun ∙ ap (λ t. map float (row naturals (length ps + 1) (natural_lives d ps)) ++ t) kept in
    let found : c.unwrap_or-count.result ≡ get_or (take (length ps + 1) after) c.args.k (of_bits binary64 0) = search rules in
    let read = found ∙ ap (get_or (take (length ps + 1) after) c.args.k) float_zero_bits in
    let both = granted ps d c.args.k c.args.work.now after c.unwrap_or-count.result c.in_ok-denominator.denominator c.in_ok-admit.ensures given (omega arith) (omega arith) is read in
    record { answered = both.0; exact = both.1 }
