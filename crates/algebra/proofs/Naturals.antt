-- Sums over the survival patterns of lives against a whole, in ordinary whole numbers: how large they are.
use Rattle.std.proofs.Common.{◌≡◌, ℕ, zero, suc, ◌+◌, ◌-◌, ◌*◌, ◌^◌, ◌≤◌, List, [], ◌∷◌, length, sym, ◌∙◌, ap₂, arith}
use native.Mathlib.Nat.{pow-zero, pow-succ'}
use Rattle.std.specs.List.{AllByRecursion}
use Rattle.algebra.specs.Patterns.{Life, naturals, natural_life, natural_lives, exactly, at_least}
use Rattle.algebra.proofs.Semiring.{naturals_laws}
use Rattle.algebra.proofs.Patterns.{at_least_zero_cons, at_least_split}

-- All patterns together are worth the power.
pub all_patterns : (d : ℕ) (ps : List ℕ) → AllByRecursion (λ p. p ≤ d) ps → at_least naturals 0 (natural_lives d ps) ≡ d ^ length ps
all_patterns d [] h = sym (pow-zero d)
all_patterns d (p ∷ ps) h =
    let e : p + (d - p) ≡ d = omega (arith, h.0) in
    at_least_zero_cons naturals_laws (natural_life d p) (natural_lives d ps)
    ∙ ap₂ ◌*◌ e (all_patterns d ps h.1) ∙ sym (pow-succ' d (length ps))

-- Those with at least k alive are among them, and those with exactly k among these.
at_least_within : (k : ℕ) (ls : List (Life ℕ)) → at_least naturals k ls ≤ at_least naturals 0 ls
at_least_within zero ls = omega arith
at_least_within (suc k) ls = omega (arith, at_least_split naturals_laws k ls, at_least_within k ls)

pub exactly_within : (d : ℕ) (ps : List ℕ) (k : ℕ) → AllByRecursion (λ p. p ≤ d) ps → exactly naturals k (natural_lives d ps) ≤ d ^ length ps
exactly_within d ps k h =
    let ls = natural_lives d ps in
    omega (arith, at_least_split naturals_laws k ls, at_least_within k ls, all_patterns d ps h)
