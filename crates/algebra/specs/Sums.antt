-- Powers, multiples, and the sums over choices of figures, in any ring.
use Rattle.std.specs.Prelude.{ℕ, zero, suc, List, map}
use Rattle.algebra.specs.Ring.{Ops, semi}
use Rattle.algebra.specs.Patterns.{Life, exactly}

module _ {F : Type 0} (o : Ops F) where
  -- The n-th power of d; one for n = 0.
  abbrev pub power : F → ℕ → F
  power d zero = o.one
  power d (suc n) = o.times d (power d n)

  -- c·x for a whole number c: the sum of c copies of x.
  abbrev pub multiple : ℕ → F → F
  multiple zero x = o.zero
  multiple (suc c) x = o.plus x (multiple c x)

  -- The r-th elementary symmetric sum of the figures: over all choices of r of them, the sum of their products.
  -- A chosen figure counts by itself, one that is not chosen counts one.
  abbrev pub elementary : ℕ → List F → F
  elementary r ps = exactly (semi o) r (map (λ p. record { alive = p; dead = o.one }) ps)

  -- The lives with figures ps against the whole d: p where alive, d − p where dead.
  abbrev pub against : F → List F → List (Life F)
  against d ps = map (λ p. record { alive = p; dead = o.plus d (o.minus p) }) ps
