-- Waring's formulas: exactly and at least k alive as alternating sums of the elementary symmetric sums.
use Rattle.std.specs.Prelude.{◌≡◌, ℕ, zero, suc, ◌+◌, ◌-◌, List, length}
use Rattle.algebra.specs.Ring.{Ops, semi}
use Rattle.algebra.specs.Patterns.{exactly, at_least}
use Rattle.algebra.specs.Binomial.{choose}
use Rattle.algebra.specs.Sums.{power, multiple, elementary, against}

module _ {F : Type 0} (o : Ops F) where
  -- (−1)^t · x.
  abbrev pub signed : ℕ → F → F
  signed zero x = x
  signed (suc t) x = o.minus (signed t x)

  -- f(0) + f(1) + … + f(m).
  abbrev pub sum_to : ℕ → (ℕ → F) → F
  sum_to zero f = f 0
  sum_to (suc m) f = o.plus (sum_to m f) (f (suc m))

  -- The sum over t from 0 to m of (−1)^t · c(t) · B(k+t) · d^(m−t), where B are the elementary sums of the figures.
  abbrev pub alternating : F → List F → (ℕ → ℕ) → ℕ → ℕ → F
  alternating d ps c k m = sum_to m (λ t. o.times (signed t (multiple o (c t) (elementary o (k + t) ps))) (power o d (m - t)))

  -- For n lives with the whole d, and k ≤ n: exactly k, with the binomials C(k+t, t).
  abbrev pub WaringExactly : F → List F → ℕ → Type 0
  WaringExactly d ps k = exactly (semi o) k (against o d ps) ≡ alternating d ps (λ t. choose (k + t) t) k (length ps - k)

  -- And for 1 ≤ k: at least k, with C(k+t−1, t).
  abbrev pub WaringAtLeast : F → List F → ℕ → Type 0
  WaringAtLeast d ps k = at_least (semi o) k (against o d ps) ≡ alternating d ps (λ t. choose (k + t - 1) t) k (length ps - k)
