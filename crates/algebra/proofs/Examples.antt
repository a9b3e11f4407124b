-- Checked examples: what the solver proves, and that sums over patterns compute. Nothing cites them: each shows by itself
-- that it is proved.
use Rattle.std.proofs.Common.{◌≡◌, ℕ, List, [], ◌∷◌, refl}
use Rattle.algebra.specs.Ring.{Ops, Laws, Semi}
use Rattle.algebra.specs.Patterns.{Life, exactly, at_least, naturals}
use Rattle.algebra.specs.Rows.{row}
use Rattle.algebra.proofs.Semiring.{SemiLaws}
use Rattle.algebra.proofs.Solver.{semiring, ring, by, made}

module _ {F : Type 0} {s : Semi F} (L : SemiLaws s) where
  products_of_sums : (a b c d : F) → s.times (s.plus a b) (s.plus c d) ≡ s.plus (s.times d (s.plus b a)) (s.times c (s.plus b a))
  products_of_sums a b c d = semiring L (a ∷ b ∷ c ∷ d ∷ []) (search made depth 40 fits 100000) tt

module _ {F : Type 0} {o : Ops F} (L : Laws o) where
  infixl 60 ◌+◌ ◌-◌
  infixl 70 ◌·◌
  abbrev ◌+◌ : F → F → F
  x + y = o.plus x y

  abbrev ◌-◌ : F → F → F
  x - y = o.plus x (o.minus y)

  abbrev ◌·◌ : F → F → F
  x · y = o.times x y

  times_difference : (a b c : F) → a · (b - c) ≡ a · b - a · c
  times_difference a b c = ring L (a ∷ b ∷ c ∷ []) (search made depth 40 fits 100000) tt

  squares : (a b : F) → (a + b) · (a - b) ≡ a · a - b · b
  squares a b = ring L (a ∷ b ∷ []) (search made depth 40 fits 100000) tt

  nothing : (a : F) → a · o.zero + o.minus (o.minus a) · o.one ≡ a
  nothing a = ring L (a ∷ []) (search made depth 40 fits 100000) tt

  -- Any term may be an atom.
  any_atom : (f : ℕ → F) (n : ℕ) (a : F) → f n · (a - f n) + f n · f n ≡ a · f n
  any_atom f n a = ring L (f n ∷ a ∷ []) (search made depth 40 fits 100000) tt

  four_squares : (a b c d e f g h : F) →
      (a · a + b · b + c · c + d · d) · (e · e + f · f + g · g + h · h)
      ≡ (a · e + b · f + c · g + d · h) · (a · e + b · f + c · g + d · h)
      + (a · f - b · e + c · h - d · g) · (a · f - b · e + c · h - d · g)
      + (a · g - b · h - c · e + d · f) · (a · g - b · h - c · e + d · f)
      + (a · h + b · g - c · f - d · e) · (a · h + b · g - c · f - d · e)
  four_squares a b c d e f g h = ring L (a ∷ b ∷ c ∷ d ∷ e ∷ f ∷ g ∷ h ∷ []) (search made depth 40 fits 100000) tt

  -- From a hypothesis: x + x·(b − a) and x differ by x·(b − a).
  with_hypothesis : (x a b : F) → b ≡ a → x + x · (b - a) ≡ x
  with_hypothesis x a b h = by L x h (ring L (x ∷ a ∷ b ∷ []) (search made depth 40 fits 100000) tt)

abbrev three : List (Life ℕ)
three = record { alive = 1; dead = 2 } ∷ record { alive = 3; dead = 4 } ∷ record { alive = 5; dead = 6 } ∷ []

-- 1·3·6 + 1·4·5 + 2·3·5.
two_of_three : exactly naturals 2 three ≡ 68
two_of_three = refl

two_or_three : at_least naturals 2 three ≡ 83
two_or_three = refl

-- (1·x + 2)·(3·x + 4)·(5·x + 6).
row_of_three : row naturals 5 three ≡ 48 ∷ 100 ∷ 68 ∷ 15 ∷ 0 ∷ []
row_of_three = refl
