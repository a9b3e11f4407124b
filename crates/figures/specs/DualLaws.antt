-- A proof, nothing to believe: dual numbers over a ring keep the laws.
use Rattle.std.specs.Prelude.{◌≡◌, ℕ, zero, suc, [], ◌∷◌, refl}
use Rattle.std.proofs.Common.{ap, ap₂}
use Rattle.algebra.specs.Ring.{Ops, Laws}
use Rattle.algebra.specs.Sums.{multiple}
use Rattle.algebra.proofs.Solver.{ring, made}
use Rattle.figures.specs.Duals.{ops, dual}
use Rattle.figures.specs.declared.kinds.Dual.{Dual}

module _ {F : Type 0} {o : Ops F} (L : Laws o) where
  -- The rates, where the law is more than the same law of the parts.
  rate_comm : (a b c e : F) → o.plus (o.times a e) (o.times b c) ≡ o.plus (o.times c b) (o.times e a)
  rate_comm a b c e = ring L (a ∷ b ∷ c ∷ e ∷ []) (search made depth 40 fits 100000) tt

  rate_assoc : (a b c e f g : F) →
      o.plus (o.times (o.times a c) g) (o.times (o.plus (o.times a e) (o.times b c)) f)
      ≡ o.plus (o.times a (o.plus (o.times c g) (o.times e f))) (o.times b (o.times c f))
  rate_assoc a b c e f g = ring L (a ∷ b ∷ c ∷ e ∷ f ∷ g ∷ []) (search made depth 40 fits 100000) tt

  rate_one : (a b : F) → o.plus (o.times a o.zero) (o.times b o.one) ≡ b
  rate_one a b = ring L (a ∷ b ∷ []) (search made depth 40 fits 100000) tt

  rate_plus : (a b c e f g : F) →
      o.plus (o.times a (o.plus e g)) (o.times b (o.plus c f))
      ≡ o.plus (o.plus (o.times a e) (o.times b c)) (o.plus (o.times a g) (o.times b f))
  rate_plus a b c e f g = ring L (a ∷ b ∷ c ∷ e ∷ f ∷ g ∷ []) (search made depth 40 fits 100000) tt

  pub dual_laws : Laws (ops o)
  dual_laws = record {
    plus_comm = λ x y. ap₂ dual (L.plus_comm _ _) (L.plus_comm _ _);
    plus_assoc = λ x y z. ap₂ dual (L.plus_assoc _ _ _) (L.plus_assoc _ _ _);
    plus_zero = λ x. ap₂ dual (L.plus_zero _) (L.plus_zero _);
    plus_minus = λ x. ap₂ dual (L.plus_minus _) (L.plus_minus _);
    times_comm = λ x y. ap₂ dual (L.times_comm _ _) (rate_comm x.value x.rate y.value y.rate);
    times_assoc = λ x y z. ap₂ dual (L.times_assoc _ _ _) (rate_assoc x.value x.rate y.value y.rate z.value z.rate);
    times_one = λ x. ap₂ dual (L.times_one _) (rate_one x.value x.rate);
    times_plus = λ x y z. ap₂ dual (L.times_plus _ _ _) (rate_plus x.value x.rate y.value y.rate z.value z.rate);
  }

-- A multiple goes part by part.
pub multiple_parts : {F : Type 0} (o : Ops F) (c : ℕ) (x : Dual F) → multiple (ops o) c x ≡ dual (multiple o c x.value) (multiple o c x.rate)
multiple_parts o zero x = refl
multiple_parts o (suc c) x = ap ((ops o).plus x) (multiple_parts o c x)
