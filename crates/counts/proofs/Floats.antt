-- Sums and products of floats that are whole numbers up to 2^53: nothing is lost.
use Rattle.std.proofs.Common.{◌≡◌, ℕ, zero, suc, ◌+◌, ◌-◌, ◌*◌, ◌/◌, ◌^◌, ◌≤◌, true, false, T, pos, leb, nat_lt, [], ◌∷◌, ℤ, refl, sym, ap, ◌∙◌, ap₂, subst, arith, true≢false, mul-pos, mul-le-mul_right, lit<}
use Rattle.std.proofs.lemmas.Bool.{cond-true, le-leb}
use Rattle.std.specs.Float.{Float, nan, inf, fin, binary64, float_zero}
use lib.Count.{count_trailing_zeros}
use lib.Ieee.{up, down, minus, round, add, mul, odd, fits, lt, of_int, of_bits}
use lib.Ieee.Exact.{HasValue, odd_sign}
use lib.Ieee.Fits.{down_pos, round-fits, odd-fits}
use lib.Ieee.Scale.{round_same}
use lib.Ieee.Back.{round_whole, whole_unique}
use native.Mathlib.Nat.{lt_of_le_of_lt}
use Rattle.std.specs.Float.Order.{lt_at}
use Rattle.algebra.proofs.Semiring.{naturals_laws}
use Rattle.algebra.proofs.Solver.{semiring, made}
use Rattle.counts.specs.Answer.{most}
use Rattle.counts.specs.Floats.{IsExactly, float}

pub float_value : (n : ℕ) → IsExactly n (float n)
float_value n = subst (λ a. HasValue (float n) false a 1) (omega arith) (odd_sign 54 false n 0 0)

minus_up : (a b : ℕ) → b ≤ a → minus a b ≡ pos (a - b)
minus_up a b h = cond-true (leb b a) _ _ (le-leb b a h)

-- In units of the smallest float, where the library says what a format holds.
in_units : (n : ℕ) → float n ≡ odd 54 false n 1074 1074
unfolding odd
in_units zero = refl
in_units (suc q) =
    let t = count_trailing_zeros 54 (suc q) in
    ap (λ e. fin false (suc q / 2 ^ t) e) (minus_up (0 + t) 0 (omega arith) ∙ ap pos (omega arith) ∙ sym (minus_up (1074 + t) 1074 (omega arith)))

float_fits : (n : ℕ) → n ≤ most → T (fits binary64 (float n))
float_fits n h =
    subst (λ x. T (fits binary64 x)) (sym (in_units n))
    (odd-fits binary64 54 false n 1074 (omega arith) h (lt_of_le_of_lt (mul-le-mul_right (2 ^ 1074) h) (lit< tt)))

-- A number up to 2^53 is not rounded.
pub round_is_float : (n : ℕ) → n ≤ most → round binary64 false n 1 ≡ float n
round_is_float n h = whole_unique binary64 (round binary64 false n 1) (float n) false n (round-fits binary64 false n 1) (float_fits n h) (round_whole binary64 false n h) (float_value n)

-- What the operations give at floats that are whole numbers, rounded as it may be.
module _ (m n a b : ℕ) (e d : ℤ) (v : m * up e * 1 ≡ a * down e) (w : n * up d * 1 ≡ b * down d) where
  at_x : m * up e ≡ a * down e
  at_x = omega (arith, v)

  at_y : n * up d ≡ b * down d
  at_y = omega (arith, w)

  same_sum : (m * up e * down d + n * up d * down e) * 1 ≡ (a + b) * (down e * down d)
  same_sum =
      ap₂ (λ x y. (x * down d + y * down e) * 1) at_x at_y
      ∙ semiring naturals_laws (a ∷ b ∷ down e ∷ down d ∷ []) (search made depth 40 fits 100000) tt

  same_product : m * up e * (n * up d) * 1 ≡ a * b * (down e * down d)
  same_product = ap₂ (λ x y. x * y * 1) at_x at_y ∙ semiring naturals_laws (a ∷ b ∷ down e ∷ down d ∷ []) (search made depth 40 fits 100000) tt

sum_rounded : (x y : Float) (a b : ℕ) → HasValue x false a 1 → HasValue y false b 1 → add binary64 x y ≡ round binary64 false (a + b) 1
unfolding add
sum_rounded nan y a b v w = absurd v
sum_rounded (inf s) y a b v w = absurd v
sum_rounded (fin true m e) y a b v w = absurd (true≢false v.0)
sum_rounded (fin false m e) nan a b v w = absurd w
sum_rounded (fin false m e) (inf t) a b v w = absurd w
sum_rounded (fin false m e) (fin true n d) a b v w = absurd (true≢false w.0)
sum_rounded (fin false m e) (fin false n d) a b v w =
    round_same binary64 false (m * up e * down d + n * up d * down e) (down e * down d) (a + b) 1 (mul-pos (down_pos e) (down_pos d)) (omega arith) (same_sum m n a b e d v.1 w.1)

product_rounded : (x y : Float) (a b : ℕ) → HasValue x false a 1 → HasValue y false b 1 → mul binary64 x y ≡ round binary64 false (a * b) 1
unfolding mul
product_rounded nan y a b v w = absurd v
product_rounded (inf s) y a b v w = absurd v
product_rounded (fin true m e) y a b v w = absurd (true≢false v.0)
product_rounded (fin false m e) nan a b v w = absurd w
product_rounded (fin false m e) (inf t) a b v w = absurd w
product_rounded (fin false m e) (fin true n d) a b v w = absurd (true≢false w.0)
product_rounded (fin false m e) (fin false n d) a b v w =
    round_same binary64 false (m * up e * (n * up d)) (down e * down d) (a * b) 1 (mul-pos (down_pos e) (down_pos d)) (omega arith) (same_product m n a b e d v.1 w.1)

-- A sum and a product that stay up to 2^53 lose nothing.
pub sum_exact : (a b : ℕ) → a + b ≤ most → add binary64 (float a) (float b) ≡ float (a + b)
sum_exact a b h = sum_rounded (float a) (float b) a b (float_value a) (float_value b) ∙ round_is_float (a + b) h

pub product_exact : (a b : ℕ) → a * b ≤ most → mul binary64 (float a) (float b) ≡ float (a * b)
product_exact a b h = product_rounded (float a) (float b) a b (float_value a) (float_value b) ∙ round_is_float (a * b) h

-- The order is that of the numbers.
pub less_exact : (a b : ℕ) → lt (float a) (float b) ≡ nat_lt a b
less_exact a b = lt_at (float a) (float b) a 1 b 1 (omega arith) (omega arith) (float_value a) (float_value b) ∙ ap₂ nat_lt (omega arith) (omega arith)

-- What a cast gives.
pub cast_exact : (n : ℕ) → n ≤ most → of_int binary64 (pos n) ≡ float n
unfolding of_int
cast_exact n h = round_is_float n h

-- Zero and one, as they are written in the code, and zero among the operations.
pub float_zero_bits : of_bits binary64 0 ≡ float 0
unfolding of_bits odd
float_zero_bits = refl

pub float_one_bits : of_bits binary64 0x3ff0_0000_0000_0000 ≡ float 1
unfolding of_bits odd
float_one_bits = refl

pub float_zero_is : float_zero ≡ float 0
unfolding odd
float_zero_is = refl
