-- The power, worked in floats: whether the next one stays up to 2^53 is seen before it is worked.
use Rattle.std.proofs.Common.{◌≡◌, ℕ, ◌+◌, ◌*◌, ◌/◌, ◌^◌, ◌<◌, ◌≤◌, true, false, pos, nat_lt, Option, None, Some, if◌then◌else◌, inl, inr, sym, ap, ◌∙◌, ap₂, add-one, arith}
use native.Mathlib.Nat.{pow-suc, pow-le-pow_right, le-div_iff_mul-le, div-lt_iff_lt-mul}
use lib.Ieee.{Float, binary64, lt, mul, of_int}
use Rattle.std.proofs.lemmas.Bool.{cases_lt, cond-true, cond-false, lt-ltb, le-ltb, ltb-true, ltb-false}
use Rattle.std.proofs.lemmas.Option.{none-some}
use Rattle.std.specs.Option.{unwrap_or}
use Rattle.counts.specs.Answer.{most}
use Rattle.counts.specs.Floats.{float}
use Rattle.counts.proofs.Floats.{product_exact, less_exact, cast_exact}

pub power_more : (d i : ℕ) → d ^ (i + 1) ≡ d ^ i * d
power_more d i = ap (λ k. d ^ k) (add-one i) ∙ pow-suc d i

-- x is the power so far, and m what d may still multiply.
module _ (d i : ℕ) (x m : Float) (some : 0 < d) (is-x : x ≡ float (d ^ i)) (is-m : m ≡ of_int binary64 (pos (most / d))) where
  compared : lt m x ≡ nat_lt (most / d) (d ^ i)
  compared = ap₂ lt (is-m ∙ cast_exact (most / d) (omega arith)) is-x ∙ less_exact (most / d) (d ^ i)

  pub power_within : lt m x ≡ false → d ^ (i + 1) ≤ most
  power_within e = rw (power_more d i) ((le-div_iff_mul-le some).0 (ltb-false (most / d) (d ^ i) (sym compared ∙ e)))

  pub power_past : (n : ℕ) → i < n → lt m x ≡ true → most < d ^ n
  power_past n below e =
      let over : most < d ^ (i + 1) = rw (power_more d i) ((div-lt_iff_lt-mul some).0 (ltb-true (most / d) (d ^ i) (sym compared ∙ e))) in
      omega (arith, over, pow-le-pow_right some {i = i + 1} {j = n} (omega arith))

  -- The next power is worked exactly.
  pub power_exact : (f : Float) → f ≡ of_int binary64 (pos d) → d ≤ most → d ^ (i + 1) ≤ most → mul binary64 x f ≡ float (d ^ (i + 1))
  power_exact f is-f small within =
      let next = power_more d i in
      ap₂ (mul binary64) is-x (is-f ∙ cast_exact d small) ∙ product_exact (d ^ i) d (omega (arith, next)) ∙ ap float (sym next)

-- What is told of a power that is handed out.
pub power_given : (d n : ℕ) (o : Option Float) (x : Float) → o ≡ (if nat_lt most (d ^ n) then None else Some (float (d ^ n))) → o ≡ Some x → (d ^ n ≤ most) × (x ≡ float (d ^ n))
power_given d n o x is given = elim (cases_lt most (d ^ n)) [
  | inl past ↦ absurd (none-some x (sym (is ∙ cond-true _ _ _ (lt-ltb most (d ^ n) past)) ∙ given))
  | inr within ↦ (within, ap (λ z. unwrap_or z x) (sym given ∙ is ∙ cond-false _ _ _ (le-ltb most (d ^ n) within)))
]
