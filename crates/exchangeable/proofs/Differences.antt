-- The difference table, and what its columns say of events.
use Rattle.std.proofs.Common.{◌≡◌, ℕ, zero, suc, ◌+◌, ◌-◌, ◌*◌, ◌^◌, ◌<◌, ◌≤◌, List, get_or, ℤ, pos, ◌+ℤ◌, ◌-ℤ◌, neg_ℤ, nat_abs, ◌≤ℤ◌, sym, ap, ◌∙◌, ap₂, pow-suc, pow_mono, arith}
use lib.IntN.{+ℤ-neg_ℤ_cancel, -ℤ-+ℤ_cancel, *ℤ-one, *ℤ_comm}
use lib.Signed.{≤ℤ_refl}
use Rattle.std.proofs.lemmas.Int.{ints}
use Rattle.algebra.specs.Waring.{signed}
use Rattle.exchangeable.specs.Events.{integers, value, top, HasEvents}
use Rattle.exchangeable.proofs.Sums.{bin, bin_more, bin_ext, bin_neg}

-- A sum of one term is that term.
bin_zero : (w : ℕ → ℤ) (k : ℕ) → bin 0 (λ i. w (k + i)) ≡ w k
unfolding lib.IntN.one
bin_zero w k = *ℤ_comm (pos 1) (w (k + 0)) ∙ *ℤ-one (w (k + 0)) ∙ ap w (let e : k + 0 ≡ k = omega arith in e)

-- The t-th differences from place k on.
abbrev pub diff : (ℕ → ℤ) → ℕ → ℕ → ℤ
diff f zero k = f k
diff f (suc t) k = diff f t k -ℤ diff f t (suc k)

-- The coefficients of a table, as a function of the place.
abbrev pub at : List ℕ → ℕ → ℤ
at u k = pos (get_or u k 0)

-- The alternating sum is that difference.
alternating : (f : ℕ → ℤ) (t k : ℕ) → bin t (λ j. signed integers j (f (k + j))) ≡ diff f t k
alternating f zero k = bin_zero f k
alternating f (suc t) k =
    let next : bin t (λ j. neg_ℤ (signed integers j (f (k + suc j)))) ≡ neg_ℤ (bin t (λ j. signed integers j (f (suc k + j)))) =
    bin_neg t (λ j. signed integers j (f (k + suc j)))
    ∙ ap neg_ℤ (bin_ext t _ _ (λ j. ap (λ i. signed integers j (f i)) (let e : k + suc j ≡ suc k + j = omega arith in e))) in
    bin_more t (λ j. signed integers j (f (k + j)))
    ∙ ap (λ z. z +ℤ bin t (λ j. neg_ℤ (signed integers j (f (k + suc j))))) (alternating f t k)
    ∙ ap (λ z. diff f t k +ℤ z) (next ∙ ap neg_ℤ (alternating f t (suc k)))

pub value_is : (u : List ℕ) (k m : ℕ) → value u k m ≡ diff (at u) (m - k) k
value_is u k m = alternating (at u) (m - k) k

-- V(k, m) is V(k, m − 1) − V(k + 1, m)
pub value_step : (u : List ℕ) (k m : ℕ) → k < m → value u k m ≡ value u k (m - 1) -ℤ value u (k + 1) m
value_step u k m h =
    let a : m - k ≡ suc (m - (k + 1)) = omega arith in
    let b : m - (k + 1) ≡ m - 1 - k = omega arith in
    let s : k + 1 ≡ suc k = omega arith in
    value_is u k m ∙ ap (λ t. diff (at u) t k) a
    ∙ ap₂ ◌-ℤ◌ (ap (λ t. diff (at u) t k) b ∙ sym (value_is u k (m - 1)))
    (ap (λ i. diff (at u) (m - (k + 1)) i) (sym s) ∙ sym (value_is u (k + 1) m))

-- How large the differences grow.
abs_sub : (a b : ℤ) → nat_abs (a -ℤ b) ≤ nat_abs a + nat_abs b
abs_sub a b = omega (arith, ints)

diff_size : (f : ℕ → ℤ) (b : ℕ) → ((j : ℕ) → nat_abs (f j) ≤ b) → (t k : ℕ) → nat_abs (diff f t k) ≤ b * 2 ^ t
diff_size f b h zero k = omega (arith, h k)
diff_size f b h (suc t) k =
    rw (pow-suc 2 t) (omega (arith, abs_sub (diff f t k) (diff f t (suc k)), diff_size f b h t k, diff_size f b h t (suc k)))

pub value_size : (u : List ℕ) → ((j : ℕ) → get_or u j 0 ≤ 2 ^ 30) → (k m : ℕ) → m ≤ 32 → nat_abs (value u k m) ≤ 2 ^ 62
value_size u h k m le =
    rw (value_is u k m) (omega (arith, diff_size (at u) (2 ^ 30) h (m - k) k, pow_mono {i = m - k} {j = 32} (omega arith)))

-- Columns before a column with nothing below zero.
module _ (f : ℕ → ℤ) (n : ℕ) (last : (k : ℕ) → k ≤ n → pos 0 ≤ℤ diff f (n - k) k) where
  pub diff_nonneg : (s t k : ℕ) → t + k + s ≡ n → pos 0 ≤ℤ diff f t k
  diff_nonneg zero t k e = let q : n - k ≡ t = omega arith in rw q at (last k (omega arith))
  diff_nonneg (suc s) t k e =
      sum_nonneg (diff f t k) (diff f t (suc k)) (diff_nonneg s (suc t) k (omega arith)) (diff_nonneg s t (suc k) (omega arith))
    where
      sum_nonneg : (a b : ℤ) → pos 0 ≤ℤ (a -ℤ b) → pos 0 ≤ℤ b → pos 0 ≤ℤ a
      sum_nonneg a b p q = omega (arith, ints)

  pub diff_falls : (t k : ℕ) → t + k ≤ n → diff f t k ≤ℤ f k
  diff_falls zero k h = ≤ℤ_refl (f k)
  diff_falls (suc t) k h =
      less (diff f t k) (diff f t (suc k)) (f k) (diff_falls t k (omega arith))
      (diff_nonneg (n - (t + suc k)) t (suc k) (omega arith))
    where
      less : (a b c : ℤ) → a ≤ℤ c → pos 0 ≤ℤ b → (a -ℤ b) ≤ℤ c
      less a b c p q = omega (arith, ints)

-- Columns and weights.
shifted : (w : ℕ → ℤ) (s k : ℕ) → bin (suc s) (λ i. w (k + i)) ≡ bin s (λ i. w (k + i)) +ℤ bin s (λ i. w (suc k + i))
shifted w s k =
    bin_more s (λ i. w (k + i))
    ∙ ap (λ z. bin s (λ i. w (k + i)) +ℤ z)
    (bin_ext s _ _ (λ i. ap w (let e : k + suc i ≡ suc k + i = omega arith in e)))

module _ (f w : ℕ → ℤ) (n : ℕ) where
  -- Where the last column is w, each column is a sum over w.
  from_last : ((k : ℕ) → k ≤ n → diff f (n - k) k ≡ w k) → (s t k : ℕ) → t + k + s ≡ n → diff f t k ≡ bin s (λ i. w (k + i))
  from_last h zero t k e = let q : n - k ≡ t = omega arith in rw q at (h k (omega arith)) ∙ sym (bin_zero w k)
  from_last h (suc s) t k e =
      sym (-ℤ-+ℤ_cancel (diff f t k) (diff f t (suc k)))
      ∙ ap₂ ◌+ℤ◌ (from_last h s (suc t) k (omega arith)) (from_last h s t (suc k) (omega arith)) ∙ sym (shifted w s k)

  -- And where u is a sum over w, so is each column.
  from_weights : ((j : ℕ) → j ≤ n → f j ≡ bin (n - j) (λ i. w (j + i))) → (t s k : ℕ) → t + k + s ≡ n → diff f t k ≡ bin s (λ i. w (k + i))
  from_weights h zero s k e = let q : n - k ≡ s = omega arith in rw q at (h k (omega arith))
  from_weights h (suc t) s k e =
      ap₂ ◌-ℤ◌ (from_weights h t (suc s) k (omega arith) ∙ shifted w s k) (from_weights h t s (suc k) (omega arith)) ∙ +ℤ-neg_ℤ_cancel _ _

-- The two halves of the theorem.
pub events_from : (u : List ℕ) → ((k : ℕ) → k ≤ top u → pos 0 ≤ℤ value u k (top u)) → HasEvents u
events_from u h = (weight, λ j le. from_last (at u) (λ k. pos (weight k)) (top u) is (top u - j) 0 j (omega arith))
  where
    weight : ℕ → ℕ
    weight k = nat_abs (value u k (top u))

    pos_abs : (z : ℤ) → pos 0 ≤ℤ z → z ≡ pos (nat_abs z)
    pos_abs z p = omega (arith, ints)

    is : (k : ℕ) → k ≤ top u → diff (at u) (top u - k) k ≡ pos (weight k)
    is k le = sym (value_is u k (top u)) ∙ pos_abs _ (h k le)

pub events_nonneg : (u : List ℕ) → HasEvents u → (k : ℕ) → k ≤ top u → value u k (top u) ≡ pos (nat_abs (value u k (top u)))
events_nonneg u (w, h) k le =
    pos_from (value u k (top u)) (w k)
    (value_is u k (top u) ∙ from_weights (at u) (λ i. pos (w i)) (top u) h (top u - k) 0 k (omega arith) ∙ bin_zero (λ i. pos (w i)) k)
  where
    pos_from : (z : ℤ) (a : ℕ) → z ≡ pos a → z ≡ pos (nat_abs z)
    pos_from z a e = e ∙ ap (λ x. pos (nat_abs x)) (sym e)
