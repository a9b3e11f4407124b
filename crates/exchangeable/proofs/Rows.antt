-- What the calls of `exchangeable_row` give, put together.
use Rattle.std.proofs.Common.{◌≡◌, ℕ, suc, ◌+◌, ◌-◌, ◌^◌, ◌<◌, ◌≤◌, List, map, ◌++◌, length, get_or, take, drop, ℤ, pos, ◌*ℤ◌, nat_abs, ◌≤ℤ◌, ◌<ℤ◌, ap, ap₂, ◌∙◌, arith}
use Rattle.std.proofs.lemmas.List.FromFn.{fill_by_all}
use Rattle.std.proofs.lemmas.List.{drop_at, get_or-map, get_or-take, length-take-le, take_at, length-map}
use Rattle.std.proofs.lemmas.Int.{ints}
use Rattle.algebra.specs.Binomial.{choose}
use Rattle.algebra.proofs.Binomial.{choose_fits}
use Rattle.exchangeable.specs.Answer.{Admitted, Refused}
use Rattle.exchangeable.specs.Events.{value, row, top}
use Rattle.exchangeable.specs.declared.Refusal.TheVariants.{Impossible}
use Rattle.exchangeable.proofs.Columns.{all_small}
use Rattle.exchangeable.proofs.Differences.{at, diff, value_is, diff_nonneg, diff_falls, events_nonneg}

module _ (u : List ℕ) (ws : List ℤ) (n : ℕ) (last : n ≡ top u) (long : n < length ws)
    (is : (k : ℕ) → k < n + 1 → get_or ws k (pos 0) ≡ value u k (n + 1 - 1)) where
  read : (k : ℕ) → k ≤ top u → get_or (take (n + 1) ws) k (pos 0) ≡ value u k (top u)
  read k l = get_or-take (n + 1) ws k (pos 0) (omega arith) ∙ is k (omega arith) ∙ ap (value u k) (omega arith)

  front : length (take (n + 1) ws) ≡ n + 1
  front = length-take-le (n + 1) ws (omega arith)

  pub none_below : ((k : ℕ) → k < length (take (n + 1) ws) → pos 0 ≤ℤ get_or (take (n + 1) ws) k (pos 0))
      → (k : ℕ) → k ≤ top u → pos 0 ≤ℤ value u k (top u)
  none_below h k le = rw (read k le) at (h k (omega (arith, front)))

  pub some_below : (m : ℕ) (out : List ℕ) (p : ℕ) → Admitted u → m ≤ top u → m + 1 ≤ length out
      → (p < length (take (n + 1) ws)) × (get_or (take (n + 1) ws) p (pos 0) <ℤ pos 0)
      × ((i : ℕ) → i < p → pos 0 ≤ℤ get_or (take (n + 1) ws) i (pos 0))
      → Refused u m out (Impossible p)
  some_below m out p a le fits h =
      let l : p ≤ top u = omega (arith, front, h.0) in
      let neg : value u p (top u) <ℤ pos 0 = rw (read p l) at h.1 in (
        a,
        le,
        fits,
        (λ e. apart (value u p (top u)) neg (events_nonneg u e p l)),
        l,
        neg,
        λ i q. rw (read i (omega arith)) at (h.2 i q),
      )
    where
      apart : (z : ℤ) → z <ℤ pos 0 → z ≡ pos (nat_abs z) → ⊥
      apart z n e = omega (arith, ints)

-- Once the last column has nothing below zero, each entry lies between 0 and the table's limit.
module _ (u : List ℕ) (a : Admitted u) (last : (k : ℕ) → k ≤ top u → pos 0 ≤ℤ value u k (top u)) where
  last_diff : (k : ℕ) → k ≤ top u → pos 0 ≤ℤ diff (at u) (top u - k) k
  last_diff k le = rw (value_is u k (top u)) at (last k le)

  value_nonneg : (k m : ℕ) → k ≤ m → m ≤ top u → pos 0 ≤ℤ value u k m
  value_nonneg k m le in' = rw (value_is u k m) (diff_nonneg (at u) (top u) last_diff (top u - m) (m - k) k (omega arith))

  value_small : (k m : ℕ) → k ≤ m → m ≤ top u → value u k m ≤ℤ pos (2 ^ 30)
  value_small k m le in' =
      rw (value_is u k m) (below _ (get_or u k 0) (diff_falls (at u) (top u) last_diff (m - k) k (omega arith)) (all_small u a k))
    where
      below : (z : ℤ) (b : ℕ) → z ≤ℤ pos b → b ≤ 2 ^ 30 → z ≤ℤ pos (2 ^ 30)
      below z b p q = omega (arith, ints)

-- The factors and values of the row for m, where the factors stand in a slice of m + 1.
module _ (u : List ℕ) (m : ℕ) (front fs : List ℕ) (vs : List ℤ) (all : length front ≡ m + 1) (same : length fs ≡ length front)
    (factors : (k : ℕ) → k < length front → get_or fs k 0 ≡ choose (length front - 1) k)
    (values : (k : ℕ) → k < m + 1 → get_or vs k (pos 0) ≡ value u k (m + 1 - 1)) where
  factor : (k : ℕ) → k < length fs → get_or fs k 0 ≡ choose m k
  factor k l = factors k (omega arith) ∙ ap (λ n. choose n k) (omega arith)

  worth : (k : ℕ) → k < length fs → get_or vs k (pos 0) ≡ value u k m
  worth k l = values k (omega arith) ∙ ap (value u k) (omega arith)

  pub sizes : Admitted u → m ≤ top u → ((k : ℕ) → k ≤ top u → pos 0 ≤ℤ value u k (top u)) → (k : ℕ) → k < length fs
      → (get_or fs k 0 ≤ 2 ^ 31) × (pos 0 ≤ℤ get_or vs k (pos 0)) × (get_or vs k (pos 0) ≤ℤ pos (2 ^ 30))
  sizes a le last k l =
      rw (factor k l, worth k l)
      (choose_fits 31 m k (omega (arith, a.0.1)), value_nonneg u a last k m (omega arith) le, value_small u a last k m (omega arith) le)

  pub row_from : (after rest : List ℕ) → length after ≡ length fs
      → ((k : ℕ) → k < length fs → pos (get_or after k 0) ≡ pos (get_or fs k 0) *ℤ get_or vs k (pos 0))
      → (map pos (take (m + 1) (after ++ rest)) ≡ row u m) × (drop (m + 1) (after ++ rest) ≡ rest)
  row_from after rest long h = (
    ap (map pos) (take_at after rest (m + 1) (omega arith))
        ∙ fill_by_all (λ k. pos (choose m k) *ℤ value u k m) (map pos after) (suc m) (pos 0)
        (length-map after pos ∙ omega arith)
        (λ k l.
        get_or-map pos after k 0 (pos 0) (omega arith)
        ∙ h k (omega arith) ∙ ap₂ ◌*ℤ◌ (ap pos (factor k (omega arith))) (worth k (omega arith))),
    drop_at after rest (m + 1) (omega arith),
  )
