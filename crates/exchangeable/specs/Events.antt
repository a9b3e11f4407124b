-- Exchangeable events and their tables.
-- A table u holds u_0 to u_n: u_j over u_0 is the chance that j chosen events out of n all occur.
use Rattle.std.specs.Prelude.{◌≡◌, ℕ, suc, ◌+◌, ◌-◌, ◌*◌, ◌≤◌, List, map, length, ℤ, pos, ◌+ℤ◌, ◌*ℤ◌, neg_ℤ, slice_index}
use Rattle.std.specs.List.{range_with_len}
use Rattle.algebra.specs.Binomial.{choose}
use Rattle.algebra.specs.Ring.{Ops}
use Rattle.algebra.specs.Waring.{signed, sum_to}

-- n, the number of events: the highest place of the table.
abbrev pub top : List ℕ → ℕ
top u = length u - 1

-- The arithmetic of the positive and negative whole numbers, in which the sums are taken.
abbrev pub integers : Ops ℤ
integers = record { zero = pos 0; one = pos 1; plus = ◌+ℤ◌; minus = neg_ℤ; times = ◌*ℤ◌ }

-- V(k, m), the sum over j from 0 to m − k of (−1)^j C(m − k, j) u_(k+j): over u_0, the chance that k chosen
-- events out of m chosen ones occur and the other m − k do not. It may come out negative.
abbrev pub value : List ℕ → ℕ → ℕ → ℤ
value u k m = sum_to integers (m - k) (λ j. pos (choose (m - k) j) *ℤ signed integers j (pos (slice_index u (k + j))))

-- The row for m: the entries C(m, k) V(k, m) for k from 0 to m.
abbrev pub row : List ℕ → ℕ → List ℤ
row u m = map (λ k. pos (choose m k) *ℤ value u k m) (range_with_len 0 (suc m))

-- Exchangeable events have the table u: with some whole numbers w_0 to w_n, none below zero, each u_j is the sum over k from j to
-- n of C(n − j, k − j) w_k. (w_k weighs each way in which k of the events occur and the others do not. Here k is j + i.)
abbrev pub HasEvents : List ℕ → Type 0
HasEvents u =
    (w : ℕ → ℕ)
    × ((j : ℕ) → j ≤ top u → pos (slice_index u j) ≡ sum_to integers (top u - j) (λ i. pos (choose (top u - j) i * w (j + i))))
