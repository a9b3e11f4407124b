-- The row of exactly 0, exactly 1, … alive, and the row of two households from their rows.
use Rattle.std.specs.Prelude.{ℕ, ◌+◌, ◌-◌, List, map, slice_index_or}
use Rattle.std.specs.List.{range_with_len}
use Rattle.algebra.specs.Ring.{Semi}
use Rattle.algebra.specs.Patterns.{Life, total, exactly}

-- The first `size` entries; n lives have n + 1 of them, and after these come zeros.
abbrev pub row : {F : Type 0} → Semi F → ℕ → List (Life F) → List F
row s size ls = map (λ k. exactly s k ls) (range_with_len 0 size)

module _ {F : Type 0} (s : Semi F) where
  -- Entry i of a row; zero past the row's end.
  abbrev pub entry_or_zero : List F → ℕ → F
  entry_or_zero xs i = slice_index_or xs i s.zero

  -- The sum, over i from 0 to k, of entry i of the first row times entry k − i of the second.
  abbrev pub convolution : List F → List F → ℕ → F
  convolution xs ys k = total s (map (λ i. s.times (entry_or_zero xs i) (entry_or_zero ys (k - i))) (range_with_len 0 (k + 1)))
