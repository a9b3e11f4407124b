-- The algebra's sum of a list is std's.
use Rattle.std.proofs.Common.{◌≡◌, ℕ, ◌≤◌, List, drop, sum, refl, arith}
use Rattle.std.proofs.lemmas.List.Recursion.{is_sum_by}
use Rattle.std.proofs.lemmas.List.Sums.{sum_by-take-drop}
use Rattle.algebra.specs.Patterns.{naturals, total}

pub total_is_sum : (xs : List ℕ) → total naturals xs ≡ sum xs
total_is_sum = is_sum_by (total naturals) (λ x. x) refl (λ _ _. refl)

-- The entries from k on add up to no more than all of them.
pub sum_drop_le : (k : ℕ) (xs : List ℕ) → sum (drop k xs) ≤ sum xs
sum_drop_le k xs = omega (arith, sum_by-take-drop (λ (x : ℕ). x) xs k)
