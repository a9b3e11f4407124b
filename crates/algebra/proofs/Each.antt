-- That each element of a list has a property, told by recursion on the list.
use Rattle.std.proofs.Common.{ℕ, zero, suc, ◌+◌, ◌<◌, List, [], ◌∷◌, ◌++◌, map, length, get_or, take}
use Rattle.std.specs.List.{AllByRecursion, range_with_len}
use Rattle.std.proofs.lemmas.List.Elements.{All-from_get_or, All-take, recursion_from_All}

pub each_append : {X : Type 0} (P : X → Type 0) (xs ys : List X) → AllByRecursion P xs → AllByRecursion P ys → AllByRecursion P (xs ++ ys)
each_append P [] ys h k = k
each_append P (x ∷ xs) ys h k = (h.0, each_append P xs ys h.1 k)

-- What holds at each place holds of all elements, and of the first n.
pub each_held : {X : Type 0} (P : X → Type 0) (xs : List X) (d : X) → ((i : ℕ) → i < length xs → P (get_or xs i d)) → AllByRecursion P xs
each_held P xs d h = recursion_from_All P xs (All-from_get_or P xs d h)

pub each_taken : {X : Type 0} (P : X → Type 0) (xs : List X) (d : X) → ((i : ℕ) → i < length xs → P (get_or xs i d)) → (n : ℕ) → AllByRecursion P (take n xs)
each_taken P xs d h n = recursion_from_All P (take n xs) (All-take P n xs (All-from_get_or P xs d h))

pub each_counting : {X : Type 0} (P : X → Type 0) (f : ℕ → X) → ((k : ℕ) → P (f k)) → (i n : ℕ) → AllByRecursion P (map f (range_with_len i n))
each_counting P f h i zero = tt
each_counting P f h i (suc n) = (h i, each_counting P f h (i + 1) n)
