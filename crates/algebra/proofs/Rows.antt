-- Rows made from a function of the place.
use Rattle.std.proofs.Common.{◌≡◌, ℕ, zero, suc, ◌+◌, ◌<◌, ◌≤◌, ◌≢◌, ◌⊎◌, List, ◌∷◌, map, length, get_or, set, replicate, refl, ap, ◌∙◌, ap₂, inl, inr, zero-add, arith, length-set}
use Rattle.std.specs.List.{range_with_len}
use Rattle.std.proofs.lemmas.List.FromFn.{length-map-range_with_len, get_or-map-range_with_len, fill_by_all}
use Rattle.std.proofs.lemmas.List.{get_or-set_same, get_or-set_other}
use Rattle.std.proofs.lemmas.Bool.{cases_eq}

-- What stands before a place: z before the first.
abbrev pub below : {X : Type 0} → X → (ℕ → X) → ℕ → X
below z f zero = z
below z f (suc k) = f k

pub map_counting_constant : {X : Type 0} (f : ℕ → X) (c : X) (a n : ℕ) → ((k : ℕ) → a ≤ k → f k ≡ c) → map f (range_with_len a n) ≡ replicate n c
map_counting_constant f c a zero e = refl
map_counting_constant f c a (suc n) e = ap₂ ◌∷◌ (e a (omega arith)) (map_counting_constant f c (a + 1) n (λ k h. e k (omega arith)))

module _ {X : Type 0} (f : ℕ → X) (n : ℕ) (xs : List X) (is : xs ≡ map f (range_with_len 0 n)) where
  pub length_counting : length xs ≡ n
  length_counting = ap length is ∙ length-map-range_with_len f 0 n

  pub get_or_counting : (k : ℕ) (e : X) → k < n → get_or xs k e ≡ f k
  get_or_counting k e h = ap (λ ys. get_or ys k e) is ∙ get_or-map-range_with_len f 0 n k k e h (zero-add k)

module _ {X : Type 0} (f g : ℕ → X) (n : ℕ) where
  pub map_counting_same : ((k : ℕ) → k < n → f k ≡ g k) → map f (range_with_len 0 n) ≡ map g (range_with_len 0 n)
  map_counting_same same = fill_by_all g (map f (range_with_len 0 n)) n (f 0) (length-map-range_with_len f 0 n) (λ k h. get_or_counting f n _ refl k (f 0) h ∙ same k h)

  -- One place is written: where f and g agree elsewhere, the row of f has become the row of g.
  pub set_map_counting : (i : ℕ) (v : X) → v ≡ g i → ((k : ℕ) → k < n → k ≢ i → f k ≡ g k) → set (map f (range_with_len 0 n)) i v ≡ map g (range_with_len 0 n)
  set_map_counting i v here elsewhere = fill_by_all g (set (map f (range_with_len 0 n)) i v) n v (length-set (map f (range_with_len 0 n)) i v ∙ length-map-range_with_len f 0 n) each
    where
      at : (k : ℕ) → k < n → (k ≡ i) ⊎ (k ≡ i → ⊥) → get_or (set (map f (range_with_len 0 n)) i v) k v ≡ g k
      at k h (inl e) =
          let within : i < length (map f (range_with_len 0 n)) = rw length-map-range_with_len (omega arith) in
          rw e (get_or-set_same (map f (range_with_len 0 n)) i v v within ∙ here)
      at k h (inr e) = get_or-set_other (map f (range_with_len 0 n)) i k v v e ∙ get_or_counting f n _ refl k v h ∙ elsewhere k h e

      each : (k : ℕ) → k < n → get_or (set (map f (range_with_len 0 n)) i v) k v ≡ g k
      each k h = at k h (cases_eq k i)
