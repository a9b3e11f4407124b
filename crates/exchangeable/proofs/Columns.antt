-- What the passes over a column, and over a row of binomials, leave.
use Rattle.std.proofs.Common.{◌≡◌, ℕ, zero, suc, ◌+◌, ◌-◌, ◌^◌, ◌<◌, ◌≤◌, ◌⊎◌, List, [], ◌∷◌, length, ◌++◌, get_or, take, drop, ℤ, ◌-ℤ◌, nat_abs, refl, sym, ◌∙◌, ap, ap₂, inl, inr, arith, w64, SFits, to_z, of_z}
use Rattle.std.proofs.lemmas.List.{get_or_past, get_or_append_left, get_or-take}
use Rattle.std.proofs.lemmas.Int.{ints, to_z-of_z}
use Rattle.std.proofs.lemmas.Bool.{cases_lt}
use Rattle.std.proofs.lemmas.Grind.{elements}
use Rattle.algebra.specs.Binomial.{choose}
use Rattle.algebra.proofs.Binomial.{choose_beyond}
use Rattle.exchangeable.specs.Answer.{Admitted}
use Rattle.exchangeable.specs.Events.{value}
use Rattle.exchangeable.proofs.Differences.{value_size, value_step}

pub all_small : (u : List ℕ) → Admitted u → (j : ℕ) → get_or u j 0 ≤ 2 ^ 30
all_small u a j =
    let at : (j < length u) ⊎ (length u ≤ j) → get_or u j 0 ≤ 2 ^ 30 = λ o.
    elim o [ inl l ↦ (a.1 j l).0 | inr l ↦ rw (get_or_past u j 0 l) (omega arith) ] in
    at (cases_lt j (length u))

sfits : (z : ℤ) → nat_abs z ≤ 2 ^ 62 → SFits w64 z
sfits z h = omega (arith, ints)

value_fits : (u : List ℕ) → Admitted u → (k m : ℕ) → m < length u → SFits w64 (value u k m)
value_fits u a k m l = sfits _ (value_size u (all_small u a) k m (omega (arith, a.0.1)))

-- One step of the pass.
module _ (u : List ℕ) (a : Admitted u) (m k : ℕ) (lt : m < length u) (up : 0 < k) (le : k ≤ m) (x y : ℤ)
    (old : x ≡ value u (k - 1) (m - 1)) (new : y ≡ value u k m) where
  taken : to_z w64 (of_z w64 x) -ℤ y ≡ value u (k - 1) m
  taken =
      let e : k - 1 + 1 ≡ k = omega arith in
      ap₂ ◌-ℤ◌ (to_z-of_z w64 x (rw old (value_fits u a (k - 1) (m - 1) (omega arith))) ∙ old) new
      ∙ sym (rw e at (value_step u (k - 1) m (omega arith)))

  pub taken_fits : SFits w64 (to_z w64 (of_z w64 x) -ℤ y)
  taken_fits = rw taken (value_fits u a (k - 1) m lt)

  pub taken_back : to_z w64 (of_z w64 (to_z w64 (of_z w64 x) -ℤ y)) ≡ value u (k - 1) m
  taken_back = to_z-of_z w64 _ taken_fits ∙ taken

choose_all : (n : ℕ) → choose n n ≡ 1
choose_all zero = refl
choose_all (suc n) = omega (arith, choose_all n, choose_beyond n (suc n) (omega arith))

-- What stands between the ones of a row of the triangle.
pub inner : (row : List ℕ) (n k : ℕ) → ((j : ℕ) → j < n → get_or row j 0 ≡ choose (n - 1) j) → k < n - 1
    → get_or (take (n - 1) (drop 1 row)) k 0 ≡ choose (n - 1) (suc k)
inner [] n k old l = get_or-take (n - 1) [] k 0 l ∙ old (suc k) (omega arith)
inner (x ∷ xs) n k old l = get_or-take (n - 1) xs k 0 l ∙ old (suc k) (omega arith)

-- From a row with a 1 at its end to the next.
pub next_row : (row new : List ℕ) (n : ℕ) → n < length row → 0 < n
    → ((k : ℕ) → k < n → get_or row k 0 ≡ choose (n - 1) k) → get_or row n 0 ≡ 1 → length new ≡ n - 1
    → ((k : ℕ) → k < n - 1 → get_or new k 0 ≡ get_or (1 ∷ take (n - 1) (drop 1 row)) k 0 + get_or (take (n - 1) (drop 1 row)) k 0)
    → (k : ℕ) → k < n + 1 → get_or (take 1 row ++ (new ++ drop (n - 1) (drop 1 row))) k 0 ≡ choose n k
next_row [] new n lt up old end long h k l = absurd (omega arith)
next_row (x ∷ xs) new n lt up old end long h zero l = old 0 up
next_row (x ∷ xs) new n lt up old end long h (suc k) l = at (cases_lt k (n - 1))
  where
    before : (j : ℕ) → j < n → get_or (1 ∷ take (n - 1) xs) j 0 ≡ choose (n - 1) j
    before zero b = refl
    before (suc j) b = inner (x ∷ xs) n j old (omega arith)

    at : (k < n - 1) ⊎ (n - 1 ≤ k) → get_or (new ++ drop (n - 1) xs) k 0 ≡ choose n (suc k)
    at (inl b) =
        let e : suc (n - 1) ≡ n = omega arith in
        get_or_append_left new _ 0 k (omega arith)
        ∙ h k b ∙ ap₂ ◌+◌ (before k (omega arith)) (inner (x ∷ xs) n k old b) ∙ ap (λ i. choose i (suc k)) e
    at (inr b) = let e : suc k ≡ n = omega arith in rw e (grind (arith, elements, end, choose_all))
