-- What the calls are answered, and what they leave in the table.
use Rattle.std.specs.Prelude.{◌≡◌, ℕ, ◌+◌, ◌<◌, ◌≤◌, List, ◌++◌, length, take, drop, slice_index, Option, Some, None}
use Rattle.algebra.specs.Patterns.{naturals, total}
use Rattle.money.specs.Money.{whole, money_row, factor_of, exact, Near}
use Rattle.money.specs.declared.Refusal.{Refusal}
use Rattle.money.specs.declared.Refusal.TheVariants.{TooManyLives, LifeAboveOne, CountAboveLimit, ShortTable}

-- Each refusal's number.
abbrev pub number : Refusal → ℕ
number TooManyLives = 8
number (LifeAboveOne place) = 9
number CountAboveLimit = 5
number ShortTable = 10

-- The place that a refusal names.
abbrev pub place : Refusal → Option ℕ
place TooManyLives = None
place (LifeAboveOne i) = Some i
place CountAboveLimit = None
place ShortTable = None

-- At most 64 lives, each at most D: neither 8 nor 9 applies.
abbrev pub Admitted : List ℕ → Type 0
Admitted lives = (length lives ≤ 64) × ((i : ℕ) → i < length lives → slice_index lives i ≤ whole)

-- Where each refusal applies, no earlier one applying, to a call for k with a table of `size` entries. (A money row
-- has no k: read 0, so that it is never refused for its k.) A place is the lowest.
abbrev pub Refused : List ℕ → ℕ → ℕ → Refusal → Type 0
Refused lives k size TooManyLives = 64 < length lives
Refused lives k size (LifeAboveOne i) =
    (length lives ≤ 64) × (i < length lives) × (whole < slice_index lives i) × ((j : ℕ) → j < i → slice_index lives j ≤ whole)
Refused lives k size CountAboveLimit = Admitted lives × (64 < k)
Refused lives k size ShortTable = Admitted lives × (k ≤ 64) × (size < length lives + 1)

-- Where a money row is answered: the table begins with it, its further entries are as they were, and the row as
-- the call left it adds up to exactly D.
abbrev pub RowAnswered : List ℕ → List ℕ → List ℕ → Type 0
RowAnswered lives before after =
    Admitted lives × (length lives + 1 ≤ length before)
    × (after ≡ money_row lives ++ drop (length lives + 1) before)
    × (total naturals (take (length lives + 1) after) ≡ whole)

-- Where a factor is answered: it is the sum from k on, D for k = 0 and 0 for k above the number of lives, and near
-- the exact sum.
abbrev pub FactorAnswered : List ℕ → ℕ → ℕ → ℕ → Type 0
FactorAnswered lives k size f =
    Admitted lives × (k ≤ 64) × (length lives + 1 ≤ size)
    × (f ≡ factor_of lives k) × (k ≡ 0 → f ≡ whole) × (length lives < k → f ≡ 0)
    × Near (length lives) (exact lives k) f
