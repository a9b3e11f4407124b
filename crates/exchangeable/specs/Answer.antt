-- What a call is answered, and what it leaves in the output.
use Rattle.std.specs.Prelude.{◌≡◌, ℕ, ◌+◌, ◌^◌, ◌<◌, ◌≤◌, ◌||◌, List, map, length, take, drop, ℤ, pos, ◌≤ℤ◌, ◌<ℤ◌, if◌then◌else◌, ◌==◌, nat_lt, position, slice_index, Option, Some, None, Result, Ok, Err}
use Rattle.std.specs.Int.{is_negative}
use Rattle.std.specs.List.{range_with_len}
use Rattle.std.specs.Option.{option_map_or}
use Rattle.exchangeable.specs.Events.{top, value, row, HasEvents}
use Rattle.exchangeable.specs.declared.Refusal.{Refusal}
use Rattle.exchangeable.specs.declared.Refusal.TheVariants.{TableLength, Coefficient, RowAboveTable, ShortOutput, Impossible}

-- Each refusal's number.
abbrev pub number : Refusal → ℕ
number TableLength = 11
number (Coefficient place) = 12
number RowAboveTable = 13
number ShortOutput = 14
number (Impossible place) = 15

-- The place that a refusal names.
abbrev pub place : Refusal → Option ℕ
place TableLength = None
place (Coefficient k) = Some k
place RowAboveTable = None
place ShortOutput = None
place (Impossible k) = Some k

-- A table has 1 to 33 coefficients.
abbrev pub FitLength : List ℕ → Type 0
FitLength u = (0 < length u) × (length u ≤ 33)

-- The coefficient at place k is at most 2^30, and not 0 at place 0.
abbrev pub FitAt : List ℕ → ℕ → Type 0
FitAt u k = (slice_index u k ≤ 2 ^ 30) × (k ≡ 0 → 0 < slice_index u k)

-- The table is within the limits: neither 11 nor 12 applies.
abbrev pub Admitted : List ℕ → Type 0
Admitted u = FitLength u × ((k : ℕ) → k < length u → FitAt u k)

-- Where each refusal applies, no earlier one applying. A place is the lowest: the one that fails where all before it do not.
abbrev pub Refused : List ℕ → ℕ → List ℕ → Refusal → Type 0
Refused u m out TableLength = FitLength u → ⊥
Refused u m out (Coefficient k) =
    FitLength u × (k < length u) × (FitAt u k → ⊥) × ((i : ℕ) → i < k → FitAt u i)
Refused u m out RowAboveTable = Admitted u × (top u < m)
Refused u m out ShortOutput = Admitted u × (m ≤ top u) × (length out < m + 1)
Refused u m out (Impossible k) =
    Admitted u × (m ≤ top u) × (m + 1 ≤ length out)
    × (HasEvents u → ⊥) × (k ≤ top u) × (value u k (top u) <ℤ pos 0)
    × ((i : ℕ) → i < k → pos 0 ≤ℤ value u i (top u))

-- Where the row is answered, no refusal applying: events have the table, the output begins with the row, and its
-- further entries are as they were.
abbrev pub Answered : List ℕ → ℕ → List ℕ → List ℕ → Type 0
Answered u m before after =
    Admitted u × (m ≤ top u) × (m + 1 ≤ length before) × HasEvents u
    × (map pos (take (m + 1) after) ≡ row u m) × (drop (m + 1) after ≡ drop (m + 1) before)

-- The same answer computed, from here on.

-- The lowest place of a coefficient outside the limits, in a table that is not empty: 0 where u_0 is 0, else the first
-- above 2^30.
abbrev pub misfit_place : List ℕ → Option ℕ
misfit_place u = if slice_index u 0 == 0 then Some 0 else position (λ x. nat_lt (2 ^ 30) x) u

-- The weights w_0 to w_n of the table.
abbrev pub weights : List ℕ → List ℤ
weights u = map (λ k. value u k (top u)) (range_with_len 0 (length u))

-- The lowest place of a negative weight.
abbrev pub negative_place : List ℕ → Option ℕ
negative_place u = position is_negative (weights u)

-- What a call for the row m of the table u is answered, where its output has `size` entries: the first refusal that
-- applies, in this order, else the row. (`option_map_or f o d` is f of what o has, and d where it has nothing.)
abbrev pub answer : List ℕ → ℕ → ℕ → Result (List ℤ) Refusal
answer u m size =
    if length u == 0 || nat_lt 33 (length u) then Err TableLength
    else option_map_or (λ k. Err (Coefficient k)) (misfit_place u)
    (if nat_lt (top u) m then Err RowAboveTable
    else if nat_lt size (m + 1) then Err ShortOutput
    else option_map_or (λ k. Err (Impossible k)) (negative_place u) (Ok (row u m)))
