-- What a call for a count is answered, and what it leaves in the work table.
use Rattle.std.specs.Prelude.{◌≡◌, ℕ, ◌+◌, ◌^◌, ◌≤◌, ◌||◌, List, ◌++◌, map, length, drop, slice_index_or, if◌then◌else◌, ◌==◌, nat_lt, position, Option, Some, None, Result, Ok, Err}
use Rattle.std.specs.Option.{option_map_or}
use Rattle.std.specs.Float.{Float, float_zero}
use Rattle.algebra.specs.Patterns.{naturals, natural_lives, exactly}
use Rattle.algebra.specs.Rows.{row}
use Rattle.counts.specs.Floats.{IsExactly, float}
use Rattle.counts.specs.declared.Chance.{Chance}
use Rattle.counts.specs.declared.Refusal.{Refusal}
use Rattle.counts.specs.declared.Refusal.TheVariants.{TooManyLives, WholeOutside, LifeAboveWhole, PowerTooLarge, CountAboveLimit, ShortTable}

-- Each refusal's number.
abbrev pub number : Refusal → ℕ
number TooManyLives = 8
number WholeOutside = 21
number (LifeAboveWhole place) = 22
number PowerTooLarge = 23
number CountAboveLimit = 5
number ShortTable = 10

-- The place that a refusal names.
abbrev pub place : Refusal → Option ℕ
place TooManyLives = None
place WholeOutside = None
place (LifeAboveWhole i) = Some i
place PowerTooLarge = None
place CountAboveLimit = None
place ShortTable = None

-- 2^53: up to here every whole number is a 64-bit float, and the next one is not.
abbrev pub most : ℕ
most = 2 ^ 53

-- The place of the first life above the whole d.
abbrev pub above : ℕ → List ℕ → Option ℕ
above d ps = position (nat_lt d) ps

-- Neither 8 nor 21 nor 22 applies: at most 64 lives, against a whole from 1 to 1,000,000,000 that none of them is above.
abbrev pub Admitted : List ℕ → ℕ → Type 0
Admitted ps d = (length ps ≤ 64) × (1 ≤ d) × (d ≤ 1000000000) × (above d ps ≡ None)

-- Exactly k alive of the lives ps against the whole d, and d to the power of their number.
abbrev pub chance : List ℕ → ℕ → ℕ → Chance
chance ps d k = record { count = float (exactly naturals k (natural_lives d ps)); denominator = float (d ^ length ps) }

-- The work table afterwards: the row, exactly 0 to exactly n, and behind it the entries that were there.
abbrev pub worked : List ℕ → ℕ → List Float → List Float
worked ps d work = map float (row naturals (length ps + 1) (natural_lives d ps)) ++ drop (length ps + 1) work

-- The first refusal that applies, in this order, else the chance and the work table afterwards. (`option_map_or f o x` is f
-- of what o has, and x where it has nothing.)
abbrev pub answer : List ℕ → ℕ → ℕ → List Float → Result (Chance × List Float) Refusal
answer ps d k work =
    if nat_lt 64 (length ps) then Err TooManyLives
    else if d == 0 || nat_lt 1000000000 d then Err WholeOutside
    else option_map_or (λ i. Err (LifeAboveWhole i)) (above d ps)
    (if nat_lt most (d ^ length ps) then Err PowerTooLarge
    else if nat_lt 64 k then Err CountAboveLimit
    else if nat_lt (length work) (length ps + 1) then Err ShortTable
    else Ok (chance ps d k, worked ps d work))

-- Each float of an answer is exactly its whole number.
abbrev pub Exact : List ℕ → ℕ → ℕ → Chance → List Float → Type 0
Exact ps d k c work =
    IsExactly (exactly naturals k (natural_lives d ps)) c.count × IsExactly (d ^ length ps) c.denominator
    × ((j : ℕ) → j ≤ length ps → IsExactly (exactly naturals j (natural_lives d ps)) (slice_index_or work j float_zero))
