-- What a call for the row of two households is answered, and what it leaves in the output.
use Rattle.std.specs.Prelude.{ℕ, ◌+◌, ◌-◌, ◌||◌, List, ◌++◌, map, length, drop, if◌then◌else◌, ◌==◌, nat_lt, Result, Ok, Err}
use Rattle.std.specs.List.{range_with_len}
use Rattle.algebra.specs.Ring.{Semi}
use Rattle.algebra.specs.Rows.{convolution}
use Rattle.rows.specs.declared.Refusal.{Refusal}
use Rattle.rows.specs.declared.Refusal.TheVariants.{EmptyRow, TooManyTogether, ShortTable}

-- Each refusal's number.
abbrev pub number : Refusal → ℕ
number EmptyRow = 19
number TooManyTogether = 20
number ShortTable = 6

-- A row has one entry more than its household has lives.
abbrev pub lives : {P : Type 0} → List P → ℕ
lives row = length row - 1

module _ {F P : Type 0} (s : Semi F) (figure : P → F) (plain : F → P) where
  -- The row of both, to so many entries, from two rows in plain form.
  abbrev pub together : List P → List P → ℕ → List P
  together first second size = map plain (map (convolution s (map figure first) (map figure second)) (range_with_len 0 size))

  -- The first refusal that applies, in this order, else the output as it is then: the row, and behind it the entries that
  -- were there.
  abbrev pub answer : List P → List P → List P → Result (List P) Refusal
  answer first second output =
      if length first == 0 || length second == 0 then Err EmptyRow
      else if nat_lt 64 (lives first + lives second) then Err TooManyTogether
      else if nat_lt (length output) (lives first + lives second + 1) then Err ShortTable
      else Ok (together first second (lives first + lives second + 1) ++ drop (lives first + lives second + 1) output)
