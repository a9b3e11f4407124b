-- Whole numbers as 64-bit floats.
use Rattle.std.specs.Prelude.{ℕ, false}
use Rattle.std.specs.Float.{Float, binary64, float_zero, float_one}
use Rattle.std.specs.Float.Ieee.{odd, add, mul}
use Rattle.std.specs.Float.Ieee.Exact.{HasValue}
use Rattle.algebra.specs.Ring.{Semi}

-- The float x is exactly n: finite, without a minus sign, and in size the fraction n / 1.
abbrev pub IsExactly : ℕ → Float → Type 0
IsExactly n x = HasValue x false n 1

-- The number n as a float is written, without a minus sign: up to 2^53 as m · 2^e with an odd m, and 0 as 0 · 2^0. It never
-- rounds. (54 is how often a factor 2 is looked for. What is written of a number above 2^53 may be no 64-bit float.)
abbrev pub float : ℕ → Float
float n = odd 54 false n 0 0

-- The sum and the product of 64-bit floats, each rounded, so that not all laws hold.
abbrev pub floats : Semi Float
floats = record { zero = float_zero; one = float_one; plus = add binary64; times = mul binary64 }
