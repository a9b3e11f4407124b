-- How floats are printed.
use Rattle.std.specs.Prelude.{◌≡◌, ℕ, ◌≤◌, List, Some, decimal}
use Rattle.std.specs.List.{AllZip}
use Rattle.std.specs.Float.{Float, binary64}
use Rattle.std.specs.Float.Parse.{parse_float}
use Rattle.counts.specs.Answer.{most}
use Rattle.counts.specs.Floats.{float}
use Rattle.text.specs.Text.{spaced}

-- The float is the whole number n, up to 2^53. Negative zero is no whole number: it is another float than zero.
abbrev pub IsWhole : Float → ℕ → Type 0
IsWhole x n = (n ≤ most) × (x ≡ float n)

-- A text of a float: it reads back as the float, and is the digits of a whole number.
abbrev pub IsTextOf : Float → List ℕ → Type 0
IsTextOf x text = (parse_float binary64 text ≡ Some x) × ((n : ℕ) → IsWhole x n → text ≡ decimal n)

-- A text of each float, with a blank between.
abbrev pub AreSpacedTextsOf : List Float → List ℕ → Type 0
AreSpacedTextsOf xs text = (ts : List (List ℕ)) × AllZip IsTextOf xs ts × (text ≡ spaced ts)
