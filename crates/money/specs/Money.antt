-- The money row, the factor, and how close the factor lies to the exact sum.
use Rattle.std.specs.Prelude.{ℕ, ◌+◌, ◌-◌, ◌*◌, ◌/◌, ◌%◌, ◌^◌, ◌≤◌, List, [], ◌∷◌, ◌++◌, drop, fold}
use Rattle.algebra.specs.Patterns.{naturals, natural_lives, total, at_least}

-- D: a life p from 0 to D stands for the chance p / D.
abbrev pub whole : ℕ
whole = 1000000000

-- The new entries for a life p, from some place on: `below` is the old entry before that place, and `carry` the
-- remainder that comes in. Each t is p × (the old entry before) + (D − p) × (the old entry) + carry.
abbrev pub pass : ℕ → ℕ → ℕ → List ℕ → List ℕ
pass p below carry [] = []
pass p below carry (x ∷ xs) =
    (p * below + (whole - p) * x + carry) / whole ∷ pass p x ((p * below + (whole - p) * x + carry) % whole) xs

-- One life more: the row grows by an entry, whose old value counts as 0.
abbrev pub with_life : List ℕ → ℕ → List ℕ
with_life row p = pass p 0 0 (row ++ 0 ∷ [])

-- The money row of the lives, taken in their order: it starts as D alone, and with no lives stays so.
abbrev pub money_row : List ℕ → List ℕ
money_row lives = fold with_life (whole ∷ []) lives

-- The factor: the sum of the row's entries from k on, which is 0 past the row's end.
abbrev pub factor_of : List ℕ → ℕ → ℕ
factor_of lives k = total naturals (drop k (money_row lives))

-- The exact sum, in ordinary whole numbers, over the patterns with at least k alive: a life is worth p where it is
-- alive and D − p where it is dead.
abbrev pub exact : List ℕ → ℕ → ℕ
exact lives k = at_least naturals k (natural_lives whole lives)

-- X·D ≤ F·D^n ≤ X·D + (n − 1)·D^n. With no lives n − 1 stops at 0, so that F is X·D.
abbrev pub Near : ℕ → ℕ → ℕ → Type 0
Near n x f = (x * whole ≤ f * whole ^ n) × (f * whole ^ n ≤ x * whole + (n - 1) * whole ^ n)
