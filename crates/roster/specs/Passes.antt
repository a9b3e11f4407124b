-- What the passes over the cells do, which joining, leaving and changing are made of: for contracts inside the crate.
-- No contract of a public call cites these.
use Rattle.std.specs.Prelude.{◌≡◌, ℕ, ◌+◌, ◌<◌, ◌≤◌, List, [], ◌∷◌, ◌++◌, map}
use Rattle.std.specs.List.{range_with_len, scan}
use Rattle.algebra.specs.Ring.{Ops}
use Rattle.roster.specs.Ledger.{Ledger, without, changed}
use Rattle.roster.specs.declared.cells.Cell.{Cell}

-- The sums of some lives become those of others, in a pass from the first cell up. `below` is a sum of the cell before.
module _ {F P : Type 0} (o : Ops F) (plain : F → P) (figure : P → F) where
  -- A cell with another sum.
  abbrev pub with_sum : Cell P → F → Cell P
  with_sum cell sum = record { figure = cell.figure; sum = plain sum; number = cell.number }

  -- One life more, of figure p: p times the old sum below is added to each.
  abbrev pub multiplied : F → List (Cell P) → List (Cell P)
  multiplied p cells = scan (λ below cell. figure cell.sum) (λ below cell. with_sum cell (o.plus (figure cell.sum) (o.times p below))) o.zero cells

  -- A sum without a life of figure p, from the one below it without that life.
  abbrev pub rest : F → F → Cell P → F
  rest p below cell = o.plus (figure cell.sum) (o.minus (o.times p below))

  -- One life less, of figure p.
  abbrev pub divided : F → List (Cell P) → List (Cell P)
  divided p cells = scan (rest p) (λ below cell. with_sum cell (rest p below cell)) o.zero cells

  -- Another figure for one life: q in place of p.
  abbrev pub exchanged : F → F → List (Cell P) → List (Cell P)
  exchanged p q cells = scan (rest p) (λ below cell. with_sum cell (o.plus (rest p below cell) (o.times q below))) o.zero cells

-- Cells by what stands in each of their fields, at each place.
abbrev pub cell_of : {P : Type 0} → (ℕ → P) → (ℕ → P) → (ℕ → ℕ) → ℕ → Cell P
cell_of figure sum number k = record { figure = figure k; sum = sum k; number = number k }

abbrev pub cells_of : {P : Type 0} → ℕ → (ℕ → P) → (ℕ → P) → (ℕ → ℕ) → List (Cell P)
cells_of size figure sum number = map (cell_of figure sum number) (range_with_len 0 size)

-- Past place n there is nothing but z.
abbrev pub Ends : {X : Type 0} → ℕ → X → (ℕ → X) → Type 0
Ends n z f = (k : ℕ) → n < k → f k ≡ z

-- What stood past a place has moved down over it.
pub record Closed {X : Type 0} (place : ℕ) (old new : ℕ → X) : Type 0 where
  pub before : (k : ℕ) → k < place → new k ≡ old k
  pub after : (k : ℕ) → place ≤ k → new k ≡ old (k + 1)

-- A ledger with one life more, one less, or another figure for one.
abbrev pub joined : {F : Type 0} → Ledger F → ℕ → F → Ledger F
joined l n x = record { whole = l.whole; capacity = l.capacity; lives = l.lives ++ (record { number = n; figure = x } ∷ []) }

abbrev pub left : {F : Type 0} → Ledger F → ℕ → Ledger F
left l n = record { whole = l.whole; capacity = l.capacity; lives = without n l.lives }

abbrev pub altered : {F : Type 0} → Ledger F → ℕ → F → Ledger F
altered l n x = record { whole = l.whole; capacity = l.capacity; lives = changed n x l.lives }
