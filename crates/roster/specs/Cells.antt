-- What the cells of a roster hold, and what a call does to them.
use Rattle.std.specs.Prelude.{◌≡◌, ℕ, ◌≤◌, ◌≢◌, List, [], ◌∷◌, map, length, slice_index, slice_index_or}
use Rattle.std.specs.List.{range_with_len, AllByRecursion}
use Rattle.algebra.specs.Ring.{Ops}
use Rattle.algebra.specs.Sums.{elementary}
use Rattle.roster.specs.Ledger.{Member, Ledger, Call, Answer, figures, numbers, capacity_of, answer, next}
use Rattle.roster.specs.declared.cells.Cell.{Cell}

module _ {F P : Type 0} (o : Ops F) (plain : F → P) where
  -- Cell k: the whole for k = 0, else the k-th life's figure and number; and the k-th kept sum, over all choices of k lives the
  -- product of their figures, which is kept up to date as lives come and go. Past the last life all three are zero.
  abbrev pub cell_at : F → List (Member F) → ℕ → Cell P
  cell_at d lives k = record {
    figure = plain (slice_index_or (d ∷ figures lives) k o.zero);
    sum = plain (elementary o k (figures lives));
    number = slice_index (0 ∷ numbers lives) k;
  }

  -- Every field of every cell, for a whole, lives and a number of cells.
  abbrev pub laid : ℕ → F → List (Member F) → List (Cell P)
  laid size d lives = map (cell_at d lives) (range_with_len 0 size)

  -- A cell that is zero in every field.
  abbrev pub zero_cell : Cell P
  zero_cell = record { figure = plain o.zero; sum = plain o.zero; number = 0 }

  -- These cells, so many, hold this ledger.
  pub record Holds (size : ℕ) (l : Ledger F) (cells : List (Cell P)) : Type 0 where
    pub room : l.capacity ≡ capacity_of size
    pub few : length l.lives ≤ l.capacity
    pub numbered : AllByRecursion (λ m. m.number ≢ 0) l.lives
    pub are : cells ≡ laid size l.whole l.lives

  -- What holds of whatever ledger the cells hold.
  abbrev pub OfLedger : List (Cell P) → (Ledger F → Type 0) → Type 0
  OfLedger cells Q = (size : ℕ) (l : Ledger F) → Holds size l cells → Q l

  -- These cells hold some ledger.
  abbrev pub HoldSome : List (Cell P) → Type 0
  HoldSome cells = (size : ℕ) × ((l : Ledger F) × Holds size l cells)

  -- What each call promises: whatever ledger the cells held, the answer is that ledger's, and they hold its next state.
  abbrev pub Met : Call F P → List (Cell P) → Answer F P → List (Cell P) → Type 0
  Met call before given after =
      (size : ℕ) (l : Ledger F) → Holds size l before → (given ≡ answer o plain l call) × Holds size (next o plain l call) after

  -- A chain of calls, each on the cells that the one before it left.
  pub data Chain : List (Cell P) → List (Call F P) → List (Answer F P) → List (Cell P) → Type 0 where
    none : {cells : List (Cell P)} → Chain cells [] [] cells
    link : {call : Call F P} {calls : List (Call F P)} {given : Answer F P} {gives : List (Answer F P)} {before cells after : List (Cell P)}
        → Met call before given cells → Chain cells calls gives after → Chain before (call ∷ calls) (given ∷ gives) after
