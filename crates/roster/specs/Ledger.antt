-- The ledger on paper: what a roster answers, told from the calls' arguments alone.
use Rattle.std.specs.Prelude.{ℕ, ◌+◌, ◌-◌, min, Bool, true, false, cond, ◌||◌, List, [], ◌∷◌, ◌++◌, map, length, drop, Some, None, Option, ◌==◌, nat_le}
use Rattle.algebra.specs.Ring.{Ops, semi}
use Rattle.algebra.specs.Patterns.{exactly, at_least}
use Rattle.algebra.specs.Rows.{row}
use Rattle.algebra.specs.Sums.{against}

-- A life on the ledger.
pub record Member (F : Type 0) : Type 0 where
  pub number : ℕ
  pub figure : F

-- The ledger: the whole (the figure d that stands for certainty: a life counts p where it is alive and d − p where it is
-- dead), the most lives that there is room for, and the lives in the order in which they joined.
pub record Ledger (F : Type 0) : Type 0 where
  pub whole : F
  pub capacity : ℕ
  pub lives : List (Member F)

abbrev pub figures : {F : Type 0} → List (Member F) → List F
figures lives = map (λ m. m.figure) lives

abbrev pub numbers : {F : Type 0} → List (Member F) → List ℕ
numbers lives = map (λ m. m.number) lives

-- How many lives a table of this many cells holds: cell 0 is for none, and there are never more than 64.
abbrev pub capacity_of : ℕ → ℕ
capacity_of cells = min 64 (cells - 1)

-- A ledger as opening starts it.
abbrev pub opened : {F : Type 0} → ℕ → F → Ledger F
opened cells d = record { whole = d; capacity = capacity_of cells; lives = [] }

-- The calls. A row is handed a table of figures in their plain form, of any length and contents.
pub data Call (F P : Type 0) : Type 0 where
  Join : ℕ → F → Call F P
  Leave : ℕ → Call F P
  Change : ℕ → F → Call F P
  Clear : Call F P
  Exactly : ℕ → Call F P
  AtLeast : ℕ → Call F P
  Composed : List P → Call F P
  Triangle : List P → Call F P

-- What comes of a call: it was done; a refusal, by its number; a figure; or, of a row, the whole table as it is then.
pub data Answer (F P : Type 0) : Type 0 where
  Done : Answer F P
  Refused : ℕ → Answer F P
  Figure : F → Answer F P
  Table : List P → Answer F P
  RefusedTable : ℕ → List P → Answer F P

abbrev pub present : {F : Type 0} → ℕ → List (Member F) → Bool
present n [] = false
present n (m ∷ ms) = m.number == n || present n ms

abbrev pub further : Option ℕ → Option ℕ
further None = None
further (Some k) = Some (k + 1)

-- The place of the first life with this number, counted from 1.
abbrev pub place_of : {F : Type 0} → ℕ → List (Member F) → Option ℕ
place_of n [] = None
place_of n (m ∷ ms) = cond (m.number == n) (Some 1) (further (place_of n ms))

-- The lives without the one of this number, and with another figure for it.
abbrev pub without : {F : Type 0} → ℕ → List (Member F) → List (Member F)
without n [] = []
without n (m ∷ ms) = cond (m.number == n) ms (m ∷ without n ms)

abbrev pub changed : {F : Type 0} → ℕ → F → List (Member F) → List (Member F)
changed n x [] = []
changed n x (m ∷ ms) = cond (m.number == n) (record { number = n; figure = x } ∷ ms) (m ∷ changed n x ms)

module _ {F P : Type 0} (o : Ops F) (plain : F → P) where
  -- The ledger's exactly k and at least k: sums over survival patterns.
  abbrev pub exactly_of : Ledger F → ℕ → F
  exactly_of l k = exactly (semi o) k (against o l.whole (figures l.lives))

  abbrev pub at_least_of : Ledger F → ℕ → F
  at_least_of l k = at_least (semi o) k (against o l.whole (figures l.lives))

  -- A row: exactly 0 to n at the front of the table, and the rest of it as it was handed over.
  abbrev pub row_of : Ledger F → List P → List P
  row_of l t = map plain (row (semi o) (length l.lives + 1) (against o l.whole (figures l.lives))) ++ drop (length l.lives + 1) t

  abbrev pub row_answer : Ledger F → List P → Answer F P
  row_answer l t = cond (nat_le (length l.lives + 1) (length t)) (Table (row_of l t)) (RefusedTable 6 t)

  -- What the ledger answers. Refusals come in the order in which they stand here.
  abbrev pub answer : Ledger F → Call F P → Answer F P
  answer l (Join n x) = cond (n == 0) (Refused 1) (cond (present n l.lives) (Refused 2) (cond (length l.lives == l.capacity) (Refused 4) Done))
  answer l (Leave n) = cond (n == 0) (Refused 1) (cond (present n l.lives) Done (Refused 3))
  answer l (Change n x) = cond (n == 0) (Refused 1) (cond (present n l.lives) Done (Refused 3))
  answer l Clear = Done
  answer l (Exactly k) = cond (nat_le k 64) (Figure (exactly_of l k)) (Refused 5)
  answer l (AtLeast k) = cond (nat_le k 64) (Figure (at_least_of l k)) (Refused 5)
  answer l (Composed t) = row_answer l t
  answer l (Triangle t) = row_answer l t

  -- The lives after a call that was granted; questions alter nothing.
  abbrev pub granted : List (Member F) → Call F P → List (Member F)
  granted lives (Join n x) = lives ++ (record { number = n; figure = x } ∷ [])
  granted lives (Leave n) = without n lives
  granted lives (Change n x) = changed n x lives
  granted lives Clear = []
  granted lives (Exactly k) = lives
  granted lives (AtLeast k) = lives
  granted lives (Composed t) = lives
  granted lives (Triangle t) = lives

  abbrev pub is_refused : Answer F P → Bool
  is_refused Done = false
  is_refused (Refused n) = true
  is_refused (Figure x) = false
  is_refused (Table t) = false
  is_refused (RefusedTable n t) = true

  -- A refused call alters nothing.
  abbrev pub next : Ledger F → Call F P → Ledger F
  next l call = record {
    whole = l.whole;
    capacity = l.capacity;
    lives = cond (is_refused (answer l call)) l.lives (granted l.lives call);
  }

  -- A list of calls, each working on what the calls before it left.
  abbrev pub answers : Ledger F → List (Call F P) → List (Answer F P)
  answers l [] = []
  answers l (call ∷ calls) = answer l call ∷ answers (next l call) calls

  abbrev pub final : Ledger F → List (Call F P) → Ledger F
  final l [] = l
  final l (call ∷ calls) = final (next l call) calls
