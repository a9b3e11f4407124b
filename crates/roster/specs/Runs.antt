-- The promise over runs: a chain of calls on a newly opened roster follows the ledger.
use Rattle.std.specs.Prelude.{◌≡◌, ℕ, List}
use Rattle.algebra.specs.Ring.{Ops}
use Rattle.roster.specs.Ledger.{Ledger, Call, Answer, opened, answer, next}
use Rattle.roster.specs.Cells.{Holds, Chain, none, link}
use Rattle.roster.specs.declared.cells.Cell.{Cell}

module _ {F P : Type 0} (o : Ops F) (plain : F → P) where
  -- Link by link: the answer is the ledger's, and the cells then hold the ledger's next state.
  abbrev pub Follows : {before after : List (Cell P)} {calls : List (Call F P)} {gives : List (Answer F P)}
      → ℕ → Ledger F → Chain o plain before calls gives after → Type 0
  Follows size l none = Unit {0}
  Follows size l (link {call = call} {given = given} {cells = cells} met rest) =
      (given ≡ answer o plain l call) × Holds o plain size (next o plain l call) cells × Follows size (next o plain l call) rest

  -- For every number of cells, every whole and every chain that starts from cells as opening leaves them.
  abbrev pub ChainsFollow : Type 0
  ChainsFollow =
      (size : ℕ) (d : F) (before after : List (Cell P)) (calls : List (Call F P)) (gives : List (Answer F P))
      → Holds o plain size (opened size d) before → (chain : Chain o plain before calls gives after)
      → Follows size (opened size d) chain
