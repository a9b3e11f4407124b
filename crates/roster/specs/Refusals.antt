-- The refusals' numbers, the same in every crate, and results as the ledger's answers.
use Rattle.std.specs.Prelude.{ℕ, List, Ok, Err, Result}
use Rattle.rows.specs.Answer.{number}
use Rattle.rows.specs.declared.Refusal.{Refusal as RowRefusal}
use Rattle.roster.specs.Ledger.{Answer, Done, Refused, Figure, Table, RefusedTable}
use Rattle.roster.specs.declared.refusals.Refusal.{Refusal}
use Rattle.roster.specs.declared.refusals.Refusal.TheVariants.{ZeroNumber, Present, Absent, Full, LargeCount, ShortTable, OtherCells}

abbrev pub refusal_number : Refusal → ℕ
refusal_number ZeroNumber = 1
refusal_number Present = 2
refusal_number Absent = 3
refusal_number Full = 4
refusal_number LargeCount = 5
refusal_number ShortTable = 6
refusal_number OtherCells = 7

-- What came of a call that only says that it was done.
abbrev pub done_or : {F P U : Type 0} → Result U Refusal → Answer F P
done_or (Ok u) = Done
done_or (Err e) = Refused (refusal_number e)

-- What came of a question for a figure.
abbrev pub figure_or : {F P : Type 0} → Result F Refusal → Answer F P
figure_or (Ok x) = Figure x
figure_or (Err e) = Refused (refusal_number e)

-- What came of a row, with the table as it is then.
abbrev pub table_or : {F P U : Type 0} → Result U Refusal → List P → Answer F P
table_or (Ok u) t = Table t
table_or (Err e) t = RefusedTable (refusal_number e) t

-- What came of a row of two households, with the output as it was handed over.
abbrev pub households_or : {F P : Type 0} → Result (List P) RowRefusal → List P → Answer F P
households_or (Ok table) output = Table table
households_or (Err e) output = RefusedTable (number e) output
