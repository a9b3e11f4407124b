-- Worked examples. `computed` has what the definitions that the calls' contracts cite answer on small numbers, a list for
-- each group of calls; `listed` has what is expected of them. The contract of `examples_follow` says that the two are
-- the same: the same outcomes, call by call.
use Rattle.std.specs.Prelude.{ℕ, ◌+◌, ◌-◌, ◌*◌, ◌^◌, List, [], ◌∷◌, map, flat_map, replicate, ℤ, pos, negsuc, false, Option, Some, None, Result, Ok, Err}
use Rattle.std.specs.List.{range_with_len}
use Rattle.std.specs.Float.{Float, fin}
use Rattle.std.specs.Float.Ieee.{up, down}
use Rattle.algebra.specs.Ring.{Ops, semi}
use Rattle.figures.specs.Words as words
use Rattle.figures.specs.Residues as residues
use Rattle.figures.specs.ScenarioBits as bits
use Rattle.figures.specs.Duals as duals
use Rattle.figures.specs.declared.kinds.Word.{Word}
use Rattle.figures.specs.declared.kinds.Residue.{Residue}
use Rattle.figures.specs.declared.kinds.Scenarios.{Scenarios}
use Rattle.figures.specs.declared.kinds.Dual.{Dual}
use Rattle.rows.specs.Answer as rows
use Rattle.roster.specs.Ledger.{Call, Join, Leave, Exactly, AtLeast, Composed, Answer, Done, Refused, Figure, Table, RefusedTable, opened, answers}
use Rattle.roster.specs.Refusals.{households_or}
use Rattle.money.specs.Money.{money_row, factor_of}
use Rattle.counts.specs.Answer as counts
use Rattle.counts.specs.declared.Chance.{Chance}
use Rattle.counts.specs.declared.Refusal as counts_refusal
use Rattle.exchangeable.specs.Answer as exchangeable
use Rattle.exchangeable.specs.declared.Refusal.{Refusal}

-- What came of a call: it was done; it was refused, with the refusal's number and the place that it names; a figure, or
-- a factor; a slope's figure, as its value and its rate; a row; a refused row, with the number and the table as it is then;
-- or a count and its denominator, with the table as it is then, each a numerator and a denominator.
pub data Outcome : Type 0 where
  done : Outcome
  refused : ℕ → Option ℕ → Outcome
  figure : ℕ → Outcome
  slope : ℕ → ℕ → Outcome
  row : List ℤ → Outcome
  refused_row : ℕ → List ℤ → Outcome
  counted : ℕ × ℕ → ℕ × ℕ → List (ℕ × ℕ) → Outcome

-- What came of a call on a roster, by how its kind shows a figure, and what numbers an entry of a row has.
abbrev of_answer : {F P : Type 0} → (F → Outcome) → (P → List ℤ) → Answer F P → Outcome
of_answer shown entry Done = done
of_answer shown entry (Refused n) = refused n None
of_answer shown entry (Figure x) = shown x
of_answer shown entry (Table t) = row (flat_map entry t)
of_answer shown entry (RefusedTable n t) = refused_row n (flat_map entry t)

module _ {F P : Type 0} (o : Ops F) (plain : F → P) (shown : F → Outcome) (entry : P → List ℤ) where
  -- What the ledger answers to a list of calls, on 65 cells.
  abbrev told : F → List (Call F P) → List Outcome
  told d calls = map (of_answer shown entry) (answers o plain (opened 65 d) calls)

-- An entry of a row is one number, but over slopes.
abbrev one : ℕ → List ℤ
one x = pos x ∷ []

abbrev on_words : ℕ → List (Call Word ℕ) → List Outcome
on_words d calls = told words.ops (λ x. x.number) (λ x. figure x.number) one (words.word d) calls

abbrev on_residues : ℕ → List (Call Residue ℕ) → List Outcome
on_residues d calls = told residues.ops (λ x. x.number) (λ x. figure x.number) one (residues.residue d) calls

abbrev on_scenarios : ℕ → List (Call Scenarios ℕ) → List Outcome
on_scenarios d calls = told bits.ops (λ x. x.bits) (λ x. figure x.bits) one (bits.scenarios d) calls

-- Over slopes it is two, a value and then a rate.
abbrev on_slopes : Dual Word → List (Call (Dual Word) (Dual ℕ)) → List Outcome
on_slopes d calls =
    told (duals.ops words.ops) (λ x. duals.dual x.value.number x.rate.number) (λ x. slope x.value.number x.rate.number)
    (λ x. pos x.value ∷ pos x.rate ∷ []) d calls

abbrev slope_word : ℕ → ℕ → Dual Word
slope_word a b = duals.dual (words.word a) (words.word b)

-- What came of a call for the row of two households over words: two rows, and the output as it was.
abbrev on_rows : List ℕ → List ℕ → List ℕ → Outcome
on_rows first second output =
    of_answer {F = Word} (λ x. figure x.number) one (households_or (rows.answer (semi words.ops) words.word (λ x. x.number) first second output) output)

-- What came of a call on a table.
abbrev of_result : Result (List ℤ) Refusal → Outcome
of_result (Ok zs) = row zs
of_result (Err e) = refused (exchangeable.number e) (exchangeable.place e)

-- What is answered for the row m of a table, into an output of `size` entries.
abbrev on_table : List ℕ → ℕ → ℕ → Outcome
on_table u m size = of_result (exchangeable.answer u m size)

-- A finite float without a sign, as a numerator and a denominator; any other as 0 and 0.
abbrev fraction : Float → ℕ × ℕ
fraction (fin false m e) = (m * up e, down e)
fraction x = (0, 0)

-- What came of a call for a count.
abbrev of_count : Result (Chance × List Float) counts_refusal.Refusal → Outcome
of_count (Ok (c, work)) = counted (fraction c.count) (fraction c.denominator) (map fraction work)
of_count (Err e) = refused (counts.number e) (counts.place e)

-- A half, which the work tables hold.
abbrev half : Float
half = fin false 1 (negsuc 0)

-- What is answered for exactly k of the lives against d, with a work table of `entries` halves.
abbrev on_sheet : List ℕ → ℕ → ℕ → ℕ → Outcome
on_sheet ps d k entries = of_count (counts.answer ps d k (replicate entries half))

abbrev pub computed : List (List Outcome)
computed =
    on_words 10 (Join 1 (words.word 9) ∷ Join 2 (words.word 8) ∷ Join 3 (words.word 5) ∷ Composed (0 ∷ 0 ∷ 0 ∷ 0 ∷ [])
    ∷ AtLeast 0 ∷ AtLeast 1 ∷ AtLeast 2 ∷ AtLeast 3 ∷ Leave 2 ∷ Composed (0 ∷ 0 ∷ 0 ∷ []) ∷ [])
    ∷ on_words 10 (Exactly 0 ∷ Exactly 1 ∷ [])
    ∷ on_words 10 (Join 0 (words.word 9) ∷ Join 1 (words.word 9) ∷ Join 1 (words.word 8) ∷ Leave 2 ∷ Exactly 65 ∷ Composed (7 ∷ []) ∷ [])
    ∷ on_scenarios (2 ^ 64 - 1) (Join 1 (bits.scenarios 12) ∷ Join 2 (bits.scenarios 10) ∷ Join 3 (bits.scenarios 6) ∷ Exactly 2 ∷ Exactly 1 ∷ [])
    ∷ on_slopes (slope_word 10 0) (Join 1 (slope_word 9 1) ∷ Join 2 (slope_word 8 0) ∷ Join 3 (slope_word 5 0) ∷ Exactly 3 ∷ Exactly 2
    ∷ Composed (duals.dual 0 0 ∷ duals.dual 0 0 ∷ duals.dual 0 0 ∷ duals.dual 0 0 ∷ []) ∷ [])
    ∷ on_words (2 ^ 32) (Join 1 (words.word (2 ^ 32)) ∷ Join 2 (words.word (2 ^ 32)) ∷ Exactly 2 ∷ [])
    ∷ on_residues 1 (Join 1 (residues.residue (2 ^ 30)) ∷ Join 2 (residues.residue 2) ∷ Exactly 2 ∷ [])
    ∷ (on_rows (1 ∷ 9 ∷ []) (10 ∷ 50 ∷ 40 ∷ []) (7 ∷ 7 ∷ 7 ∷ 7 ∷ 7 ∷ []) ∷ on_rows [] (10 ∷ 50 ∷ 40 ∷ []) (7 ∷ 7 ∷ 7 ∷ 7 ∷ 7 ∷ [])
    ∷ on_rows (range_with_len 0 34) (range_with_len 0 33) (7 ∷ []) ∷ on_rows (1 ∷ 9 ∷ []) (10 ∷ 50 ∷ 40 ∷ []) (7 ∷ 7 ∷ 7 ∷ []) ∷ [])
    ∷ (row (map pos (money_row (1 ∷ 1 ∷ []))) ∷ row (map pos (money_row (900000000 ∷ 800000000 ∷ 500000000 ∷ [])))
    ∷ figure (factor_of (900000000 ∷ 800000000 ∷ 500000000 ∷ []) 2) ∷ [])
    ∷ (on_sheet (9 ∷ 8 ∷ 5 ∷ []) 10 2 5 ∷ on_sheet [] 7 0 1 ∷ on_sheet (9 ∷ 8 ∷ []) 10 3 3 ∷ on_sheet (0 ∷ 94906265 ∷ []) 94906265 1 4 ∷ [])
    ∷ (on_sheet (range_with_len 0 65) 0 65 0 ∷ on_sheet (1 ∷ 2 ∷ []) 0 65 0 ∷ on_sheet (10 ∷ 11 ∷ 12 ∷ []) 10 65 0 ∷ on_sheet (0 ∷ 1 ∷ []) 94906266 65 0
    ∷ on_sheet (9 ∷ 8 ∷ []) 10 65 2 ∷ on_sheet (9 ∷ 8 ∷ []) 10 64 2 ∷ [])
    ∷ (on_table (8 ∷ 4 ∷ 2 ∷ 1 ∷ []) 3 4 ∷ on_table (4 ∷ 2 ∷ 0 ∷ []) 2 3 ∷ on_table (4 ∷ 3 ∷ 1 ∷ []) 2 3 ∷ on_table (4 ∷ 1 ∷ 2 ∷ []) 2 3 ∷ [])
    ∷ (on_table [] 0 1 ∷ on_table (4 ∷ (2 ^ 30 + 1) ∷ []) 1 2 ∷ on_table (4 ∷ 2 ∷ []) 2 3 ∷ on_table (4 ∷ 2 ∷ []) 1 1 ∷ [])
    ∷ []

abbrev pub listed : List (List Outcome)
listed =
    -- words, whole 10: the lives 9, 8 and 5 join; the row; at least 0 to 3; the life of 8 leaves; the row
    (done ∷ done ∷ done ∷ row (map pos (10 ∷ 140 ∷ 490 ∷ 360 ∷ []))
    ∷ figure 1000 ∷ figure 990 ∷ figure 850 ∷ figure 360 ∷ done ∷ row (map pos (5 ∷ 50 ∷ 45 ∷ [])) ∷ [])
    -- no lives: exactly 0 is one, exactly 1 is zero
    ∷ (figure 1 ∷ figure 0 ∷ [])
    -- a join with the number 0; a join; another with the same number; a leave of a number that is not there; a k above 64;
    -- a row into one entry, which stays
    ∷ (refused 1 None ∷ done ∷ refused 2 None ∷ refused 3 None ∷ refused 5 None ∷ refused_row 6 (map pos (7 ∷ [])) ∷ [])
    -- scenarios 12, 10 and 6 with whole one: exactly 2 is 14, exactly 1 is 0
    ∷ (done ∷ done ∷ done ∷ figure 14 ∷ figure 0 ∷ [])
    -- slopes over words, whole (10, 0), lives (9, 1), (8, 0) and (5, 0): exactly 3 is (360, 40), exactly 2 is (490, 10); the
    -- row (10, −10), (140, −40), (490, 10), (360, 40), whose negative rates are words too
    ∷ (done ∷ done ∷ done ∷ slope 360 40 ∷ slope 490 10 ∷ row (map pos (10 ∷ (2 ^ 64 - 10) ∷ 140 ∷ (2 ^ 64 - 40) ∷ 490 ∷ 10 ∷ 360 ∷ 40 ∷ [])) ∷ [])
    -- words, whole and both lives 2^32: exactly 2 is 0
    ∷ (done ∷ done ∷ figure 0 ∷ [])
    -- residues, whole one, lives 2^30 and 2: exactly 2 is 1
    ∷ (done ∷ done ∷ figure 1 ∷ [])
    -- words, rows 1 9 and 10 50 40 of households of whole 10: the row of both, and the fifth entry of the output stays; a row
    -- with no entry; 33 and 32 lives; an output one short. Refused, it stays
    ∷ (row (map pos (10 ∷ 140 ∷ 490 ∷ 360 ∷ 7 ∷ []))
    ∷ refused_row 19 (map pos (7 ∷ 7 ∷ 7 ∷ 7 ∷ 7 ∷ [])) ∷ refused_row 20 (map pos (7 ∷ [])) ∷ refused_row 6 (map pos (7 ∷ 7 ∷ 7 ∷ [])) ∷ [])
    -- money rows, and the factor for 2 of the second
    ∷ (row (map pos (999999998 ∷ 1 ∷ 1 ∷ [])) ∷ row (map pos (10000000 ∷ 140000000 ∷ 490000000 ∷ 360000000 ∷ [])) ∷ figure 850000000 ∷ [])
    -- counts: the lives 9, 8 and 5 against 10, exactly 2, and the fifth half stays; no lives; a k above n; 0 and 94906265
    -- against 94906265
    ∷ (counted (490, 1) (1000, 1) ((10, 1) ∷ (140, 1) ∷ (490, 1) ∷ (360, 1) ∷ (1, 2) ∷ []) ∷ counted (1, 1) (1, 1) ((1, 1) ∷ [])
    ∷ counted (0, 1) (100, 1) ((2, 1) ∷ (26, 1) ∷ (72, 1) ∷ [])
    ∷ counted (9007199136250225, 1) (9007199136250225, 1) ((0, 1) ∷ (9007199136250225, 1) ∷ (0, 1) ∷ (1, 2) ∷ []) ∷ [])
    -- 65 lives; d of 0; the second of three lives above 10; 94906266 to the power 2; a k of 65; a table one short
    ∷ (refused 8 None ∷ refused 21 None ∷ refused 22 (Some 1) ∷ refused 23 None ∷ refused 5 None ∷ refused 10 None ∷ [])
    -- two tables that events have, with their rows, and two that none have, whose first negative weight is at 0 and at 1
    ∷ (row (map pos (1 ∷ 3 ∷ 3 ∷ 1 ∷ [])) ∷ row (map pos (0 ∷ 4 ∷ 0 ∷ [])) ∷ refused 15 (Some 0) ∷ refused 15 (Some 1) ∷ [])
    -- no coefficients; one above 2^30; a row past the table's last; an output one short
    ∷ (refused 11 None ∷ refused 12 (Some 1) ∷ refused 13 None ∷ refused 14 None ∷ [])
    ∷ []
