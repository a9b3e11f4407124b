-- What a roster replies to a question, told from the ledger that its cells hold.
use Rattle.std.specs.Prelude.{◌≡◌, ℕ, cond, ◌&&◌, List, length, take, drop, Ok, Err, Result, ◌==◌, nat_le}
use Rattle.std.specs.Int.Digits.{AllBelowBase}
use Rattle.algebra.specs.Ring.{Ops}
use Rattle.roster.specs.Cells as cells
use Rattle.roster.specs.Ledger.{Ledger, exactly_of, at_least_of}
use Rattle.roster.specs.declared.cells.Cell.{Cell}
use Rattle.reply.specs.Layout.{Holds}
use Rattle.reply.specs.declared.Fields.{Fields}
use Rattle.reply.specs.declared.asked.Unwritten.{Unwritten}
use Rattle.reply.specs.declared.asked.Unwritten.TheVariants.{ShortOutput, UnknownQuestion}

-- The numbers of a reply's refusals, the same in every crate.
abbrev pub unwritten_number : Unwritten → ℕ
unwritten_number ShortOutput = 16
unwritten_number UnknownQuestion = 17

-- The fields of a reply to question 1 or 2 over n lives: the k asked for and its figure, or the refusal where k is above 64.
abbrev pub counted : ℕ → ℕ → ℕ → ℕ → ℕ → Fields
counted kind question n k figure = cond (nat_le k 64)
    (record { kind = kind; question = question; refusal = 0; k = k; lives = n; figure = figure })
    (record { kind = kind; question = question; refusal = 5; k = 127; lives = n; figure = 0 })

-- And to question 3, for which k counts nothing.
abbrev pub lives_only : ℕ → ℕ → Fields
lives_only kind n = record { kind = kind; question = 3; refusal = 0; k = 0; lives = n; figure = 0 }

-- Whether a question is asked at all: the output has room for a record, and the question is 1, 2 or 3.
abbrev pub asking : {A : Type 0} → ℕ → ℕ → A → Result A Unwritten
asking size question a = cond (nat_le 16 size) (cond (nat_le 1 question && nat_le question 3) (Ok a) (Err UnknownQuestion)) (Err ShortOutput)

-- Over figures of a kind with this number, whose figures are packed as `bits`.
module _ {F P : Type 0} (o : Ops F) (plain : F → P) (kind : ℕ) (bits : F → ℕ) where
  -- The fields of the ledger's answer: 1 is exactly k, 2 at least k, both sums over survival patterns, and 3 the number of lives.
  abbrev pub fields_for : Ledger F → ℕ → ℕ → Fields
  fields_for l question k =
      cond (question == 1) (counted kind 1 (length l.lives) k (bits (exactly_of o plain l k)))
      (cond (question == 2) (counted kind 2 (length l.lives) k (bits (at_least_of o plain l k)))
      (lives_only kind (length l.lives)))

  -- The output of a reply that was not refused: its first 16 entries are bytes, and the record of the answer of whatever ledger the
  -- cells hold; the bytes after them are as they were.
  pub record Written (before : List (Cell P)) (question k : ℕ) (old new : List ℕ) : Type 0 where
    pub answer : (size : ℕ) (l : Ledger F) → cells.Holds o plain size l before → Holds (take 16 new) (fields_for l question k)
    pub octets : AllBelowBase 256 (take 16 new)
    pub rest : drop 16 new ≡ drop 16 old
