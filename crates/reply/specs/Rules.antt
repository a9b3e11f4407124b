-- What a reply record may say.
use Rattle.std.specs.Prelude.{ℕ, Bool, cond, ◌&&◌, ◌||◌, List, length, Ok, Err, Result, ◌==◌, nat_le, nat_lt}
use Rattle.figures.specs.Residues.{modulus}
use Rattle.reply.specs.Layout.{fields_in, spare_in}
use Rattle.reply.specs.declared.Fields.{Fields}
use Rattle.reply.specs.declared.Question.{Question}
use Rattle.reply.specs.declared.Question.TheVariants.{Exactly, AtLeast}
use Rattle.reply.specs.declared.Record.{Record}
use Rattle.reply.specs.declared.Refusal.{Refusal}
use Rattle.reply.specs.declared.Refusal.TheVariants.{WrongSize, Unacceptable}
use Rattle.reply.specs.declared.Reply.{Reply}
use Rattle.reply.specs.declared.Reply.TheVariants.{Answered, Refused, Lives}

-- The numbers of the refusals, the same in every crate.
abbrev pub refusal_number : Refusal → ℕ
refusal_number WrongSize = 16
refusal_number Unacceptable = 18

abbrev pub question_number : Question → ℕ
question_number Exactly = 1
question_number AtLeast = 2

-- The fields of a reply over figures of a kind with this number, whose figures are packed as `bits`.
abbrev pub replied : {F : Type 0} → ℕ → (F → ℕ) → ℕ → Reply F → Fields
replied kind bits n (Answered q k x) = record { kind = kind; question = question_number q; refusal = 0; k = k.number; lives = n; figure = bits x }
replied kind bits n (Refused q) = record { kind = kind; question = question_number q; refusal = 5; k = 127; lives = n; figure = 0 }
replied kind bits n Lives = record { kind = kind; question = 3; refusal = 0; k = 0; lives = n; figure = 0 }

abbrev pub fields_of : {F : Type 0} → ℕ → (F → ℕ) → Record F → Fields
fields_of kind bits r = replied kind bits r.lives.number r.reply

-- The question for exactly or at least k, answered, or refused because k is above 64; and the question for lives.
abbrev pub counts : Fields → Bool
counts f = f.question == 1 || f.question == 2

abbrev pub answered : Fields → Bool
answered f = counts f && (f.refusal == 0 && nat_le f.k 64)

abbrev pub refused : Fields → Bool
refused f = counts f && (f.refusal == 5 && (f.k == 127 && f.figure == 0))

abbrev pub told : Fields → Bool
told f = f.question == 3 && (f.refusal == 0 && (f.k == 0 && f.figure == 0))

-- Kinds 1 to 3; kind 2 is the residues, which lie below their modulus.
abbrev pub kindly : Fields → Bool
kindly f = f.kind == 1 || (f.kind == 3 || (f.kind == 2 && nat_lt f.figure modulus))

abbrev pub acceptable : Fields → Bool
acceptable f = kindly f && (nat_le f.lives 64 && (answered f || (refused f || told f)))

-- What a reader of bytes is answered: their fields where the record is acceptable.
abbrev pub checked : {A : Type 0} → List ℕ → A → Result A Refusal
checked bytes a = cond (length bytes == 16) (cond (spare_in bytes == 0 && acceptable (fields_in bytes)) (Ok a) (Err Unacceptable)) (Err WrongSize)

abbrev pub unpacked : List ℕ → Result Fields Refusal
unpacked bytes = checked bytes (fields_in bytes)
