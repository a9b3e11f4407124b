-- Whether a line was understood, as the program's status tells, and why reading it may fail.
use Rattle.std.specs.Prelude.{Bool, true, false, Result, Ok, Err, ⊤}
use Rattle.text.specs.declared.unanswered.Unanswered.{Unanswered}
use Rattle.text.specs.declared.unanswered.Unanswered.TheVariants.{NotUnderstood, Refused, NoMemory}

-- A refusal is an answer.
abbrev pub is_understood : {T : Type 0} → Result T Unanswered → Bool
is_understood (Ok text) = true
is_understood (Err NotUnderstood) = false
is_understood (Err (Refused refusal)) = true
is_understood (Err NoMemory) = true

-- Why reading may fail: something is not what its place asks for (`wrong`), or memory is wanted. Reading is never refused.
abbrev pub FailsOnlyWhere : Type 0 → Unanswered → Type 0
FailsOnlyWhere wrong NotUnderstood = wrong
FailsOnlyWhere wrong (Refused refusal) = ⊥
FailsOnlyWhere wrong NoMemory = ⊤
