use Rattle.std.proofs.Common.{ℕ, List, ◌++◌, drop, string_bytes}
use Rattle.std.specs.List.{AllZip}
use Rattle.text.specs.Text.{others}
use Rattle.text.specs.Floats.{IsTextOf, AreSpacedTextsOf}
use Rattle.text.proofs.floats.floats_text.Given as goal

-- Whatever texts the floats that are left are given, the whole is a text of all.
abbrev pub invariant-loop-x : goal.invariant-loop-x
invariant-loop-x l = (ts : List (List ℕ)) → AllZip IsTextOf (drop l.x-index l.rest) ts → AreSpacedTextsOf l.floats (string_bytes l.text ++ others ts)
