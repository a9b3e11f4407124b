use Rattle.std.proofs.Common.{◌≡◌, ◌++◌, map, drop, string_bytes}
use Rattle.text.specs.Text.{others, spaced}
use Rattle.text.proofs.answers.table_text.Given as goal

abbrev pub invariant-loop-entry : goal.invariant-loop-entry
invariant-loop-entry g l = string_bytes l.text ++ others (map g.P.Typed.text (drop l.entry-index l.rest)) ≡ spaced (map g.P.Typed.text l.table)
