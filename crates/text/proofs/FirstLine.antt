-- Taking the first line off the input.
use Rattle.std.proofs.Common.{◌≡◌, ℕ, ◌<◌, ◌≤◌, Bool, true, false, cond, List, ◌∷◌, map, length, Some, None, Option, sym, refl, ap, ap₂, ◌∙◌, ◌==◌, arith, ltb-true, ltb-false}
use Rattle.std.specs.Prelude.{nat_lt}
use Rattle.std.specs.List.{filter, position_or_len}
use Rattle.std.proofs.lemmas.List.Splits.{slice_split_none, slice_split_first}
use Rattle.std.proofs.lemmas.List.Sums.{fails_before_first}
use Rattle.text.specs.Text.{words_of, line_to, lines_from, first_line, other_lines, is_command, commands}

abbrev newline : ℕ → Bool
newline c = c == 10

-- what comes of the input where its first newline stands at o
abbrev from : List ℕ → Option ℕ → List (List (List ℕ))
from input o = cond (is_command (words_of (line_to input o))) (words_of (line_to input o) ∷ commands (lines_from input o)) (commands (lines_from input o))

pub commands_step : (input : List ℕ) → commands input ≡ cond (is_command (words_of (first_line input))) (words_of (first_line input) ∷ commands (other_lines input)) (commands (other_lines input))
commands_step input = at (nat_lt (position_or_len newline input) (length input)) refl
  where
    at : (b : Bool) → nat_lt (position_or_len newline input) (length input) ≡ b → commands input ≡ from input (cond b (Some (position_or_len newline input)) None)
    at true e =
        let h : position_or_len newline input < length input = ltb-true _ _ e in
        ap (λ lines. filter is_command (map words_of lines)) (slice_split_first newline input 0 h)
    at false e =
        let h : length input ≤ position_or_len newline input = ltb-false _ _ e in
        ap (λ lines. filter is_command (map words_of lines)) (slice_split_none newline input (λ k d below. fails_before_first newline input k d (omega arith)))

-- a line with these words, and what is left behind it
module _ (input : List ℕ) (words : List (List ℕ)) (rest : List ℕ) (w : words ≡ words_of (first_line input)) (r : rest ≡ other_lines input) where
  told : (b : Bool) → is_command words ≡ b → commands input ≡ cond b (words ∷ commands rest) (commands rest)
  told b e =
      commands_step input
      ∙ ap₂ (λ ws left. cond (is_command ws) (ws ∷ commands left) (commands left)) (sym w) (sym r)
      ∙ ap (λ t. cond t (words ∷ commands rest) (commands rest)) e

  pub command_found : is_command words ≡ true → commands input ≡ words ∷ commands rest
  command_found e = told true e

  pub passed_over : is_command words ≡ false → commands rest ≡ commands input
  passed_over e = sym (told false e)
