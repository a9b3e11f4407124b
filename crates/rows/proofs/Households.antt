-- The row of both from the rows of two households, in plain form.
use Rattle.std.proofs.Common.{◌≡◌, ℕ, ◌+◌, List, ◌++◌, map, length, drop, ◌≤◌, Ok, Err, if◌then◌else◌, nat_eq, nat_lt, ◌||◌, false, sym, ap, ◌∙◌, ap₂, arith}
use Rattle.std.proofs.lemmas.Bool.{ne_eqb, le-ltb, cond-false}
use Rattle.std.proofs.lemmas.List.{length-map}
use Rattle.algebra.specs.Ring.{Semi}
use Rattle.algebra.specs.Patterns.{Life, exactly}
use Rattle.algebra.specs.Rows.{row}
use Rattle.algebra.proofs.Semiring.{SemiLaws}
use Rattle.algebra.proofs.Rows.{length_counting}
use Rattle.algebra.proofs.Convolution.{row_append}
use Rattle.rows.specs.Answer.{lives, answer, together}
use Rattle.rows.specs.declared.Refusal.TheVariants.{ShortTable}

module _ {F P : Type 0} {s : Semi F} (L : SemiLaws s) (figure : P → F) (plain : F → P) where
  pub length_theirs : (ls : List (Life F)) (first : List P) → map figure first ≡ row s (length ls + 1) ls → length first ≡ length ls + 1
  length_theirs ls first theirs = sym (length-map first figure) ∙ length_counting (λ k. exactly s k ls) (length ls + 1) (map figure first) theirs

  pub together_row : (ls ms : List (Life F)) (first second : List P) → map figure first ≡ row s (length ls + 1) ls → map figure second ≡ row s (length ms + 1) ms → (size : ℕ) → together s figure plain first second size ≡ map plain (row s size (ls ++ ms))
  together_row ls ms first second theirs others size = ap (map plain) (row_append L ls ms (map figure first) (map figure second) theirs others size)

  -- Up to 64 lives together, the output alone may be too short.
  pub answer_theirs : (ls ms : List (Life F)) (first second output : List P) → map figure first ≡ row s (length ls + 1) ls → map figure second ≡ row s (length ms + 1) ms → length ls + length ms ≤ 64
      → answer s figure plain first second output ≡ (if nat_lt (length output) (length ls + length ms + 1) then Err ShortTable else Ok (map plain (row s (length ls + length ms + 1) (ls ++ ms)) ++ drop (length ls + length ms + 1) output))
  answer_theirs ls ms first second output theirs others few =
      let n : length first ≡ length ls + 1 = length_theirs ls first theirs in
      let m : length second ≡ length ms + 1 = length_theirs ms second others in
      let both : lives first + lives second + 1 ≡ length ls + length ms + 1 = omega (arith, n, m) in
      let some : (nat_eq (length first) 0 || nat_eq (length second) 0) ≡ false = ap₂ ◌||◌ (ne_eqb (length first) 0 (omega (arith, n))) (ne_eqb (length second) 0 (omega (arith, m))) in
      let within : nat_lt 64 (lives first + lives second) ≡ false = le-ltb 64 (lives first + lives second) (omega (arith, n, m, few)) in
      cond-false _ _ _ some
      ∙ cond-false _ _ _ within
      ∙ ap (λ k. if nat_lt (length output) k then Err ShortTable else Ok (together s figure plain first second k ++ drop k output)) both
      ∙ ap (λ front. if nat_lt (length output) (length ls + length ms + 1) then Err ShortTable else Ok (front ++ drop (length ls + length ms + 1) output)) (together_row ls ms first second theirs others (length ls + length ms + 1))
