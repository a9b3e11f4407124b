-- Closing the gap that a life leaves.
use Rattle.std.proofs.Common.{◌≡◌, ℕ, ◌+◌, ◌<◌, ◌≤◌, List, map, length, get_or, set, sym, refl, ap, ◌∙◌, ap₂, arith}
use Rattle.std.specs.List.{range_with_len}
use Rattle.algebra.proofs.Rows.{length_counting}
use Rattle.roster.specs.Passes.{cell_of, cells_of, Ends, Closed}
use Rattle.roster.specs.declared.cells.Cell.{Cell}
use Rattle.roster.proofs.Laying.{up_to, get_or_up_to_from, pass_up, pass_below, pass_from}
use Rattle.roster.proofs.Sums.{same_cell}

-- The gap is closed below k.
abbrev pub Closing : {P : Type 0} → P → ℕ → ℕ → List (Cell P) → ℕ → List (Cell P) → Type 0
Closing {P} z place n before k cells = (size : ℕ) (figures kept sums : ℕ → P) (numbers left : ℕ → ℕ)
    → Ends n z figures → Ends n 0 numbers → Closed place figures kept → Closed place numbers left → before ≡ cells_of size figures sums numbers
    → cells ≡ map (up_to k (cell_of kept sums left) (cell_of figures sums numbers)) (range_with_len 0 size)

module _ {P : Type 0} (z : P) (place n : ℕ) (before : List (Cell P)) where
  pub closing_start : Closing z place n before place before
  closing_start size figures kept sums numbers left ef en cf cn start =
      start ∙ sym (pass_below (cell_of kept sums left) (cell_of figures sums numbers) size place
      (λ k h _. same_cell (cell_of kept sums left k) (cell_of figures sums numbers k) (cf.before k h) refl (cn.before k h)))

  pub closing_step : (cells : List (Cell P)) (k : ℕ) (above e : Cell P) → place ≤ k → k + 1 < length cells → above ≡ get_or cells (k + 1) above → Closing z place n before k cells
      → Closing z place n before (k + 1) (set cells k (record { figure = above.figure; sum = (get_or cells k e).sum; number = above.number }))
  closing_step cells k above e from within read inv size figures kept sums numbers left ef en cf cn start =
      let f : ℕ → Cell P = cell_of kept sums left in
      let g : ℕ → Cell P = cell_of figures sums numbers in
      let is : cells ≡ map (up_to k f g) (range_with_len 0 size) = inv size figures kept sums numbers left ef en cf cn start in
      let sized : length cells ≡ size = length_counting (up_to k f g) size cells is in
      let cell-is : get_or cells k e ≡ g k = get_or_up_to_from f g size k cells k e is (omega arith) (omega arith) in
      let above-is : above ≡ g (k + 1) = read ∙ get_or_up_to_from f g size k cells (k + 1) above is (omega arith) (omega arith) in
      ap₂ (λ xs c. set xs k c) is (same_cell _ (f k) (ap (λ c. c.figure) above-is ∙ sym (cf.after k from)) (ap (λ c. c.sum) cell-is) (ap (λ c. c.number) above-is ∙ sym (cn.after k from)))
      ∙ pass_up f g size k (f k) refl

  pub closing_end : (cells : List (Cell P)) (k : ℕ) (e : Cell P) (figure : P) → k ≡ n → place ≤ n → n < length cells → figure ≡ z
      → Closing z place n before k cells → (size : ℕ) (figures kept sums : ℕ → P) (numbers left : ℕ → ℕ)
      → Ends n z figures → Ends n 0 numbers → Closed place figures kept → Closed place numbers left → before ≡ cells_of size figures sums numbers
      → set cells n (record { figure = figure; sum = (get_or cells n e).sum; number = 0 }) ≡ cells_of size kept sums left
  closing_end cells k e figure here from within rz inv size figures kept sums numbers left ef en cf cn start =
      let f : ℕ → Cell P = cell_of kept sums left in
      let g : ℕ → Cell P = cell_of figures sums numbers in
      let is : cells ≡ map (up_to n f g) (range_with_len 0 size) = inv size figures kept sums numbers left ef en cf cn start ∙ ap (λ i. map (up_to i f g) (range_with_len 0 size)) here in
      let sized : length cells ≡ size = length_counting (up_to n f g) size cells is in
      let last-is : get_or cells n e ≡ g n = get_or_up_to_from f g size n cells n e is (omega arith) (omega arith) in
      ap₂ (λ xs c. set xs n c) is (same_cell _ (f n) (rz ∙ sym (ef (n + 1) (omega arith)) ∙ sym (cf.after n from)) (ap (λ c. c.sum) last-is) (sym (en (n + 1) (omega arith)) ∙ sym (cn.after n from)))
      ∙ pass_up f g size n (f n) refl
      ∙ pass_from f g size (n + 1) (λ j h _. same_cell (g j) (f j)
      (ef j (omega arith) ∙ sym (ef (j + 1) (omega arith)) ∙ sym (cf.after j (omega arith))) refl (en j (omega arith) ∙ sym (en (j + 1) (omega arith)) ∙ sym (cn.after j (omega arith))))
