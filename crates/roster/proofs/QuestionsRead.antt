-- What a question reads from cells that hold a ledger, and that it leaves them so.
use Rattle.std.proofs.Common.{◌≡◌, ℕ, ◌+◌, ◌<◌, ◌≤◌, Bool, true, false, cond, leb, List, ◌∷◌, ◌++◌, map, length, get_or, drop, sym, ap, ◌∙◌, add-one, arith}
use Rattle.std.proofs.lemmas.Bool.{cond-true, le-leb}
use Rattle.algebra.specs.Ring.{Ops, Laws, semi}
use Rattle.algebra.specs.Rows.{row}
use Rattle.algebra.specs.Sums.{elementary, against}
use Rattle.algebra.proofs.Waring.{entry, exactly_entry, at_least_entry}
use Rattle.roster.specs.Ledger.{Ledger, Answer, Refused, Figure, Table, Exactly, AtLeast, figures, answer, exactly_of, at_least_of, row_of, row_answer}
use Rattle.roster.specs.Cells.{Holds}
use Rattle.roster.specs.declared.cells.Cell.{Cell}
use Rattle.roster.proofs.Laying.{length_held, get_or_held}

module _ {F P : Type 0} {o : Ops F} {plain : F → P} (figure : P → F) (back : (x : F) → figure (plain x) ≡ x) {size : ℕ} {l : Ledger F} {cells : List (Cell P)} (held : Holds o plain size l cells) where
  pub read_figure : (k : ℕ) (x : Cell P) (y : F) → k < length cells → y ≡ figure (get_or cells k x).figure → y ≡ get_or (l.whole ∷ figures l.lives) k o.zero
  read_figure k x y h e = e ∙ ap (λ c. figure c.figure) (get_or_held held k x (omega (arith, length_held held))) ∙ back _

  pub read_sum : (k : ℕ) (x : Cell P) (y : F) → k < length cells → y ≡ figure (get_or cells k x).sum → y ≡ elementary o k (figures l.lives)
  read_sum k x y h e = e ∙ ap (λ c. figure c.sum) (get_or_held held k x (omega (arith, length_held held))) ∙ back _

-- A question alters nothing, whether it was refused or not.
pub asked : {F P : Type 0} {o : Ops F} {plain : F → P} {size : ℕ} {l : Ledger F} {cells : List (Cell P)} → Holds o plain size l cells
    → (refused : Bool) → Holds o plain size (record { whole = l.whole; capacity = l.capacity; lives = cond refused l.lives l.lives }) cells
asked held true = held
asked held false = held

-- The answers to the two questions for a figure, where the count p that was looked up is the one k that was asked for.
module _ {F P : Type 0} {o : Ops F} (plain : F → P) (L : Laws o) (l : Ledger F) (p k : ℕ) (r : F) (same : p ≡ k) (small : k ≤ 64) where
  figure_asked : (f : ℕ → F) → r ≡ f p → ◌≡◌ {A = Answer F P} (Figure r) (cond (leb k 64) (Figure (f k)) (Refused 5))
  figure_asked f known = ap Figure (known ∙ ap f same) ∙ sym (cond-true (leb k 64) _ _ (le-leb k 64 small))

  pub exactly_asked : r ≡ entry o l.whole (figures l.lives) (p + 1) p → Figure r ≡ answer o plain l (Exactly k)
  exactly_asked e = figure_asked (exactly_of o plain l) (e ∙ ap (λ j. entry o l.whole (figures l.lives) j p) (add-one p) ∙ sym (exactly_entry L l.whole (figures l.lives) p))

  pub at_least_asked : r ≡ entry o l.whole (figures l.lives) p p → Figure r ≡ answer o plain l (AtLeast k)
  at_least_asked e = figure_asked (at_least_of o plain l) (e ∙ sym (at_least_entry L l.whole (figures l.lives) p))

-- The answer to a question for a row, where the table has room for it.
pub row_asked : {F P : Type 0} (o : Ops F) (plain : F → P) (l : Ledger F) (before after : List P) (n : ℕ) → n ≡ length l.lives → n < length before
    → after ≡ map plain (row (semi o) (n + 1) (against o l.whole (figures l.lives))) ++ drop (n + 1) before → Table after ≡ row_answer o plain l before
row_asked o plain l before after n e h is =
    let written : after ≡ row_of o plain l before = is ∙ ap (λ k. map plain (row (semi o) (k + 1) (against o l.whole (figures l.lives))) ++ drop (k + 1) before) e in
    ap Table written ∙ sym (cond-true (leb (length l.lives + 1) (length before)) _ _ (le-leb (length l.lives + 1) (length before) (omega arith)))
