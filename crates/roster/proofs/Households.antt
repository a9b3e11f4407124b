-- Two rosters with the same whole, and a roster of all their lives.
use Rattle.std.proofs.Common.{◌≡◌, ℕ, ◌+◌, ◌≤◌, List, ◌++◌, map, length, take, drop, cond, nat_lt, nat_le, Ok, Err, if◌then◌else◌, inl, inr, sym, ap, ◌∙◌, ap₂, arith}
use Rattle.std.proofs.lemmas.Bool.{cases_lt, lt-ltb, le-ltb, le-leb, lt-leb, cond-true, cond-false}
use Rattle.std.proofs.lemmas.List.{length-map, length-append, map-append, take_at}
use Rattle.algebra.specs.Ring.{Ops, Laws, semi}
use Rattle.algebra.specs.Patterns.{Life, exactly}
use Rattle.algebra.specs.Rows.{row}
use Rattle.algebra.specs.Sums.{against}
use Rattle.algebra.proofs.Semiring.{laws_semi}
use Rattle.rows.specs.Answer.{answer as households}
use Rattle.rows.specs.declared.Refusal.TheVariants.{ShortTable}
use Rattle.rows.proofs.Households.{answer_theirs}
use Rattle.roster.specs.Ledger.{Ledger, Table, RefusedTable, Composed, figures, row_of, answer}
use Rattle.roster.specs.Refusals.{households_or}
use Rattle.algebra.proofs.Fronts.{length_row}
use Rattle.roster.proofs.RowsTable.{figures_back}

module _ {F P : Type 0} {o : Ops F} (L : Laws o) (figure : P → F) (plain : F → P) (back : (x : F) → figure (plain x) ≡ x) where
  abbrev lives_of : Ledger F → List (Life F)
  lives_of l = against o l.whole (figures l.lives)

  length_lives : (l : Ledger F) → length (lives_of l) ≡ length l.lives
  length_lives l = length-map (figures l.lives) (λ p. record { alive = p; dead = o.plus l.whole (o.minus p) }) ∙ length-map l.lives (λ m. m.figure)

  -- The row at the front of a table, as figures.
  front : (l : Ledger F) (t : List P) → map figure (take (length l.lives + 1) (row_of o plain l t)) ≡ row (semi o) (length (lives_of l) + 1) (lives_of l)
  front l t =
      let n = length l.lives + 1 in
      let size : n ≡ length (lives_of l) + 1 = omega (arith, length_lives l) in
      ap (map figure) (take_at (map plain (row (semi o) n (lives_of l))) (drop n t) n (length_row plain (λ k. exactly (semi o) k (lives_of l)) n))
      ∙ figures_back plain figure back (row (semi o) n (lives_of l))
      ∙ ap (λ k. row (semi o) k (lives_of l)) size

  tabled : (k : ℕ) (made output : List P) → households_or {F = F} (if nat_lt (length output) k then Err ShortTable else Ok made) output ≡ cond (nat_le k (length output)) (Table made) (RefusedTable 6 output)
  tabled k made output = elim (cases_lt (length output) k) [
    | inl h ↦ ap (λ r. households_or r output) (cond-true _ _ _ (lt-ltb (length output) k h)) ∙ sym (cond-false _ _ _ (lt-leb k (length output) h))
    | inr h ↦ ap (λ r. households_or r output) (cond-false _ _ _ (le-ltb (length output) k h)) ∙ sym (cond-true _ _ _ (le-leb k (length output) h))
  ]

  pub one_roster : (l m both : Ledger F) (t u output : List P) → m.whole ≡ l.whole → both.whole ≡ l.whole → both.lives ≡ l.lives ++ m.lives → length both.lives ≤ 64
      → households_or (households (semi o) figure plain (take (length l.lives + 1) (row_of o plain l t)) (take (length m.lives + 1) (row_of o plain m u)) output) output ≡ answer o plain both (Composed output)
  one_roster l m both t u output same whole lives few =
      let all : lives_of l ++ lives_of m ≡ lives_of both =
      ap (λ w. lives_of l ++ against o w (figures m.lives)) same
      ∙ sym (ap₂ (λ w ls. against o w (figures ls)) whole lives
      ∙ ap (against o l.whole) (map-append (λ m. m.figure) l.lives m.lives)
      ∙ map-append (λ p. record { alive = p; dead = o.plus l.whole (o.minus p) }) (figures l.lives) (figures m.lives)) in
      let n : length (lives_of l) + length (lives_of m) ≡ length both.lives = omega (arith, length_lives l, length_lives m, ap length lives, length-append l.lives m.lives) in
      ap (λ r. households_or r output) (answer_theirs (laws_semi L) figure plain (lives_of l) (lives_of m) _ _ output (front l t) (front m u) (omega (arith, n, few)))
      ∙ ap₂ (λ k ls. households_or (if nat_lt (length output) (k + 1) then Err ShortTable else Ok (map plain (row (semi o) (k + 1) ls) ++ drop (k + 1) output)) output) n all
      ∙ tabled (length both.lives + 1) (row_of o plain both output) output
