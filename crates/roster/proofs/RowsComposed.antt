-- The composed row: one pass, and one life after the other.
use Rattle.std.proofs.Common.{◌≡◌, ℕ, ◌+◌, ◌<◌, List, [], ◌∷◌, ◌++◌, map, length, get_or, drop, set, sym, ap, ◌∙◌, ap₂, add-one}
use Rattle.std.proofs.lemmas.List.{nil_from_length}
use Rattle.algebra.specs.Ring.{Semi, Ops, Laws, semi}
use Rattle.algebra.specs.Patterns.{Life}
use Rattle.algebra.specs.Rows.{row}
use Rattle.algebra.specs.Sums.{against}
use Rattle.algebra.proofs.Semiring.{laws_semi}
use Rattle.algebra.proofs.Composition.{compose}
use Rattle.algebra.proofs.Fronts.{Begun, begun_first}
use Rattle.roster.proofs.RowsTable.{figures_back}

-- The pass over entries in their plain form; `below` is the old entry before them.
abbrev pub composed : {F P : Type 0} → Semi F → (F → P) → (P → F) → Life F → F → List P → List P
composed s plain figure l below entries = map plain (compose s l below (map figure entries))

-- Over plain forms that stand for the figures, it is the pass over the figures.
pub composed_back : {F P : Type 0} (s : Semi F) (plain : F → P) (figure : P → F) → ((x : F) → figure (plain x) ≡ x) → (l : Life F) (xs : List F)
    → composed s plain figure l s.zero (map plain xs) ≡ map plain (compose s l s.zero xs)
composed_back s plain figure back l xs = ap (λ ys. map plain (compose s l s.zero ys)) (figures_back plain figure back xs)

module _ {F : Type 0} (o : Ops F) (d : F) where
  -- A figure against the whole.
  abbrev pub life : F → Life F
  life p = record { alive = p; dead = o.plus d (o.minus p) }

  -- The next life of the list, as it is read behind the whole.
  pub life_read : (ps : List F) (i : ℕ) (whole alive less dead : F) → whole ≡ d → alive ≡ get_or (d ∷ ps) (i + 1) o.zero → less ≡ o.minus alive → dead ≡ o.plus whole less
      → record { alive = alive; dead = dead } ≡ life (get_or ps i o.zero)
  life_read ps i whole alive less dead is_whole is-alive is-less is-dead =
      let p = get_or ps i o.zero in
      let lives : alive ≡ p = rw add-one at is-alive in
      let dies : dead ≡ o.plus d (o.minus p) = is-dead ∙ ap₂ o.plus is_whole (is-less ∙ ap o.minus lives) in
      let one : (a b : F) → Life F = λ a b. record { alive = a; dead = b } in
      ap₂ one lives dies

-- Nobody at all: the row is the single entry one.
pub row_nobody : {F P : Type 0} {o : Ops F} (L : Laws o) (plain : F → P) (d : F) (ps : List F) (table : List P) (w : P) → length ps ≡ 0 → 0 < length table → w ≡ plain o.one
    → Begun (semi o) plain 0 (against o d ps) table (set table 0 w)
row_nobody {o = o} L plain d ps table w none h e =
    let nil : ps ≡ [] = nil_from_length ps none in
    begun_first (laws_semi L) plain table w h e ∙ ap (λ xs. map plain (row (semi o) 1 (against o d xs)) ++ drop 1 table) (sym nil)
