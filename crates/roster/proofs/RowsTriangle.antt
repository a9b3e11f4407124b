-- The triangle over a row.
use Rattle.std.proofs.Common.{◌≡◌, ℕ, zero, suc, ◌+◌, ◌-◌, ◌<◌, ◌≤◌, List, [], ◌∷◌, ◌++◌, map, length, get_or, take, drop, set, sym, refl, ap, ◌∙◌, subst, ap₂, append_assoc, append-nil, add-one, arith}
use Rattle.std.specs.List.{range_with_len}
use Rattle.std.proofs.lemmas.List.{length-take-le, take_more, drop_more, drop-set, set_at, get_or_at, take_at, drop_at}
use Rattle.algebra.specs.Ring.{Ops, Laws, semi}
use Rattle.algebra.specs.Patterns.{exactly}
use Rattle.algebra.specs.Rows.{row}
use Rattle.algebra.specs.Sums.{power, elementary, against}
use Rattle.algebra.proofs.Waring.{entry, entry_none, entry_step, entry_last, entry_past, exactly_entry}
use Rattle.roster.specs.Triangle.{differences}
use Rattle.algebra.proofs.Fronts.{length_row, row_push}
use Rattle.roster.proofs.RowsTable.{figures_back}

-- A pass, from the last place down: the places below t are old.
module _ {F P : Type 0} (o : Ops F) (plain : F → P) (figure : P → F) (entry : List P) where
  abbrev passed : ℕ → List F
  passed t = differences o (map figure (drop t entry))

  pub differences_down : (row : List P) (t q : ℕ) (x : P) (y above less v : F) (w : P) → t ≡ q + 1 → q < length entry
      → (row ≡ take t entry ++ map plain (passed t)) × (above ≡ get_or (passed t) 0 o.zero)
      → y ≡ figure (get_or row q x) → less ≡ o.minus above → v ≡ o.plus y less → w ≡ plain v
      → (set row q w ≡ take q entry ++ map plain (passed q)) × (v ≡ get_or (passed q) 0 o.zero)
  differences_down row t q x y above less v w next h so_far is_y is-less is-v is-w =
      let e = get_or entry q x in
      let rest = map plain (passed t) in
      let front : length (take q entry) ≡ q = length-take-le q entry (omega arith) in
      let was : row ≡ take q entry ++ (e ∷ rest) =
      so_far.0 ∙ ap (λ k. take k entry ++ rest) next ∙ ap (λ xs. xs ++ rest) (take_more entry q x h) ∙ append_assoc (take q entry) (e ∷ []) rest in
      let read : y ≡ figure e = is_y ∙ ap (λ xs. figure (get_or xs q x)) was ∙ ap figure (get_or_at (take q entry) e rest x q front) in
      let here : v ≡ o.plus (figure e) (o.minus (get_or (passed t) 0 o.zero)) = is-v ∙ ap₂ o.plus read (is-less ∙ ap o.minus so_far.1) in
      let all : v ∷ passed t ≡ passed q =
      ap (λ z. z ∷ passed t) here ∙ ap (λ k. o.plus (figure e) (o.minus (get_or (passed k) 0 o.zero)) ∷ passed k) next
      ∙ ap (λ xs. differences o (map figure xs)) (sym (drop_more entry q x h)) in (
        ap (λ xs. set xs q w) was ∙ set_at (take q entry) e rest w q front ∙ ap (λ z. take q entry ++ (z ∷ rest)) is-w
            ∙ ap (λ zs. take q entry ++ map plain zs) all,
        ap (λ zs. get_or zs 0 o.zero) all,
      )

-- The row before the first pass is written from its last place down, with the power that each place wants.
module _ {F P : Type 0} (o : Ops F) (plain : F → P) (d : F) (ps : List F) where
  -- The places from t on are written, and the power is the next place's.
  pub record Weighing (t : ℕ) (power' : F) (row : List P) : Type 0 where
    pub raised : power' ≡ power o d (length ps + 1 - t)
    pub written : drop t row ≡ map plain (map (entry o d ps 0) (range_with_len t (length ps + 1 - t)))

  pub weighing_more : Laws o → (t r : ℕ) (p whole b v p' : F) (w : P) (row : List P) → t ≡ r + 1 → t ≤ length ps + 1 → r < length row → Weighing t p row
      → whole ≡ d → b ≡ elementary o r ps → v ≡ o.times b p → w ≡ plain v → p' ≡ o.times whole p → Weighing r p' (set row r w)
  weighing_more L t r p whole b v p' w row next h within before is-d is_b is-v is-w is-p =
      let more : length ps + 1 - r ≡ suc (length ps + 1 - t) = omega arith in
      let all : r + (length ps + 1 - t) ≡ length ps = omega arith in
      let here : v ≡ entry o d ps 0 r = is-v ∙ ap₂ o.times is_b before.raised ∙ sym (entry_none L d ps r (length ps + 1 - t) all) in
      let above : drop (r + 1) row ≡ map plain (map (entry o d ps 0) (range_with_len (r + 1) (length ps + 1 - t))) =
      subst (λ k. drop k row ≡ map plain (map (entry o d ps 0) (range_with_len k (length ps + 1 - t)))) next before.written in
      record {
        raised = is-p ∙ ap₂ o.times is-d before.raised ∙ sym (ap (power o d) more);
        written = rw more (drop-set row r w within ∙ ap₂ ◌∷◌ (is-w ∙ ap plain here) above);
      }

-- The passes over a row: after i of them the first i places are done.
module _ {F P : Type 0} {o : Ops F} (L : Laws o) (plain : F → P) (d : F) (ps : List F) where
  abbrev pub passes : ℕ → List P
  passes i = map plain (row (semi o) i (against o d ps)) ++ map plain (map (entry o d ps i) (range_with_len i (length ps + 1 - i)))

  -- A pass over the places from k on.
  differences_entries : (i k m : ℕ) → k + m ≡ length ps + 1 → differences o (map (entry o d ps i) (range_with_len k m)) ≡ map (entry o d ps (suc i)) (range_with_len k m)
  differences_entries i k zero e = refl
  differences_entries i k (suc m) e =
      let next : k + 1 + m ≡ length ps + 1 = omega arith in
      let above = differences_entries i (k + 1) m next in
      ap₂ ◌∷◌ (ap (λ xs. o.plus (entry o d ps i k) (o.minus (get_or xs 0 o.zero))) above ∙ ap (λ x. o.plus (entry o d ps i k) (o.minus x)) (first m next) ∙ sym (entry_step L d ps i k)) above
    where
      first : (m : ℕ) → k + 1 + m ≡ length ps + 1 → get_or (map (entry o d ps (suc i)) (range_with_len (k + 1) m)) 0 o.zero ≡ entry o d ps (suc i) (suc k)
      first zero e = sym (entry_past L d ps (suc i) (suc k) (omega arith))
      first (suc m) e = ap (entry o d ps (suc i)) (add-one k)

  -- One place more that is done, and has x.
  row_more : (i : ℕ) (x : F) (xs : List P) → x ≡ entry o d ps (suc i) i → map plain (row (semi o) i (against o d ps)) ++ (plain x ∷ xs) ≡ map plain (row (semi o) (i + 1) (against o d ps)) ++ xs
  row_more i x xs e = row_push plain (λ k. exactly (semi o) k (against o d ps)) i (plain x) xs (ap plain (e ∙ sym (exactly_entry L d ps i)))

  pub passes_more : (figure : P → F) → ((x : F) → figure (plain x) ≡ x) → (i : ℕ) (table new : List P) → i < length ps + 1 → table ≡ passes i
      → new ≡ map plain (differences o (map figure (drop i table))) → take i table ++ new ≡ passes (i + 1)
  passes_more figure back i table new h is made =
      let front = map plain (row (semi o) i (against o d ps)) in
      let part = map (entry o d ps i) (range_with_len i (length ps + 1 - i)) in
      let long : length front ≡ i = length_row plain (λ k. exactly (semi o) k (against o d ps)) i in
      let more : length ps + 1 - i ≡ suc (length ps + 1 - (i + 1)) = omega arith in
      let all : i + (length ps + 1 - i) ≡ length ps + 1 = omega arith in
      let before : take i table ≡ front = ap (take i) is ∙ take_at front (map plain part) i long in
      let after : map figure (drop i table) ≡ part = ap (λ xs. map figure (drop i xs)) is ∙ ap (map figure) (drop_at front (map plain part) i long) ∙ figures_back plain figure back part in
      let passed : new ≡ map plain (map (entry o d ps (suc i)) (range_with_len i (length ps + 1 - i))) = made ∙ ap (λ xs. map plain (differences o xs)) after ∙ ap (map plain) (differences_entries i i (length ps + 1 - i) all) in
      ap₂ ◌++◌ before (passed ∙ ap (λ m. map plain (map (entry o d ps (suc i)) (range_with_len i m))) more)
      ∙ row_more i (entry o d ps (suc i) i) _ refl
      ∙ ap (λ k. map plain (row (semi o) (i + 1) (against o d ps)) ++ map plain (map (entry o d ps k) (range_with_len (i + 1) (length ps + 1 - (i + 1))))) (sym (add-one i))

  -- The last place is the same after any pass.
  pub passes_all : (i : ℕ) (table : List P) → i ≡ length ps → table ≡ passes i → table ≡ map plain (row (semi o) (length ps + 1) (against o d ps))
  passes_all i table e is =
      let one : length ps + 1 - i ≡ 1 = omega arith in
      let here : entry o d ps i i ≡ entry o d ps (suc i) i = rw e (entry_last L d ps (length ps) ∙ sym (entry_last L d ps (suc (length ps)))) in
      is ∙ ap (λ m. map plain (row (semi o) i (against o d ps)) ++ map plain (map (entry o d ps i) (range_with_len i m))) one
      ∙ row_more i (entry o d ps i i) [] here ∙ append-nil _ ∙ ap (λ k. map plain (row (semi o) (k + 1) (against o d ps))) e
