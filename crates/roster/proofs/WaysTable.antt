-- The table of the coefficients: a test of it, and what the test shows.
use Rattle.std.proofs.Common.{◌≡◌, ℕ, zero, suc, ◌+◌, ◌-◌, ◌*◌, ◌/◌, ◌<◌, ◌≤◌, Bool, true, false, ◌&&◌, ◌==◌, List, [], ◌∷◌, length, get_or, slice_range, drop, replicate, refl, sym, ap, subst, ◌∙◌, add_comm, arith, inl, inr, le_refl, le_of_suc-le-suc, not-suc-le-zero}
use Rattle.std.proofs.lemmas.Bool.{and_parts, eqb-true, cases_lt, true≢false}
use Rattle.std.proofs.lemmas.List.{length-take, length-drop}
use Rattle.algebra.proofs.Binomial.{ways}
use Rattle.algebra.proofs.Rows.{below}
use Rattle.roster.specs.declared.ways.TheConstants.{WAYS}

-- The row j of a table: 66 − j numbers, after the rows before it.
abbrev row_at : ℕ → List ℕ → List ℕ
row_at j table = let start = j * (133 - j) / 2 in slice_range table start (start + (66 - j))

-- Whether the second list has the running sums of the first, from a sum on, and is one shorter.
unfoldable sums_ok : ℕ → List ℕ → List ℕ → Bool
sums_ok sum [] ys = false
sums_ok sum (x ∷ []) [] = true
sums_ok sum (x ∷ x' ∷ xs) [] = false
sums_ok sum (x ∷ xs) (y ∷ ys) = sum + x == y && sums_ok y xs ys

-- Whether the rows 1 to j are each the running sums of the row before.
unfoldable rows_ok : ℕ → List ℕ → Bool
rows_ok zero table = true
rows_ok (suc j) table = rows_ok j table && sums_ok 0 (row_at j table) (row_at (suc j) table)

ways_first : row_at 0 WAYS ≡ 1 ∷ replicate 65 0
ways_first = refl

ways_rows : rows_ok 65 WAYS ≡ true
unfolding rows_ok sums_ok
ways_rows = refl

-- The list ways(j, a), ways(j, a + 1), ..
abbrev From : ℕ → ℕ → List ℕ → Type 0
From j a [] = Unit {0}
From j a (x ∷ xs) = (x ≡ ways j a) × From j (suc a) xs

From-at : (j a : ℕ) (xs : List ℕ) → From j a xs → (t : ℕ) → t < length xs → get_or xs t 0 ≡ ways j (a + t)
From-at j a [] from t lt = absurd (not-suc-le-zero lt)
From-at j a (x ∷ xs) from zero lt = from.0 ∙ ap (ways j) (omega arith)
From-at j a (x ∷ xs) from (suc t) lt = From-at j (suc a) xs from.1 t (le_of_suc-le-suc lt) ∙ ap (ways j) (omega arith)

From-zeros : (n a : ℕ) → From 0 (suc a) (replicate n 0)
From-zeros zero a = tt
From-zeros (suc n) a = (refl, From-zeros n (suc a))

ways_sum : (j t : ℕ) → below 0 (ways (suc j)) t + ways j t ≡ ways (suc j) t
ways_sum j zero = refl
ways_sum j (suc t) = add_comm (ways (suc j) t) (ways j (suc t))

sums_ok-true : (j a : ℕ) (xs ys : List ℕ) → From j a xs → sums_ok (below 0 (ways (suc j)) a) xs ys ≡ true → (length ys + 1 ≡ length xs) × From (suc j) a ys
unfolding sums_ok
sums_ok-true j a [] ys from ok = absurd (true≢false (sym ok))
sums_ok-true j a (x ∷ []) [] from ok = (refl, tt)
sums_ok-true j a (x ∷ x' ∷ xs) [] from ok = absurd (true≢false (sym ok))
sums_ok-true j a (x ∷ xs) (y ∷ ys) from ok =
    let sum = below 0 (ways (suc j)) a in
    let parts = and_parts (sum + x == y) (sums_ok y xs ys) ok in
    let here : y ≡ ways (suc j) a = omega (arith, eqb-true (sum + x) y parts.0, from.0, ways_sum j a) in
    let rest = sums_ok-true j (suc a) xs ys from.1 (subst (λ s. sums_ok s xs ys ≡ true) here parts.1) in
    (omega (arith, rest.0), (here, rest.1))

-- A row with the numbers that it is to have.
abbrev Row : ℕ → List ℕ → Type 0
Row j xs = (length xs + j ≡ 66) × From j 0 xs

first_row : (xs : List ℕ) → xs ≡ 1 ∷ replicate 65 0 → Row 0 xs
first_row xs e = subst (Row 0) (sym e) (refl, (refl, From-zeros 65 0))

rows_ok-true : (table : List ℕ) → Row 0 (row_at 0 table) → (n j : ℕ) → rows_ok n table ≡ true → j ≤ n → Row j (row_at j table)
unfolding rows_ok
rows_ok-true table first zero j ok le = let none : 0 ≡ j = omega arith in subst (λ i. Row i (row_at i table)) none first
rows_ok-true table first (suc n) j ok le =
    let parts = and_parts (rows_ok n table) (sums_ok 0 (row_at n table) (row_at (suc n) table)) ok in
    elim (cases_lt j (suc n)) [
      | inl before ↦ rows_ok-true table first n j parts.0 (le_of_suc-le-suc before)
      | inr last ↦
          let at : suc n ≡ j = omega arith in
          let above = rows_ok-true table first n n parts.0 (le_refl n) in
          let sums = sums_ok-true n 0 (row_at n table) (row_at (suc n) table) above.1 parts.1 in
          subst (λ i. Row i (row_at i table)) at (omega (arith, above.0, sums.0), sums.1)
    ]

row_of_table : (j : ℕ) → j ≤ 65 → Row j (row_at j WAYS)
row_of_table j le = rows_ok-true WAYS (first_row (row_at 0 WAYS) ways_first) 65 j ways_rows le

-- A row stands within the table.
pub row_within : (j : ℕ) → j ≤ 65 → j * (133 - j) / 2 + (66 - j) ≤ 2211
row_within j le =
    let start = j * (133 - j) / 2 in
    omega (arith, (row_of_table j le).0, length-take (start + (66 - j) - start) (drop start WAYS), length-drop start WAYS)

-- What is read where a row stands.
pub row_between : (j start end : ℕ) → j ≤ 65 → start ≡ j * (133 - j) / 2 → end ≡ start + (66 - j) → (length (slice_range WAYS start end) ≡ 66 - j) × ((t : ℕ) → j + t ≤ 65 → get_or (slice_range WAYS start end) t 0 ≡ ways j t)
row_between j start end le from to =
    let row = row_of_table j le in
    rw to (rw from (
      omega (arith, row.0),
      λ t fits. From-at j 0 (row_at j WAYS) row.1 t (omega (arith, row.0)) ∙ ap (ways j) (omega arith),
    ))
