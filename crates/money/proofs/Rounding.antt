-- Why a money row adds up to D, and how far its sums are from the exact ones.
use Rattle.std.proofs.Common.{◌≡◌, ℕ, zero, suc, ◌+◌, ◌-◌, ◌*◌, ◌%◌, ◌^◌, ◌<◌, ◌≤◌, List, [], ◌∷◌, ◌++◌, map, length, get_or, drop, fold, sym, refl, ap, ◌∙◌, subst, ap₂, mul-le-mul_right, mul_comm, add-mul, mul-le-mul_left, mul-add, arith, length-append}
use native.Mathlib.Nat.{pow-succ'}
use Rattle.std.specs.List.{AllByRecursion}
use Rattle.algebra.proofs.Each.{each_append}
use Rattle.std.proofs.lemmas.List.{append_assoc, append-nil, map-append, drop_all}
use Rattle.algebra.specs.Patterns.{Life, naturals, natural_life, total, at_least}
use Rattle.algebra.proofs.Patterns.{at_least_suc_nil, at_least_suc_cons, at_least_suc_at}
use Rattle.algebra.proofs.Naturals.{all_patterns}
use Rattle.algebra.proofs.Semiring.{naturals_laws}
use Rattle.algebra.proofs.Solver.{semiring, made}
use Rattle.money.specs.Money.{pass, whole, with_life, money_row, factor_of, exact, Near}

abbrev pub sum : List ℕ → ℕ
sum xs = total naturals xs

both : (d p q x : ℕ) → q + p ≡ d → q * x + p * x ≡ d * x
both d p q x e = sym (add-mul q p x) ∙ ap (λ z. z * x) e

-- The remainder that is left after a pass.
abbrev last : ℕ → ℕ → ℕ → List ℕ → ℕ
last p b c [] = c
last p b c (x ∷ xs) = last p x ((p * b + (whole - p) * x + c) % whole) xs

last_below : (p b c : ℕ) (xs : List ℕ) → c < whole → last p b c xs < whole
last_below p b c [] h = h
last_below p b c (x ∷ xs) h = last_below p x ((p * b + (whole - p) * x + c) % whole) xs (omega arith)

module _ (p : ℕ) (le : p ≤ whole) where
  -- The carries telescope.
  tally : (b c : ℕ) (xs : List ℕ) → whole * sum (pass p b c (xs ++ 0 ∷ [])) + last p b c (xs ++ 0 ∷ []) ≡ p * b + c + whole * sum xs
  tally b c [] = omega arith
  tally b c (x ∷ xs) =
      let t : ℕ = p * b + (whole - p) * x + c in
      omega (arith, tally x (t % whole) xs, both whole p (whole - p) x (omega arith))

  -- And so they do from each place on.
  tail : (k b c : ℕ) (xs : List ℕ)
      → (r : ℕ) × (c < whole → r < whole)
      × (whole * sum (drop (suc k) (pass p b c (xs ++ 0 ∷ []))) + last p b c (xs ++ 0 ∷ [])
      ≡ p * sum (drop k xs) + (whole - p) * sum (drop (suc k) xs) + r)
  tail zero b c [] = (last p b c (0 ∷ []), (λ h. last_below p b c (0 ∷ []) h), omega arith)
  tail zero b c (x ∷ xs) =
      let t : ℕ = p * b + (whole - p) * x + c in
      (t % whole, (λ h. omega arith), omega (arith, tally x (t % whole) xs, both whole p (whole - p) (sum xs) (omega arith)))
  tail (suc k) b c [] = (last p b c (0 ∷ []), (λ h. last_below p b c (0 ∷ []) h), omega arith)
  tail (suc k) b c (x ∷ xs) =
      let t : ℕ = p * b + (whole - p) * x + c in
      let r = tail k x (t % whole) xs in
      (r.0, (λ h. r.1 (omega arith)), r.2)

  with_sum : (row : List ℕ) → sum row ≡ whole → (sum (with_life row p) ≡ whole) × (last p 0 0 (row ++ 0 ∷ []) ≡ 0)
  with_sum row e = omega (arith, tally 0 0 row, last_below p 0 0 (row ++ 0 ∷ []) (omega arith))

  with_tail : (row : List ℕ) → sum row ≡ whole → (k : ℕ)
      → (r : ℕ) × (r < whole)
      × (whole * sum (drop (suc k) (with_life row p)) ≡ p * sum (drop k row) + (whole - p) * sum (drop (suc k) row) + r)
  with_tail row e k = let r = tail k 0 0 row in (r.0, r.1 (omega arith), omega (arith, r.2, (with_sum row e).1))

-- One life more keeps the bounds.
module _ (d p q x y a b c w f : ℕ) where
  scaled : (p * x + q * y) * d ≡ p * (x * d) + q * (y * d)
  scaled = semiring naturals_laws (p ∷ q ∷ x ∷ y ∷ d ∷ []) (search made depth 40 fits 100000) tt

  raised : f * (d * w) ≡ d * f * w
  raised = semiring naturals_laws (f ∷ d ∷ w ∷ []) (search made depth 40 fits 100000) tt

  spread : (p * a + q * b + c) * w ≡ p * (a * w) + q * (b * w) + c * w
  spread = semiring naturals_laws (p ∷ q ∷ a ∷ b ∷ c ∷ w ∷ []) (search made depth 40 fits 100000) tt

  -- Here a and b are the old sums times w, and f is the new one.
  near_low : d * f ≡ p * a + q * b + c → x * d ≤ a * w → y * d ≤ b * w → (p * x + q * y) * d ≤ f * (d * w)
  near_low t lx ly = omega (arith, scaled, raised, ap (λ z. z * w) t, spread, mul-le-mul_left p lx, mul-le-mul_left q ly)

  near_high : (e : ℕ) → q + p ≡ d → d * f ≡ p * a + q * b + c → c < d → a * w ≤ x * d + e * w → b * w ≤ y * d + e * w
      → f * (d * w) ≤ (p * x + q * y) * d + suc e * (d * w)
  near_high e whole_is t lc hx hy =
      let g : p * (x * d + e * w) ≡ p * (x * d) + p * (e * w) = mul-add p (x * d) (e * w) in
      let h : q * (y * d + e * w) ≡ q * (y * d) + q * (e * w) = mul-add q (y * d) (e * w) in
      let m : suc e * (d * w) ≡ d * (e * w) + d * w = suc_times e d w in
      let lt : c * w ≤ d * w = mul-le-mul_right w (let le : c ≤ d = omega arith in le) in
      omega (arith, scaled, raised, ap (λ z. z * w) t, spread, g, h, both d p q (e * w) whole_is, m, lt, mul-le-mul_left p hx, mul-le-mul_left q hy)
    where
      suc_times : (e d w : ℕ) → suc e * (d * w) ≡ d * (e * w) + d * w
      suc_times e d w =
          let o : suc e ≡ e + 1 = omega arith in
          ap (λ z. z * (d * w)) o ∙ semiring naturals_laws (e ∷ d ∷ w ∷ []) (search made depth 40 fits 100000) tt

near_more : (n x y a b c f p : ℕ) → 0 < n → p ≤ whole → c < whole → whole * f ≡ p * a + (whole - p) * b + c
    → Near n x a → Near n y b → Near (suc n) (p * x + (whole - p) * y) f
near_more n x y a b c f p some le lc t hx hy =
    let e : suc n - 1 ≡ suc (n - 1) = omega arith in
    rw (pow-succ' whole n, e) (
      near_low whole p (whole - p) x y a b c (whole ^ n) f t hx.0 hy.0,
      near_high whole p (whole - p) x y a b c (whole ^ n) f (n - 1) (omega arith) t lc hx.1 hy.1,
    )

near_all_patterns : (n x f : ℕ) → x ≡ whole ^ n → f ≡ whole → Near n x f
near_all_patterns n x f ex ef =
    rw (ex, ef) (omega (arith, mul_comm (whole ^ n) whole), omega (arith, mul_comm (whole ^ n) whole))

-- The exact sums, as lives are added at the end.
abbrev life : ℕ → Life ℕ
life = natural_life whole

exact_more : (ls : List ℕ) (p k : ℕ) → exact (ls ++ p ∷ []) (suc k) ≡ p * exact ls k + (whole - p) * exact ls (suc k)
exact_more ls p k =
    ap (at_least naturals (suc k)) (map-append life ls (p ∷ []))
    ∙ at_least_suc_at naturals_laws (life p) (map life ls) [] k
    ∙ ap (λ zs. p * at_least naturals k zs + (whole - p) * at_least naturals (suc k) zs) (append-nil (map life ls))

-- How long rows are, and that they add up to D.
length_pass : (p b c : ℕ) (xs : List ℕ) → length (pass p b c xs) ≡ length xs
length_pass p b c [] = refl
length_pass p b c (x ∷ xs) = ap suc (length_pass p x ((p * b + (whole - p) * x + c) % whole) xs)

length_with : (row : List ℕ) (p : ℕ) → length (with_life row p) ≡ length row + 1
length_with row p = length_pass p 0 0 (row ++ 0 ∷ []) ∙ length-append row (0 ∷ [])

pub get_or_le_sum : (xs : List ℕ) (k : ℕ) → get_or xs k 0 ≤ sum xs
get_or_le_sum [] k = omega arith
get_or_le_sum (x ∷ xs) zero = omega arith
get_or_le_sum (x ∷ xs) (suc k) = omega (arith, get_or_le_sum xs k)

rows_kept : (rest row : List ℕ) → AllByRecursion (λ p. p ≤ whole) rest → sum row ≡ whole
    → (sum (fold with_life row rest) ≡ whole) × (length (fold with_life row rest) ≡ length row + length rest)
rows_kept [] row h e = (e, omega arith)
rows_kept (p ∷ rest) row h e =
    let r = rows_kept rest (with_life row p) h.1 (with_sum p h.0 row e).0 in
    (r.0, omega (arith, r.1, length_with row p))

pub row_sum : (lives : List ℕ) → AllByRecursion (λ p. p ≤ whole) lives → sum (money_row lives) ≡ whole
row_sum lives h = (rows_kept lives (whole ∷ []) h refl).0

pub row_long : (lives : List ℕ) → AllByRecursion (λ p. p ≤ whole) lives → length (money_row lives) ≡ length lives + 1
row_long lives h = omega (arith, (rows_kept lives (whole ∷ []) h refl).1)

-- All the bounds of a row.
abbrev Good : List ℕ → List ℕ → Type 0
Good ls row = (sum row ≡ whole) × ((k : ℕ) → Near (length ls) (exact ls k) (sum (drop k row)))

good_more : (ls row : List ℕ) (p : ℕ) → p ≤ whole → AllByRecursion (λ x. x ≤ whole) ls → 0 < length ls → Good ls row → Good (ls ++ p ∷ []) (with_life row p)
good_more ls row p le all some g = ((with_sum p le row g.0).0, near)
  where
    n : ℕ
    n = length ls

    long : length (ls ++ p ∷ []) ≡ suc n
    long = length-append ls (p ∷ []) ∙ omega arith

    near : (k : ℕ) → Near (length (ls ++ p ∷ [])) (exact (ls ++ p ∷ []) k) (sum (drop k (with_life row p)))
    near zero =
        near_all_patterns (length (ls ++ p ∷ [])) _ _ (all_patterns whole (ls ++ p ∷ []) (each_append (λ x. x ≤ whole) ls (p ∷ []) all (le, tt)))
        (with_sum p le row g.0).0
    near (suc k) =
        let t = with_tail p le row g.0 k in
        rw (long, exact_more ls p k)
        (near_more n (exact ls k) (exact ls (suc k)) (sum (drop k row)) (sum (drop (suc k) row)) t.0
        (sum (drop (suc k) (with_life row p))) p some le t.1 t.2 (g.1 k) (g.1 (suc k)))

good_all : (rest ls row : List ℕ) → AllByRecursion (λ p. p ≤ whole) rest → AllByRecursion (λ p. p ≤ whole) ls → 0 < length ls → Good ls row
    → Good (ls ++ rest) (fold with_life row rest)
good_all [] ls row h all some g = rw (append-nil ls) g
good_all (p ∷ rest) ls row h all some g =
    subst (λ zs. Good zs (fold with_life (with_life row p) rest)) (append_assoc ls (p ∷ []) rest)
    (good_all rest (ls ++ p ∷ []) (with_life row p) h.1 (each_append (λ x. x ≤ whole) ls (p ∷ []) all (h.0, tt))
    (omega (arith, length-append ls (p ∷ []))) (good_more ls row p h.0 all some g))

-- The first life loses nothing.
near_same : (x f : ℕ) → f ≡ x → Near 1 x f
near_same x f e = omega arith

drop_nil : (k : ℕ) → sum (drop k []) ≡ 0
drop_nil k = ap sum (drop_all k [] (omega arith))

good_first : (p : ℕ) → p ≤ whole → Good (p ∷ []) (with_life (whole ∷ []) p)
good_first p le = ((with_sum p le (whole ∷ []) refl).0, near)
  where
    near : (k : ℕ) → Near 1 (exact (p ∷ []) k) (sum (drop k (with_life (whole ∷ []) p)))
    near zero = near_all_patterns 1 _ _ (all_patterns whole (p ∷ []) (le, tt)) (with_sum p le (whole ∷ []) refl).0
    near (suc zero) =
        let t = with_tail p le (whole ∷ []) refl 0 in
        near_same _ _
        (let f : sum (drop 1 (with_life (whole ∷ []) p)) ≡ p = omega (arith, t.1, t.2) in
        f ∙ sym (at_least_suc_cons naturals_laws 0 (life p) [] ∙ omega arith))
    near (suc (suc k)) =
        let t = with_tail p le (whole ∷ []) refl (suc k) in
        near_same _ _
        (let f : sum (drop (suc (suc k)) (with_life (whole ∷ []) p)) ≡ 0 = omega (arith, t.1, t.2, drop_nil k, drop_nil (suc k)) in
        f
        ∙ sym (at_least_suc_cons naturals_laws (suc k) (life p) []
        ∙ ap₂ (λ a b. p * a + (whole - p) * b) (at_least_suc_nil naturals_laws k) (at_least_suc_nil naturals_laws (suc k))
        ∙ omega arith))

near_none : (k : ℕ) → Near 0 (exact [] k) (sum (drop k (whole ∷ [])))
near_none zero = (omega arith, omega arith)
near_none (suc k) = rw (at_least_suc_nil naturals_laws k, drop_nil k) (omega arith, omega arith)

pub near_all : (lives : List ℕ) → AllByRecursion (λ p. p ≤ whole) lives → (k : ℕ) → Near (length lives) (exact lives k) (factor_of lives k)
near_all [] h k = near_none k
near_all (p ∷ lives) h k =
    (good_all lives (p ∷ []) (with_life (whole ∷ []) p) h.1 (h.0, tt) (omega arith) (good_first p h.0)).1 k

pub factor_past : (lives : List ℕ) → AllByRecursion (λ p. p ≤ whole) lives → (k : ℕ) → length lives < k → factor_of lives k ≡ 0
factor_past lives h k l = ap sum (drop_all k (money_row lives) (omega (arith, row_long lives h)))
