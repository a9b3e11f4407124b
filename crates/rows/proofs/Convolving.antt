-- The convolution of two rows, worked by one entry of the first after the other: its multiple of the second row is added.
use Rattle.std.proofs.Common.{◌≡◌, ℕ, ◌+◌, ◌-◌, min, ◌<◌, ◌≤◌, List, ◌++◌, map, length, get_or, take, drop, replicate, sym, ap, ◌∙◌, ap₂, inl, inr, arith}
use mathlib.Core.Path.{fun_ext}
use Rattle.std.specs.List.{range_with_len}
use Rattle.std.proofs.lemmas.Bool.{cases_lt}
use Rattle.std.proofs.lemmas.Grind.{elements}
use Rattle.std.proofs.lemmas.List.{length-map, length-take, length-drop, get_or-map}
use Rattle.std.proofs.lemmas.List.FromFn.{length-map-range_with_len, get_or-map-range_with_len, fill_by_all}
use Rattle.std.proofs.lemmas.Simd.{map-map}
use Rattle.algebra.specs.Ring.{Semi}
use Rattle.algebra.specs.Patterns.{total}
use Rattle.algebra.specs.Rows.{entry_or_zero}
use Rattle.algebra.proofs.Semiring.{SemiLaws}
use Rattle.algebra.proofs.Convolution.{product_at, partial, partial_more, partial_past, partial_beyond, partial_all}
use Rattle.algebra.proofs.Rows.{map_counting_constant}
use Rattle.rows.specs.Answer.{together}

-- An entry in plain form, read as the figure that it stands for.
pub read : {F P : Type 0} (figure : P → F) (row : List P) (i : ℕ) (x : P) (v e : F) → x ≡ get_or row i x → v ≡ figure x → i < length row → v ≡ get_or (map figure row) i e
read figure row i x v e at is h = is ∙ ap figure at ∙ sym (get_or-map figure row i x e h)

-- A list with m of its entries, from place i on, exchanged for others.
abbrev pub spliced : {P : Type 0} → List P → List P → ℕ → ℕ → List P
spliced row sub i m = take i row ++ (sub ++ drop m (drop i row))

module _ {P : Type 0} (row sub : List P) (i m : ℕ) (long : length sub ≡ m) (within : i + m ≤ length row) where
  spliced_length : length (spliced row sub i m) ≡ length row
  spliced_length = grind (arith, elements)

  spliced_before : (k : ℕ) (e : P) → k < i → get_or (spliced row sub i m) k e ≡ get_or row k e
  spliced_before k e h = grind (arith, elements)

  spliced_within : (k : ℕ) (e : P) → i ≤ k → k < i + m → get_or (spliced row sub i m) k e ≡ get_or sub (k - i) e
  spliced_within k e low high = grind (arith, elements)

  spliced_after : (k : ℕ) (e : P) → i + m ≤ k → get_or (spliced row sub i m) k e ≡ get_or row k e
  spliced_after k e h = grind (arith, elements)

-- A row that has the terms of the entries before place i of the first.
abbrev pub UpTo : {F P : Type 0} → Semi F → (P → F) → (F → P) → List P → List P → ℕ → ℕ → List P → Type 0
UpTo s figure plain first second size i row = row ≡ map plain (map (partial s (map figure first) (map figure second) i) (range_with_len 0 size))

module _ {F P : Type 0} {s : Semi F} (L : SemiLaws s) (figure : P → F) (plain : F → P) (first second : List P) (size : ℕ) where
  abbrev xs : List F
  xs = map figure first

  abbrev ys : List F
  ys = map figure second

  module _ (back : (x : F) → figure (plain x) ≡ x) (i : ℕ) (row : List P) (done : UpTo s figure plain first second size i row) where
    at : (k : ℕ) (e : P) → k < size → get_or row k e ≡ plain (partial s xs ys i k)
    at k e h =
        ap (λ zs. get_or zs k e) done
        ∙ get_or-map plain (map (partial s xs ys i) (range_with_len 0 size)) k s.zero e (omega (arith, h, length-map-range_with_len (partial s xs ys i) 0 size))
        ∙ ap plain (get_or-map-range_with_len (partial s xs ys i) 0 size k k s.zero h (omega arith))

    length_up_to : length row ≡ size
    length_up_to = ap length done ∙ length-map (map (partial s xs ys i) (range_with_len 0 size)) plain ∙ length-map-range_with_len (partial s xs ys i) 0 size

    -- After one entry more: `sub` is the part of the row from its place on, with what was added.
    pub up_to_more : (x : F) (sub : List P) (m : ℕ) → m ≡ length second → i + m ≤ size → x ≡ entry_or_zero s xs i
        → length sub ≡ length (take m (drop i row))
        → ((j : ℕ) (e : P) → j < length (take m (drop i row)) → get_or sub j e ≡ plain (s.plus (figure (get_or (take m (drop i row)) j e)) (s.times x (figure (get_or second j e)))))
        → UpTo s figure plain first second size (i + 1) (spliced row sub i m)
    up_to_more x sub m same within is long each =
        fill_by_all (λ k. plain (partial s xs ys (i + 1) k)) (spliced row sub i m) size e (spliced_length row sub i m as_long fits ∙ length_up_to) here
        ∙ sym (map-map plain (partial s xs ys (i + 1)) (range_with_len 0 size))
      where
        fits : i + m ≤ length row
        fits = omega (arith, within, length_up_to)

        part : length (take m (drop i row)) ≡ m
        part = omega (arith, length-take m (drop i row), length-drop i row, fits)

        as_long : length sub ≡ m
        as_long = long ∙ part

        e : P
        e = plain s.zero

        added : (k : ℕ) → k < size → i ≤ k → k < i + m → get_or (spliced row sub i m) k e ≡ plain (partial s xs ys (i + 1) k)
        added k h from low =
            let there : get_or (take m (drop i row)) (k - i) e ≡ get_or row k e = grind (arith, elements) in
            let so_far : figure (get_or (take m (drop i row)) (k - i) e) ≡ partial s xs ys i k = ap figure (there ∙ at k e h) ∙ back (partial s xs ys i k) in
            let other : figure (get_or second (k - i) e) ≡ entry_or_zero s ys (k - i) = sym (get_or-map figure second (k - i) e s.zero (omega (arith, from, low, same))) in
            spliced_within row sub i m as_long fits k e from low
            ∙ each (k - i) e (omega (arith, from, low, part))
            ∙ ap plain (ap₂ s.plus so_far (ap₂ s.times is other) ∙ sym (partial_more L xs ys k i from))

        here : (k : ℕ) → k < size → get_or (spliced row sub i m) k e ≡ plain (partial s xs ys (i + 1) k)
        here k h = elim (cases_lt k i) [
          | inl low ↦ spliced_before row sub i m as_long fits k e low ∙ at k e h ∙ ap plain (sym (partial_past L xs ys k i low))
          | inr from ↦ elim (cases_lt k (i + m)) [
            | inl low ↦ added k h from low
            | inr high ↦ spliced_after row sub i m as_long fits k e high ∙ at k e h ∙ ap plain (sym (partial_beyond L xs ys k i (omega (arith, high, same, length-map second figure))))
          ]
        ]

  -- Before the first entry: zeros.
  pub up_to_none : (row : List P) → row ≡ replicate size (plain s.zero) → UpTo s figure plain first second size 0 row
  up_to_none row zeros =
      zeros
      ∙ sym (map-map plain (partial s xs ys 0) (range_with_len 0 size)
      ∙ map_counting_constant (λ k. plain (partial s xs ys 0 k)) (plain s.zero) 0 size (λ k h. let none : min 0 (k + 1) ≡ 0 = omega arith in ap (λ n. plain (total s (map (product_at s xs ys k) (range_with_len 0 n)))) none))

  -- After the last: the row of both.
  pub up_to_all : (i : ℕ) (row : List P) → UpTo s figure plain first second size i row → i ≡ length first → row ≡ together s figure plain first second size
  up_to_all i row done end = done ∙ ap (λ f. map plain (map f (range_with_len 0 size))) (fun_ext (λ k. ap (λ n. partial s xs ys n k) (end ∙ sym (length-map first figure)) ∙ partial_all L xs ys k))
