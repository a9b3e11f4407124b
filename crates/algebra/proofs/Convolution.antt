-- The row of two households together is the convolution of their rows, over any commutative semiring.
use Rattle.std.proofs.Common.{◌≡◌, ℕ, zero, suc, ◌+◌, ◌-◌, min, ◌<◌, ◌≤◌, List, [], ◌∷◌, ◌++◌, map, length, sym, refl, ap, ◌∙◌, ap₂, add-one, inl, inr, arith}
use mathlib.Core.Path.{fun_ext}
use Rattle.std.specs.List.{range_with_len}
use Rattle.std.proofs.lemmas.Bool.{cases_lt}
use Rattle.std.proofs.lemmas.List.{get_or_past}
use Rattle.std.proofs.lemmas.List.FromFn.{map-range_with_len_more}
use Rattle.algebra.specs.Ring.{Semi}
use Rattle.algebra.specs.Patterns.{Life, total, exactly}
use Rattle.algebra.specs.Rows.{row, entry_or_zero, convolution}
use Rattle.algebra.proofs.Rows.{length_counting, get_or_counting}
use Rattle.algebra.proofs.Semiring.{SemiLaws}
use Rattle.algebra.proofs.Solver.{semiring, made}
use Rattle.algebra.proofs.Patterns.{exactly_zero_nil, exactly_suc_nil, exactly_zero_cons, exactly_suc_cons, exactly_beyond}

-- A list counted from one higher, by the values there.
map_counting_from : {X : Type 0} (f g : ℕ → X) → ((i : ℕ) → f (suc i) ≡ g i) → (a n : ℕ) → map f (range_with_len (a + 1) n) ≡ map g (range_with_len a n)
map_counting_from f g e a zero = refl
map_counting_from f g e a (suc n) = ap₂ ◌∷◌ (ap f (add-one a) ∙ e a) (map_counting_from f g e (a + 1) n)

-- A term of the convolution at k, from place i.
abbrev pub product_at : {F : Type 0} → Semi F → List F → List F → ℕ → ℕ → F
product_at s xs ys k i = s.times (entry_or_zero s xs i) (entry_or_zero s ys (k - i))

-- The convolution at k without the terms from place i on.
abbrev pub partial : {F : Type 0} → Semi F → List F → List F → ℕ → ℕ → F
partial s xs ys i k = total s (map (product_at s xs ys k) (range_with_len 0 (min i (k + 1))))

module _ {F : Type 0} {s : Semi F} (L : SemiLaws s) where
  -- The sum over i from 0 to k of f(i) · g(k − i).
  abbrev convolved : (ℕ → F) → (ℕ → F) → ℕ → F
  convolved f g k = total s (map (λ i. s.times (f i) (g (k - i))) (range_with_len 0 (k + 1)))

  convolved_zero : (f g : ℕ → F) → convolved f g 0 ≡ s.times (f 0) (g 0)
  convolved_zero f g = L.plus_zero (s.times (f 0) (g 0))

  convolved_suc : (f g : ℕ → F) (k : ℕ) → convolved f g (suc k) ≡ s.plus (s.times (f 0) (g (suc k))) (convolved (λ i. f (suc i)) g k)
  convolved_suc f g k =
      let long : suc k + 1 ≡ suc (k + 1) = omega arith in
      ap (λ n. total s (map (λ i. s.times (f i) (g (suc k - i))) (range_with_len 0 n))) long
      ∙ ap₂ (λ j xs. s.plus (s.times (f 0) (g j)) (total s xs)) (omega arith) (map_counting_from (λ i. s.times (f i) (g (suc k - i))) (λ i. s.times (f (suc i)) (g (k - i))) (λ i. ap (λ j. s.times (f (suc i)) (g j)) (omega arith)) 0 (k + 1))

  -- Of a sum of multiples it is the sum of the multiples.
  convolved_linear : (a b : F) (f h g : ℕ → F) (k : ℕ) → convolved (λ i. s.plus (s.times a (f i)) (s.times b (h i))) g k ≡ s.plus (s.times a (convolved f g k)) (s.times b (convolved h g k))
  convolved_linear a b f h g zero =
      convolved_zero (λ i. s.plus (s.times a (f i)) (s.times b (h i))) g
      ∙ semiring L (a ∷ b ∷ f 0 ∷ h 0 ∷ g 0 ∷ []) (search made depth 40 fits 100000) tt
      ∙ ap₂ (λ x y. s.plus (s.times a x) (s.times b y)) (sym (convolved_zero f g)) (sym (convolved_zero h g))
  convolved_linear a b f h g (suc k) =
      let f' : ℕ → F = λ i. f (suc i) in
      let h' : ℕ → F = λ i. h (suc i) in
      convolved_suc (λ i. s.plus (s.times a (f i)) (s.times b (h i))) g k
      ∙ ap (s.plus (s.times (s.plus (s.times a (f 0)) (s.times b (h 0))) (g (suc k)))) (convolved_linear a b f' h' g k)
      ∙ semiring L (a ∷ b ∷ f 0 ∷ h 0 ∷ g (suc k) ∷ convolved f' g k ∷ convolved h' g k ∷ []) (search made depth 40 fits 100000) tt
      ∙ ap₂ (λ x y. s.plus (s.times a x) (s.times b y)) (sym (convolved_suc f g k)) (sym (convolved_suc h g k))

  -- With zeros for f it is zero.
  convolved_none : (f g : ℕ → F) → ((i : ℕ) → f i ≡ s.zero) → (k : ℕ) → convolved f g k ≡ s.zero
  convolved_none f g e zero = convolved_zero f g ∙ ap (λ x. s.times x (g 0)) (e 0) ∙ semiring L (g 0 ∷ []) (search made depth 40 fits 100000) tt
  convolved_none f g e (suc k) =
      convolved_suc f g k
      ∙ ap₂ (λ x y. s.plus (s.times x (g (suc k))) y) (e 0) (convolved_none (λ i. f (suc i)) g (λ i. e (suc i)) k)
      ∙ semiring L (g (suc k) ∷ []) (search made depth 40 fits 100000) tt

  -- The lives of two households, one list behind the other.
  exactly_append : (ls ms : List (Life F)) (k : ℕ) → exactly s k (ls ++ ms) ≡ convolved (λ i. exactly s i ls) (λ i. exactly s i ms) k
  exactly_append [] ms zero = sym (
      convolved_zero (λ i. exactly s i []) (λ i. exactly s i ms)
      ∙ ap (λ x. s.times x (exactly s 0 ms)) (exactly_zero_nil L)
      ∙ semiring L (exactly s 0 ms ∷ []) (search made depth 40 fits 100000) tt)
  exactly_append [] ms (suc k) = sym (
      convolved_suc (λ i. exactly s i []) (λ i. exactly s i ms) k
      ∙ ap₂ (λ x y. s.plus (s.times x (exactly s (suc k) ms)) y) (exactly_zero_nil L) (convolved_none (λ i. exactly s (suc i) []) (λ i. exactly s i ms) (exactly_suc_nil L) k)
      ∙ semiring L (exactly s (suc k) ms ∷ []) (search made depth 40 fits 100000) tt)
  exactly_append (l ∷ ls) ms zero =
      let f : ℕ → F = λ i. exactly s i ls in
      let g : ℕ → F = λ i. exactly s i ms in
      exactly_zero_cons L l (ls ++ ms)
      ∙ ap (s.times l.dead) (exactly_append ls ms 0 ∙ convolved_zero f g)
      ∙ sym (L.times_assoc l.dead (f 0) (g 0))
      ∙ ap (λ x. s.times x (g 0)) (sym (exactly_zero_cons L l ls))
      ∙ sym (convolved_zero (λ i. exactly s i (l ∷ ls)) g)
  exactly_append (l ∷ ls) ms (suc k) =
      let f : ℕ → F = λ i. exactly s i ls in
      let f' : ℕ → F = λ i. exactly s (suc i) ls in
      let g : ℕ → F = λ i. exactly s i ms in
      exactly_suc_cons L k l (ls ++ ms)
      ∙ ap₂ (λ x y. s.plus (s.times l.alive x) (s.times l.dead y)) (exactly_append ls ms k) (exactly_append ls ms (suc k) ∙ convolved_suc f g k)
      ∙ semiring L (l.alive ∷ l.dead ∷ f 0 ∷ g (suc k) ∷ convolved f g k ∷ convolved f' g k ∷ []) (search made depth 40 fits 100000) tt
      ∙ ap₂ s.plus (ap (λ x. s.times x (g (suc k))) (sym (exactly_zero_cons L l ls))) (sym (convolved_linear l.alive l.dead f f' g k))
      ∙ ap (λ h. s.plus (s.times (exactly s 0 (l ∷ ls)) (g (suc k))) (convolved h g k)) (sym (fun_ext (λ i. exactly_suc_cons L i l ls)))
      ∙ sym (convolved_suc (λ i. exactly s i (l ∷ ls)) g k)

  -- A household's own row, past its end too.
  entry_row : (ls : List (Life F)) (i : ℕ) → entry_or_zero s (row s (length ls + 1) ls) i ≡ exactly s i ls
  entry_row ls i = elim (cases_lt i (length ls + 1)) [
    | inl h ↦ get_or_counting (λ k. exactly s k ls) (length ls + 1) (row s (length ls + 1) ls) refl i s.zero h
    | inr h ↦ get_or_past (row s (length ls + 1) ls) i s.zero (omega (arith, h, length_counting (λ k. exactly s k ls) (length ls + 1) (row s (length ls + 1) ls) refl)) ∙ sym (exactly_beyond L i ls (omega (arith, h)))
  ]

  -- From the rows of two households, the row of both, to any length.
  pub row_append : (ls ms : List (Life F)) (xs ys : List F) → xs ≡ row s (length ls + 1) ls → ys ≡ row s (length ms + 1) ms → (size : ℕ) → map (convolution s xs ys) (range_with_len 0 size) ≡ row s size (ls ++ ms)
  row_append ls ms xs ys first second size =
      ap (λ f. map f (range_with_len 0 size)) (fun_ext (λ k.
      ap₂ (λ f g. convolved f g k) (fun_ext (λ i. ap (λ zs. entry_or_zero s zs i) first ∙ entry_row ls i)) (fun_ext (λ i. ap (λ zs. entry_or_zero s zs i) second ∙ entry_row ms i))
      ∙ sym (exactly_append ls ms k)))

  total_push : (xs : List F) (y : F) → total s (xs ++ (y ∷ [])) ≡ s.plus (total s xs) y
  total_push [] y = L.plus_comm y s.zero
  total_push (x ∷ xs) y = ap (s.plus x) (total_push xs y) ∙ sym (L.plus_assoc x (total s xs) y)

  -- A sum of values counted from 0, with one value more, and with only zeros more.
  total_more : (f : ℕ → F) (n : ℕ) → total s (map f (range_with_len 0 (n + 1))) ≡ s.plus (total s (map f (range_with_len 0 n))) (f n)
  total_more f n = ap (total s) (map-range_with_len_more f 0 n n (omega arith)) ∙ total_push (map f (range_with_len 0 n)) (f n)

  total_zeros : (f : ℕ → F) (n m end : ℕ) → n + m ≡ end → ((i : ℕ) → n ≤ i → i < end → f i ≡ s.zero) → total s (map f (range_with_len 0 end)) ≡ total s (map f (range_with_len 0 n))
  total_zeros f n zero end long e = ap (λ k. total s (map f (range_with_len 0 k))) (omega (arith, long))
  total_zeros f n (suc m) end long e =
      ap (λ k. total s (map f (range_with_len 0 k))) (omega (arith, long))
      ∙ total_more f (n + m)
      ∙ ap₂ s.plus (total_zeros f n m (n + m) refl (λ i low high. e i low (omega (arith, long)))) (e (n + m) (omega arith) (omega (arith, long)))
      ∙ L.plus_zero (total s (map f (range_with_len 0 n)))

  module _ (xs ys : List F) (k : ℕ) where
    -- The first n terms.
    abbrev terms : ℕ → F
    terms n = total s (map (product_at s xs ys k) (range_with_len 0 n))

    -- A term more, up to the one at k.
    pub partial_more : (i : ℕ) → i ≤ k → partial s xs ys (i + 1) k ≡ s.plus (partial s xs ys i k) (s.times (entry_or_zero s xs i) (entry_or_zero s ys (k - i)))
    partial_more i h = ap terms (omega (arith, h)) ∙ total_more (product_at s xs ys k) i ∙ ap (λ n. s.plus (terms n) (product_at s xs ys k i)) (omega (arith, h))

    -- Past the term at k, and where the second row has no entry, nothing more.
    pub partial_past : (i : ℕ) → k < i → partial s xs ys (i + 1) k ≡ partial s xs ys i k
    partial_past i h = ap terms (omega (arith, h))

    pub partial_beyond : (i : ℕ) → i + length ys ≤ k → partial s xs ys (i + 1) k ≡ partial s xs ys i k
    partial_beyond i h =
        partial_more i (omega (arith, h))
        ∙ ap (λ x. s.plus (partial s xs ys i k) (s.times (entry_or_zero s xs i) x)) (get_or_past ys (k - i) s.zero (omega (arith, h)))
        ∙ semiring L (partial s xs ys i k ∷ entry_or_zero s xs i ∷ []) (search made depth 40 fits 100000) tt

    -- All terms: past the first row's end they are zero.
    pub partial_all : partial s xs ys (length xs) k ≡ convolution s xs ys k
    partial_all = sym (total_zeros (product_at s xs ys k) (min (length xs) (k + 1)) (k + 1 - length xs) (k + 1) (omega arith) (λ j low high.
        ap (λ x. s.times x (entry_or_zero s ys (k - j))) (get_or_past xs j s.zero (omega (arith, low, high)))
        ∙ semiring L (entry_or_zero s ys (k - j) ∷ []) (search made depth 40 fits 100000) tt))
