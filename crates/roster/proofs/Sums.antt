-- The passes that turn the kept sums of some lives into those of others.
use Rattle.std.proofs.Common.{◌≡◌, ℕ, zero, suc, ◌+◌, ◌<◌, ◌≤◌, List, [], ◌∷◌, ◌++◌, map, take, drop, sym, refl, ap, ◌∙◌, ap₂, add-one, arith}
use Rattle.std.specs.List.{range_with_len, scan}
use Rattle.algebra.specs.Ring.{Ops, Laws}
use Rattle.algebra.proofs.Rows.{below}
use Rattle.algebra.proofs.Semiring.{plus_undo}
use Rattle.algebra.proofs.Solver.{ring, made}
use Rattle.roster.specs.Passes.{cell_of, Ends, with_sum, rest, multiplied, divided, exchanged}
use Rattle.roster.specs.declared.cells.Cell.{Cell}

pub same_cell : {P : Type 0} (x y : Cell P) → x.figure ≡ y.figure → x.sum ≡ y.sum → x.number ≡ y.number → x ≡ y
same_cell x y a b c = λ j. record { figure = a j; sum = b j; number = c j }

module _ {S X : Type 0} (next : S → X → S) (out : S → X → X) where
  -- A pass under way: from place i on all is as it was, and what is done, followed by the pass over that, is the whole pass.
  abbrev pub Passing : S → List X → ℕ → S → List X → Type 0
  Passing start before i s cells = (drop i cells ≡ drop i before) × (take i cells ++ scan next out s (drop i before) ≡ scan next out start before)

  -- A pass over the first m of n cells, by place: where st is kept in hand there, f becomes g, and past them the two are alike.
  passed : (f g : ℕ → X) (st : ℕ → S) → ((k : ℕ) → next (st k) (f k) ≡ st (k + 1)) → ((k : ℕ) → out (st k) (f k) ≡ g k)
      → (i m n : ℕ) → m ≤ n → ((k : ℕ) → i + m ≤ k → f k ≡ g k)
      → scan next out (st i) (take m (map f (range_with_len i n))) ++ drop m (map f (range_with_len i n)) ≡ map g (range_with_len i n)
  passed f g st kept written i zero zero h past = refl
  passed f g st kept written i zero (suc n) h past = ap₂ ◌∷◌ (past i (omega arith)) (passed f g st kept written (i + 1) zero n (omega arith) (λ k b. past k (omega arith)))
  passed f g st kept written i (suc m) zero h past = absurd (omega arith)
  passed f g st kept written i (suc m) (suc n) h past =
      ap₂ ◌∷◌ (written i)
      (ap (λ s. scan next out s (take m (map f (range_with_len (i + 1) n))) ++ drop m (map f (range_with_len (i + 1) n))) (kept i)
      ∙ passed f g st kept written (i + 1) m n (omega arith) (λ k b. past k (omega arith)))

-- The sums with one life more, of figure p: those without it, times (1 + p·x).
pub record Multiplied {F : Type 0} (o : Ops F) (p : F) (without with : ℕ → F) : Type 0 where
  pub first : with 0 ≡ without 0
  pub after : (k : ℕ) → with (suc k) ≡ o.plus (without (suc k)) (o.times p (without k))

module _ {F : Type 0} {o : Ops F} (L : Laws o) (p : F) (low high : ℕ → F) (m : Multiplied o p low high) where
  -- One sum with the life, from two without it, and the other way round.
  with_life : (k : ℕ) → o.plus (low k) (o.times p (below o.zero low k)) ≡ high k
  with_life zero = ring L (low 0 ∷ p ∷ []) (search made depth 40 fits 100000) tt ∙ sym m.first
  with_life (suc k) = sym (m.after k)

  without_life : (k : ℕ) → o.plus (high k) (o.minus (o.times p (below o.zero low k))) ≡ low k
  without_life k = ap (λ x. o.plus x (o.minus (o.times p (below o.zero low k)))) (sym (with_life k)) ∙ plus_undo L (low k) (o.times p (below o.zero low k))

  multiplied_ends : (n : ℕ) → Ends n o.zero low → Ends (n + 1) o.zero high
  multiplied_ends n ends zero h = absurd (omega arith)
  multiplied_ends n ends (suc k) h = m.after k ∙ ap₂ (λ x y. o.plus x (o.times p y)) (ends (suc k) (omega arith)) (ends k (omega arith)) ∙ ring L (p ∷ []) (search made depth 40 fits 100000) tt

module _ {F P : Type 0} {o : Ops F} (L : Laws o) (plain : F → P) (figure : P → F) (back : (x : F) → figure (plain x) ≡ x) (figures : ℕ → P) (numbers : ℕ → ℕ) where
  abbrev at : (ℕ → F) → ℕ → Cell P
  at sums = cell_of figures (λ k. plain (sums k)) numbers

  next_below : (sums : ℕ → F) (k : ℕ) → sums k ≡ below o.zero sums (k + 1)
  next_below sums k = ap (below o.zero sums) (sym (add-one k))

  summed : (sums : ℕ → F) (k : ℕ) (x y : F) → x ≡ y → with_sum o plain figure (at sums k) x ≡ record { figure = figures k; sum = plain y; number = numbers k }
  summed sums k x y e = ap (λ s. record { figure = figures k; sum = plain s; number = numbers k }) e

  same_past : (n : ℕ) (low high : ℕ → F) → Ends n o.zero low → Ends n o.zero high → (k : ℕ) → n < k → at low k ≡ at high k
  same_past n low high el eh k h = ap (λ x. record { figure = figures k; sum = plain x; number = numbers k }) (el k h ∙ sym (eh k h))

  rest_is : (p : F) (low high : ℕ → F) → Multiplied o p low high → (k : ℕ) → rest o plain figure p (below o.zero low k) (at high k) ≡ low k
  rest_is p low high m k = ap (λ x. o.plus x (o.minus (o.times p (below o.zero low k)))) (back (high k)) ∙ without_life L p low high m k

  pub multiplied_front : (p : F) (size n : ℕ) (old new : ℕ → F) → n + 1 < size → Ends n o.zero old → Multiplied o p old new
      → multiplied o plain figure p (take (n + 2) (map (at old) (range_with_len 0 size))) ++ drop (n + 2) (map (at old) (range_with_len 0 size)) ≡ map (at new) (range_with_len 0 size)
  multiplied_front p size n old new room ends m =
      passed (λ low cell. figure cell.sum) (λ low cell. with_sum o plain figure cell (o.plus (figure cell.sum) (o.times p low))) (at old) (at new) (below o.zero old)
      (λ k. back (old k) ∙ next_below old k)
      (λ k. summed old k (o.plus (figure (plain (old k))) (o.times p (below o.zero old k))) (new k) (ap (λ x. o.plus x (o.times p (below o.zero old k))) (back (old k)) ∙ with_life L p old new m k))
      0 (n + 2) size (omega arith) (λ k h. same_past (n + 1) old new (λ j b. ends j (omega arith)) (multiplied_ends L p old new m n ends) k (omega arith))

  pub divided_front : (p : F) (size n : ℕ) (old new : ℕ → F) → n < size → Ends n o.zero old → Ends n o.zero new → Multiplied o p new old
      → divided o plain figure p (take (n + 1) (map (at old) (range_with_len 0 size))) ++ drop (n + 1) (map (at old) (range_with_len 0 size)) ≡ map (at new) (range_with_len 0 size)
  divided_front p size n old new room ends ends' m =
      passed (rest o plain figure p) (λ low cell. with_sum o plain figure cell (rest o plain figure p low cell)) (at old) (at new) (below o.zero new)
      (λ k. rest_is p new old m k ∙ next_below new k)
      (λ k. summed old k (rest o plain figure p (below o.zero new k) (at old k)) (new k) (rest_is p new old m k))
      0 (n + 1) size (omega arith) (λ k h. same_past n old new ends ends' k (omega arith))

  pub exchanged_front : (p q : F) (size n : ℕ) (old mid new : ℕ → F) → n < size → Ends n o.zero old → Ends n o.zero new → Multiplied o p mid old → Multiplied o q mid new
      → exchanged o plain figure p q (take (n + 1) (map (at old) (range_with_len 0 size))) ++ drop (n + 1) (map (at old) (range_with_len 0 size)) ≡ map (at new) (range_with_len 0 size)
  exchanged_front p q size n old mid new room ends ends' m m' =
      passed (rest o plain figure p) (λ low cell. with_sum o plain figure cell (o.plus (rest o plain figure p low cell) (o.times q low))) (at old) (at new) (below o.zero mid)
      (λ k. rest_is p mid old m k ∙ next_below mid k)
      (λ k. summed old k (o.plus (rest o plain figure p (below o.zero mid k) (at old k)) (o.times q (below o.zero mid k))) (new k)
      (ap (λ x. o.plus x (o.times q (below o.zero mid k))) (rest_is p mid old m k) ∙ with_life L q mid new m' k))
      0 (n + 1) size (omega arith) (λ k h. same_past n old new ends ends' k (omega arith))
