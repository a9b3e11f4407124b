-- Tables whose front is a row in plain form.
use Rattle.std.proofs.Common.{◌≡◌, ℕ, ◌+◌, ◌<◌, List, [], ◌∷◌, ◌++◌, map, length, get_or, take, drop, set, sym, ap, ◌∙◌, ap₂, append_assoc, zero-add, arith}
use Rattle.std.specs.List.{range_with_len}
use Rattle.std.proofs.lemmas.List.FromFn.{length-map-range_with_len, map-range_with_len_more}
use Rattle.std.proofs.lemmas.List.{length-map, length-take-le, set_at, drop_at, drop_more, map_more, map_push, take_all, take_at}
use Rattle.algebra.specs.Ring.{Semi}
use Rattle.algebra.specs.Patterns.{Life, exactly}
use Rattle.algebra.specs.Rows.{row}
use Rattle.algebra.proofs.Semiring.{SemiLaws}
use Rattle.algebra.proofs.Patterns.{exactly_zero_nil, exactly_beyond}
use Rattle.algebra.proofs.Composition.{compose, compose_row}

module _ {F P : Type 0} (plain : F → P) where
  pub length_row : (f : ℕ → F) (m : ℕ) → length (map plain (map f (range_with_len 0 m))) ≡ m
  length_row f m = length-map (map f (range_with_len 0 m)) plain ∙ length-map-range_with_len f 0 m

  -- The entry that is due after a row's end makes it a row with one entry more.
  pub row_push : (f : ℕ → F) (m : ℕ) (w : P) (rest : List P) → w ≡ plain (f m) → map plain (map f (range_with_len 0 m)) ++ (w ∷ rest) ≡ map plain (map f (range_with_len 0 (m + 1))) ++ rest
  row_push f m w rest e =
      let front = map plain (map f (range_with_len 0 m)) in
      ap (λ x. front ++ (x ∷ rest)) e ∙ sym (append_assoc front (plain (f m) ∷ []) rest)
      ∙ ap (λ xs. xs ++ rest) (sym (ap (map plain) (map-range_with_len_more f 0 m m (zero-add m)) ∙ map_push plain (map f (range_with_len 0 m)) (f m)))

  grow_row : (f : ℕ → F) (m : ℕ) (old : P) (rest table : List P) (w : P) → table ≡ map plain (map f (range_with_len 0 m)) ++ (old ∷ rest) → w ≡ plain (f m)
      → set table m w ≡ map plain (map f (range_with_len 0 (m + 1))) ++ rest
  grow_row f m old rest table w is e = ap (λ t. set t m w) is ∙ set_at (map plain (map f (range_with_len 0 m))) old rest w m (length_row f m) ∙ row_push f m w rest e

-- A table that begins with the entries 0 to i of the row of lives, and goes on as another did.
abbrev pub Begun : {F P : Type 0} → Semi F → (F → P) → ℕ → List (Life F) → List P → List P → Type 0
Begun s plain i ls before table = table ≡ map plain (row s (i + 1) ls) ++ drop (i + 1) before

-- Nobody yet.
pub begun_first : {F P : Type 0} {s : Semi F} (L : SemiLaws s) (plain : F → P) (before : List P) (w : P) → 0 < length before → w ≡ plain s.one → Begun s plain 0 [] before (set before 0 w)
begun_first L plain [] w h e = absurd (omega arith)
begun_first L plain (x ∷ xs) w h e = ap (λ y. y ∷ xs) (e ∙ ap plain (sym (exactly_zero_nil L)))

-- The lives of a list, one after the other; `view` tells a life's two worths.
pub row_more : {A F : Type 0} {s : Semi F} (L : SemiLaws s) (view : A → Life F) (ps : List A) (i size : ℕ) (e : A) (l : Life F) → i < length ps → l ≡ view (get_or ps i e)
    → compose s l s.zero (row s size (map view (take i ps))) ≡ row s size (map view (take (i + 1) ps))
row_more {s = s} L view ps i size e l inside is-l =
    compose_row L (map view (take i ps)) l size ∙ ap (row s size) (ap (λ x. map view (take i ps) ++ (x ∷ [])) is-l ∙ sym (map_more view ps i e inside))

module _ {A F P : Type 0} {s : Semi F} (L : SemiLaws s) (plain : F → P) (view : A → Life F) (ps : List A) (before : List P) where
  -- The next life takes the entry past the row's end, which is written zero, and joins the row by one pass.
  pub begun_more : (pass : List P → List P) (i : ℕ) (e : A) (l : Life F) (w : P) (table after : List P) → i < length ps → i + 1 < length before
      → Begun s plain i (map view (take i ps)) before table → l ≡ view (get_or ps i e) → w ≡ plain s.zero
      → pass (map plain (row s (i + 1 + 1) (map view (take i ps)))) ≡ map plain (compose s l s.zero (row s (i + 1 + 1) (map view (take i ps))))
      → after ≡ pass (take (i + 1 + 1) (set table (i + 1) w))
      → Begun s plain (i + 1) (map view (take (i + 1) ps)) before (after ++ drop (i + 1 + 1) (set table (i + 1) w))
  begun_more pass i e l w table after inside room begun is-l is-w composed made =
      let ls = map view (take i ps) in
      let rest = drop (i + 1 + 1) before in
      let front = map plain (row s (i + 1 + 1) ls) in
      let long : length front ≡ i + 1 + 1 = length_row plain (λ k. exactly s k ls) (i + 1 + 1) in
      let len : length ls ≡ i = length-map (take i ps) view ∙ length-take-le i ps (omega arith) in
      let none : exactly s (i + 1) ls ≡ s.zero = exactly_beyond L (i + 1) ls (omega arith) in
      let split = begun ∙ ap (λ t. map plain (row s (i + 1) ls) ++ t) (drop_more before (i + 1) w room) in
      let grown : set table (i + 1) w ≡ front ++ rest = grow_row plain (λ k. exactly s k ls) (i + 1) (get_or before (i + 1) w) rest table w split (is-w ∙ ap plain (sym none)) in
      let taken : take (i + 1 + 1) (set table (i + 1) w) ≡ front = ap (take (i + 1 + 1)) grown ∙ take_at front rest (i + 1 + 1) long in
      let left : drop (i + 1 + 1) (set table (i + 1) w) ≡ rest = ap (drop (i + 1 + 1)) grown ∙ drop_at front rest (i + 1 + 1) long in
      let pass_is : pass front ≡ map plain (row s (i + 1 + 1) (map view (take (i + 1) ps))) = composed ∙ ap (map plain) (row_more L view ps i (i + 1 + 1) e l inside is-l) in
      ap₂ ◌++◌ (made ∙ ap pass taken ∙ pass_is) left

  -- And no more lives.
  pub begun_all : (i : ℕ) (table : List P) → i ≡ length ps → Begun s plain i (map view (take i ps)) before table → Begun s plain (length ps) (map view ps) before table
  begun_all i table e begun = begun ∙ ap₂ (λ k xs. map plain (row s (k + 1) (map view xs)) ++ drop (k + 1) before) e (take_all i ps (omega arith))
