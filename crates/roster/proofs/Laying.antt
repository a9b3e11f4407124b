-- Reading and writing cells that are laid out from a ledger.
use Rattle.std.proofs.Common.{◌≡◌, ℕ, zero, suc, ◌+◌, ◌<◌, ◌≤◌, min, cond, ltb, ◌≢◌, ◌⊎◌, inl, inr, List, [], ◌∷◌, map, length, get_or, take, drop, set, sym, refl, ap, ◌∙◌, add-one, arith, length-drop}
use Rattle.std.specs.List.{range_with_len, AllByRecursion}
use Rattle.std.proofs.lemmas.List.{get_or_past, get_or-take, get_or-drop, length-take, length-map}
use Rattle.std.proofs.lemmas.Bool.{lt-ltb, le-ltb, ltb-true, ltb-false, cond-true, cond-false, cond_both}
use Rattle.std.proofs.Math.Arith.{lt_of_le-ne}
use Rattle.std.proofs.Math.Nat.{eq-or-lt_of_le}
use Rattle.algebra.specs.Ring.{Ops}
use Rattle.algebra.proofs.Rows.{length_counting, get_or_counting, map_counting_same, set_map_counting}
use Rattle.roster.specs.Ledger.{Member, Ledger, numbers, capacity_of}
use Rattle.roster.specs.Cells.{cell_at, Holds}
use Rattle.roster.specs.declared.cells.Cell.{Cell}

-- A life's number is not zero, and past the last life stands zero.
number_some : {F : Type 0} (lives : List (Member F)) → AllByRecursion (λ m. m.number ≢ 0) lives → (k : ℕ) → k < length lives → get_or (0 ∷ numbers lives) (k + 1) 0 ≢ 0
number_some [] ok k h = absurd (omega arith)
number_some (m ∷ ms) ok zero h = ok.0
number_some (m ∷ ms) ok (suc k) h = rw add-one (rw add-one at (number_some ms ok.1 k (omega arith)))

number_none : {F : Type 0} (lives : List (Member F)) (k : ℕ) → length lives ≤ k → get_or (0 ∷ numbers lives) (k + 1) 0 ≡ 0
number_none lives k h = rw add-one (get_or_past (numbers lives) k 0 (rw length-map h))

-- How many cells there are for lives.
pub length_rooms : {X : Type 0} (cells rooms : List X) → rooms ≡ take 64 (drop 1 cells) → length rooms ≡ capacity_of (length cells)
length_rooms cells rooms are = ap length are ∙ length-take 64 (drop 1 cells) ∙ ap (min 64) (length-drop 1 cells)

module _ {F P : Type 0} {o : Ops F} {plain : F → P} {size : ℕ} {l : Ledger F} {cells : List (Cell P)} (held : Holds o plain size l cells) where
  pub length_held : length cells ≡ size
  length_held = length_counting (cell_at o plain l.whole l.lives) size cells held.are

  -- A cell that is read.
  pub get_or_held : (k : ℕ) (e : Cell P) → k < size → get_or cells k e ≡ cell_at o plain l.whole l.lives k
  get_or_held = get_or_counting (cell_at o plain l.whole l.lives) size cells held.are

  -- The cells that lives can be in.
  module _ (rooms : List (Cell P)) (are : rooms ≡ take 64 (drop 1 cells)) where
    rooms_many : length rooms ≡ l.capacity
    rooms_many = length_rooms cells rooms are ∙ ap capacity_of length_held ∙ sym held.room

    -- None is left.
    pub rooms_end : (k : ℕ) → length rooms ≤ k → k ≤ length l.lives → k ≡ length l.lives
    rooms_end k h so_far = omega (arith, rooms_many, held.few)

    -- One that is read, where those before it have lives.
    module _ (k : ℕ) (x : Cell P) (within : k < length rooms) (read : x ≡ get_or rooms k x) (so_far : k ≤ length l.lives) where
      number_read : x.number ≡ get_or (0 ∷ numbers l.lives) (k + 1) 0
      number_read =
          let same : 1 + k ≡ k + 1 = omega arith in
          ap (λ cell. cell.number)
          (read ∙ ap (λ cs. get_or cs k x) are ∙ get_or-take 64 (drop 1 cells) k x (omega (arith, rooms_many, held.room)) ∙ get_or-drop 1 cells k x
          ∙ ap (λ i. get_or cells i x) same ∙ get_or_held (k + 1) x (omega (arith, rooms_many, held.room)))

      pub number_is : x.number ≡ get_or (numbers l.lives) k 0
      number_is = number_read ∙ ap (λ i. get_or (0 ∷ numbers l.lives) i 0) (add-one k)

      pub some_life : x.number ≢ 0 → k < length l.lives
      some_life some = lt_of_le-ne so_far (λ end. some (number_read ∙ number_none l.lives k (omega (arith, end))))

      pub no_life : x.number ≡ 0 → k ≡ length l.lives
      no_life none = at (eq-or-lt_of_le so_far)
        where
          at : (k ≡ length l.lives) ⊎ (k < length l.lives) → k ≡ length l.lives
          at (inl end) = end
          at (inr more) = absurd (number_some l.lives held.numbered k more (sym number_read ∙ none))

-- A pass under way: below r as f says, from r on as g says.
abbrev pub up_to : {X : Type 0} → ℕ → (ℕ → X) → (ℕ → X) → ℕ → X
up_to r f g k = cond (ltb k r) (f k) (g k)

module _ {X : Type 0} (f g : ℕ → X) where
  up_to_below : (r k : ℕ) → k < r → up_to r f g k ≡ f k
  up_to_below r k h = cond-true (ltb k r) (f k) (g k) (lt-ltb k r h)

  up_to_from : (r k : ℕ) → r ≤ k → up_to r f g k ≡ g k
  up_to_from r k h = cond-false (ltb k r) (f k) (g k) (le-ltb k r h)

  -- It is h at a place, where f is h below r and g is h from r on.
  up_to_is : (h : ℕ → X) (r k : ℕ) → (k < r → f k ≡ h k) → (r ≤ k → g k ≡ h k) → up_to r f g k ≡ h k
  up_to_is h r k low high = cond_both (ltb k r) (f k) (g k) (λ x. x ≡ h k) (λ t. low (ltb-true k r t)) (λ t. high (ltb-false k r t))

  up_to_more : (r k : ℕ) → k ≢ r → up_to r f g k ≡ up_to (r + 1) f g k
  up_to_more r k ne = up_to_is (up_to (r + 1) f g) r k (λ h. sym (up_to_below (r + 1) k (omega arith))) (λ h. sym (up_to_from (r + 1) k (omega arith)))

  pub get_or_up_to_from : (size r : ℕ) (xs : List X) (k : ℕ) (e : X) → xs ≡ map (up_to r f g) (range_with_len 0 size) → k < size → r ≤ k → get_or xs k e ≡ g k
  get_or_up_to_from size r xs k e is h b = get_or_counting (up_to r f g) size xs is k e h ∙ up_to_from r k b

  -- A pass that goes up writes f r at place r.
  pub pass_up : (size r : ℕ) (v : X) → v ≡ f r → set (map (up_to r f g) (range_with_len 0 size)) r v ≡ map (up_to (r + 1) f g) (range_with_len 0 size)
  pass_up size r v e = set_map_counting (up_to r f g) (up_to (r + 1) f g) size r v (e ∙ sym (up_to_below (r + 1) r (omega arith))) (λ k h ne. up_to_more r k ne)

  -- Where a pass begins or ends, the places that it does not reach are alike in both.
  pub pass_below : (size r : ℕ) → ((k : ℕ) → k < r → k < size → f k ≡ g k) → map (up_to r f g) (range_with_len 0 size) ≡ map g (range_with_len 0 size)
  pass_below size r same = map_counting_same (up_to r f g) g size (λ k h. up_to_is g r k (λ b. same k b h) (λ _. refl))

  pub pass_from : (size r : ℕ) → ((k : ℕ) → r ≤ k → k < size → g k ≡ f k) → map (up_to r f g) (range_with_len 0 size) ≡ map f (range_with_len 0 size)
  pass_from size r same = map_counting_same (up_to r f g) f size (λ k h. up_to_is f r k (λ _. refl) (λ b. same k b h))
