-- What the passes leave where the cells held a ledger.
use Rattle.std.proofs.Common.{◌≡◌, ℕ, zero, suc, ◌+◌, ◌-◌, ◌<◌, ◌≤◌, ◌≢◌, List, [], ◌∷◌, ◌++◌, map, length, get_or, take, drop, set, replicate, Some, sym, refl, ap, ◌∙◌, subst, ap₂, append-nil, add-one, arith, length-append}
use Rattle.std.specs.List.{range_with_len, AllByRecursion}
use Rattle.algebra.proofs.Each.{each_append}
use Rattle.std.proofs.lemmas.List.{get_or_past, get_or_at, get_or_append_left, get_or-append_right, get_or-set_other, set_at, length_push, map-append, length-map}
use Rattle.algebra.specs.Ring.{Ops, Laws}
use Rattle.algebra.specs.Sums.{elementary}
use Rattle.algebra.proofs.Rows.{get_or_counting, set_map_counting, map_counting_constant}
use Rattle.algebra.proofs.Elementary.{elementary_zero, elementary_suc_at, elementary_beyond}
use Rattle.roster.specs.Ledger.{Member, Ledger, figures, numbers, place_of}
use Rattle.roster.specs.Cells.{cell_at, laid, Holds, zero_cell}
use Rattle.roster.specs.Passes.{multiplied, divided, exchanged, cell_of, cells_of, Ends, Closed, joined, left, altered}
use Rattle.roster.specs.declared.cells.Cell.{Cell}
use Rattle.roster.proofs.Laying.{length_held}
use Rattle.roster.proofs.Places.{Around, around}
use Rattle.roster.proofs.QuestionsRead.{read_figure}
use Rattle.roster.proofs.Sums.{same_cell, Multiplied, multiplied_front, divided_front, exchanged_front}

-- Lists that differ at one place, or by one element.
module _ {X : Type 0} (x : X) (e : X) where
  get_or_pushed : (xs : List X) (k : ℕ) → k ≢ length xs → get_or xs k e ≡ get_or (xs ++ (x ∷ [])) k e
  get_or_pushed [] zero ne = absurd (ne refl)
  get_or_pushed [] (suc k) ne = refl
  get_or_pushed (y ∷ ys) zero ne = refl
  get_or_pushed (y ∷ ys) (suc k) ne = get_or_pushed ys k (λ q. ne (ap suc q))

  get_or_below : (xs ys : List X) (k : ℕ) → k < length xs → get_or (xs ++ ys) k e ≡ get_or (xs ++ (x ∷ ys)) k e
  get_or_below xs ys k h = get_or_append_left xs ys e k h ∙ sym (get_or_append_left xs (x ∷ ys) e k h)

  get_or_from : (xs ys : List X) (k : ℕ) → length xs ≤ k → get_or (xs ++ ys) k e ≡ get_or (xs ++ (x ∷ ys)) (k + 1) e
  get_or_from xs ys k h =
      let after : k + 1 - length xs ≡ suc (k - length xs) = omega arith in
      get_or-append_right xs ys (length xs) k e refl h
      ∙ sym (get_or-append_right xs (x ∷ ys) (length xs) (k + 1) e refl (omega arith) ∙ ap (λ i. get_or (x ∷ ys) i e) after)

  get_or_other : (y : X) (xs ys : List X) (k : ℕ) → k ≢ length xs → get_or (xs ++ (x ∷ ys)) k e ≡ get_or (xs ++ (y ∷ ys)) k e
  get_or_other y xs ys k ne = sym (get_or-set_other (xs ++ (x ∷ ys)) (length xs) k y e ne) ∙ ap (λ zs. get_or zs k e) (set_at xs x ys y (length xs) refl)

-- What holds of all holds of those before one of them, of itself, and of those after it.
all_around : {X : Type 0} (Q : X → Type 0) (bs : List X) (m : X) (cs : List X) → AllByRecursion Q (bs ++ (m ∷ cs)) → AllByRecursion Q bs × Q m × AllByRecursion Q cs
all_around Q [] m cs ok = (tt, ok.0, ok.1)
all_around Q (b ∷ bs) m cs ok = let rest = all_around Q bs m cs ok.1 in ((ok.0, rest.0), rest.1, rest.2)

-- One field of the lives, after what stands in cell 0.
module _ {F X : Type 0} (f : Member F → X) (d e : X) where
  abbrev field_at : List (Member F) → ℕ → X
  field_at lives k = get_or (d ∷ map f lives) k e

  field_ends : (lives : List (Member F)) (n : ℕ) → n ≡ length lives → Ends n e (field_at lives)
  field_ends lives n same k h = get_or_past (d ∷ map f lives) k e (omega (arith, length-map lives f))

  field_split : (bs cs : List (Member F)) (k : ℕ) → field_at (bs ++ cs) k ≡ get_or ((d ∷ map f bs) ++ map f cs) k e
  field_split bs cs k = ap (λ xs. get_or (d ∷ xs) k e) (map-append f bs cs)

  field_pushed : (lives : List (Member F)) (m : Member F) (n k : ℕ) → n ≡ length lives → k ≢ n + 1 → field_at lives k ≡ field_at (lives ++ (m ∷ [])) k
  field_pushed lives m n k same ne =
      let other : k ≢ suc (length (map f lives)) = λ q. ne (q ∙ ap suc (length-map lives f ∙ sym same) ∙ sym (add-one n)) in
      get_or_pushed (f m) e (d ∷ map f lives) k other ∙ sym (field_split lives (m ∷ []) k)

  field_at_lem : (bs : List (Member F)) (m : Member F) (cs : List (Member F)) (place : ℕ) → place ≡ length bs + 1 → field_at (bs ++ (m ∷ cs)) place ≡ f m
  field_at_lem bs m cs place here =
      let long : length (d ∷ map f bs) ≡ place = omega (arith, length-map bs f) in
      field_split bs (m ∷ cs) place ∙ get_or_at (d ∷ map f bs) (f m) (map f cs) e place long

  field_other : (bs : List (Member F)) (m m' : Member F) (cs : List (Member F)) (place k : ℕ) → place ≡ length bs + 1 → k ≢ place → field_at (bs ++ (m ∷ cs)) k ≡ field_at (bs ++ (m' ∷ cs)) k
  field_other bs m m' cs place k here ne =
      let long : length (d ∷ map f bs) ≡ place = omega (arith, length-map bs f) in
      field_split bs (m ∷ cs) k ∙ get_or_other (f m) e (f m') (d ∷ map f bs) (map f cs) k (λ q. ne (q ∙ long)) ∙ sym (field_split bs (m' ∷ cs) k)

  field_closed : {Y : Type 0} (q : X → Y) (bs : List (Member F)) (m : Member F) (cs : List (Member F)) (place : ℕ) → place ≡ length bs + 1
      → Closed place (λ k. q (field_at (bs ++ (m ∷ cs)) k)) (λ k. q (field_at (bs ++ cs) k))
  field_closed q bs m cs place here =
      let long : length (d ∷ map f bs) ≡ place = omega (arith, length-map bs f) in
      record {
        before = λ k h. ap q (field_split bs cs k ∙ get_or_below (f m) e (d ∷ map f bs) (map f cs) k (omega arith) ∙ sym (field_split bs (m ∷ cs) k));
        after = λ k h. ap q (field_split bs cs k ∙ get_or_from (f m) e (d ∷ map f bs) (map f cs) k (omega arith)
            ∙ sym (field_split bs (m ∷ cs) (k + 1)));
      }

module _ {F : Type 0} {o : Ops F} (L : Laws o) where
  abbrev sums_of : List (Member F) → ℕ → F
  sums_of lives k = elementary o k (figures lives)

  sums_end : (lives : List (Member F)) (n : ℕ) → length lives ≤ n → Ends n o.zero (sums_of lives)
  sums_end lives n some k h = elementary_beyond L k (figures lives) (omega (arith, length-map lives (λ (m : Member F). m.figure)))

  sums_at : (bs : List (Member F)) (m : Member F) (cs : List (Member F)) → Multiplied o m.figure (sums_of (bs ++ cs)) (sums_of (bs ++ (m ∷ cs)))
  sums_at bs m cs = record {
    first = elementary_zero L (figures (bs ++ (m ∷ cs))) ∙ sym (elementary_zero L (figures (bs ++ cs)));
    after = λ k. ap (elementary o (suc k)) (map-append (λ m. m.figure) bs (m ∷ cs))
        ∙ elementary_suc_at L k (figures bs) m.figure (figures cs)
        ∙ ap (λ xs. o.plus (elementary o (suc k) xs) (o.times m.figure (elementary o k xs))) (sym (map-append (λ m. m.figure) bs cs));
  }

  sums_pushed : (lives : List (Member F)) (m : Member F) → Multiplied o m.figure (sums_of lives) (sums_of (lives ++ (m ∷ [])))
  sums_pushed lives m = subst (λ xs. Multiplied o m.figure (sums_of xs) (sums_of (lives ++ (m ∷ [])))) (append-nil lives) (sums_at lives m [])

module _ {F P : Type 0} {o : Ops F} (L : Laws o) (plain : F → P) where
  abbrev figure_at : F → List (Member F) → ℕ → P
  figure_at d lives k = plain (get_or (d ∷ figures lives) k o.zero)

  abbrev number_at : List (Member F) → ℕ → ℕ
  number_at lives k = get_or (0 ∷ numbers lives) k 0

  figures_end : (d : F) (lives : List (Member F)) (n : ℕ) → n ≡ length lives → Ends n (plain o.zero) (figure_at d lives)
  figures_end d lives n same k h = ap plain (field_ends (λ m. m.figure) d o.zero lives n same k h)

  pub put_in_held : (figure : P → F) → ((x : F) → figure (plain x) ≡ x) → (size : ℕ) (l : Ledger F) (n number : ℕ) (x : F) (before after : List (Cell P)) (e : Cell P) (y : P)
      → Holds o plain size l before → n ≡ length l.lives → n < l.capacity → number ≢ 0
      → after ≡ multiplied o plain figure x (take (n + 2) before) ++ drop (n + 2) before → y ≡ plain x
      → Holds o plain size (joined l number x) (set after (n + 1) (record { figure = y; sum = (get_or after (n + 1) e).sum; number = number }))
  put_in_held figure back size l n number x before after e y held counted room some pass written =
      let lives : List (Member F) = l.lives in
      let m : Member F = record { number = number; figure = x } in
      let more : List (Member F) = lives ++ (m ∷ []) in
      let here : n + 1 ≡ length lives + 1 = ap (λ i. i + 1) counted in
      let f : ℕ → Cell P = cell_of (figure_at l.whole lives) (λ k. plain (sums_of L more k)) (number_at lives) in
      let within : n + 1 < size = omega (arith, held.room) in
      let after_is : after ≡ map f (range_with_len 0 size) =
      pass ∙ ap (λ cells. multiplied o plain figure x (take (n + 2) cells) ++ drop (n + 2) cells) held.are
      ∙ multiplied_front L plain figure back (figure_at l.whole lives) (number_at lives) x size n (sums_of L lives) (sums_of L more) within (sums_end L lives n (omega arith)) (sums_pushed L lives m) in
      let cell : Cell P = record { figure = y; sum = (get_or after (n + 1) e).sum; number = number } in
      record {
        room = held.room;
        few = omega (arith, length_push lives m);
        numbered = each_append (λ m. m.number ≢ 0) lives (m ∷ []) held.numbered (some, tt);
        are = ap (λ xs. set xs (n + 1) cell) after_is
            ∙ set_map_counting f (cell_at o plain l.whole more) size (n + 1) cell
            (same_cell cell (cell_at o plain l.whole more (n + 1)) (written ∙ ap plain (sym (field_at_lem (λ m. m.figure) l.whole o.zero lives m [] (n + 1) here)))
            (ap (λ c. c.sum) (get_or_counting f size after after_is (n + 1) e within)) (sym (field_at_lem (λ m. m.number) 0 0 lives m [] (n + 1) here)))
            (λ k h ne. same_cell (f k) (cell_at o plain l.whole more k) (ap plain (field_pushed (λ m. m.figure) l.whole o.zero lives m n k counted ne)) refl (field_pushed (λ m. m.number) 0 0 lives m n k counted ne));
      }

  -- A number was found at a place, and the figure p was read there.
  module _ (figure : P → F) (back : (x : F) → figure (plain x) ≡ x) {size : ℕ} {l : Ledger F} (number n place : ℕ) {before : List (Cell P)} (e : Cell P) (p : F)
      (held : Holds o plain size l before) (found : place_of number l.lives ≡ Some place) (counted : n ≡ length l.lives)
      (within : place < length before) (is : p ≡ figure (get_or before place e).figure) where
    a : Around number l.lives place
    a = around number l.lives place found

    abbrev bs : List (Member F)
    bs = a.before

    abbrev m : Member F
    m = a.life

    abbrev cs : List (Member F)
    cs = a.after

    abbrev all : List (Member F)
    all = bs ++ (m ∷ cs)

    many : n ≡ length all
    many = counted ∙ ap length a.are

    are : before ≡ laid o plain size l.whole all
    are = held.are ∙ ap (laid o plain size l.whole) a.are

    room : n < size
    room = omega (arith, held.few, held.room, length_held held)

    out : p ≡ m.figure
    out =
        read_figure figure back held place e p within is
        ∙ ap (λ lives. get_or (l.whole ∷ figures lives) place o.zero) a.are ∙ field_at_lem (λ m. m.figure) l.whole o.zero bs m cs place a.here

    ok : AllByRecursion (λ m. m.number ≢ 0) bs × (m.number ≢ 0) × AllByRecursion (λ m. m.number ≢ 0) cs
    ok = all_around (λ m. m.number ≢ 0) bs m cs (subst (AllByRecursion (λ m. m.number ≢ 0)) a.are held.numbered)

    pub take_out_held : (mid after : List (Cell P)) → mid ≡ divided o plain figure p (take (n + 1) before) ++ drop (n + 1) before
        → (place ≤ n → (size : ℕ) (figures kept sums : ℕ → P) (numbers left : ℕ → ℕ) → Ends n (plain o.zero) figures → Ends n 0 numbers → Closed place figures kept → Closed place numbers left → mid ≡ cells_of size figures sums numbers → after ≡ cells_of size kept sums left)
        → Holds o plain size (left l number) after
    take_out_held mid after divide close =
        let rest : List (Member F) = bs ++ cs in
        let long : length all ≡ length bs + (length cs + 1) = length-append bs (m ∷ cs) ∙ ap (λ i. length bs + i) (sym (add-one (length cs))) in
        let short : length rest ≡ length bs + length cs = length-append bs cs in
        let mid-is : mid ≡ cells_of size (figure_at l.whole all) (λ k. plain (sums_of L rest k)) (number_at all) =
        divide ∙ ap₂ (λ q cells. divided o plain figure q (take (n + 1) cells) ++ drop (n + 1) cells) out are
        ∙ divided_front L plain figure back (figure_at l.whole all) (number_at all) m.figure size n (sums_of L all) (sums_of L rest) room (sums_end L all n (omega (arith, many))) (sums_end L rest n (omega (arith, many))) (sums_at L bs m cs) in
        let after_is : after ≡ laid o plain size l.whole rest =
        close (omega (arith, many, a.here)) size (figure_at l.whole all) (figure_at l.whole rest) (λ k. plain (sums_of L rest k)) (number_at all) (number_at rest)
        (figures_end l.whole all n many) (field_ends (λ m. m.number) 0 0 all n many)
        (field_closed (λ m. m.figure) l.whole o.zero plain bs m cs place a.here) (field_closed (λ m. m.number) 0 0 (λ k. k) bs m cs place a.here) mid-is in
        record {
          room = held.room;
          few = omega (arith, many, held.few, ap length a.gone);
          numbered = subst (AllByRecursion (λ m. m.number ≢ 0)) (sym a.gone) (each_append (λ m. m.number ≢ 0) bs cs ok.0 ok.2);
          are = after_is ∙ ap (laid o plain size l.whole) (sym a.gone);
        }

    pub alter_held : (after : List (Cell P)) (e' : Cell P) (x : F) (y : P) → after ≡ exchanged o plain figure p x (take (n + 1) before) ++ drop (n + 1) before → y ≡ plain x
        → Holds o plain size (altered l number x) (set after place (record { figure = y; sum = (get_or after place e').sum; number = (get_or after place e').number }))
    alter_held after e' x y exchange written =
        let m' : Member F = record { number = number; figure = x } in
        let new : List (Member F) = bs ++ (m' ∷ cs) in
        let long : length new ≡ length all = length-append bs (m' ∷ cs) ∙ sym (length-append bs (m ∷ cs)) in
        let f : ℕ → Cell P = cell_of (figure_at l.whole all) (λ k. plain (sums_of L new k)) (number_at all) in
        let after_is : after ≡ map f (range_with_len 0 size) =
        exchange ∙ ap₂ (λ q cells. exchanged o plain figure q x (take (n + 1) cells) ++ drop (n + 1) cells) out are
        ∙ exchanged_front L plain figure back (figure_at l.whole all) (number_at all) m.figure x size n (sums_of L all) (sums_of L (bs ++ cs)) (sums_of L new) room (sums_end L all n (omega (arith, many))) (sums_end L new n (omega (arith, many))) (sums_at L bs m cs) (sums_at L bs m' cs) in
        let again : Cell P = get_or after place e' in
        let again-is : again ≡ f place = get_or_counting f size after after_is place e' (omega (arith, length_held held)) in
        let cell : Cell P = record { figure = y; sum = again.sum; number = again.number } in
        let number_is : again.number ≡ number_at new place =
        ap (λ c. c.number) again-is ∙ field_at_lem (λ m. m.number) 0 0 bs m cs place a.here ∙ a.named ∙ sym (field_at_lem (λ m. m.number) 0 0 bs m' cs place a.here) in
        let after-laid : set after place cell ≡ laid o plain size l.whole new =
        ap (λ xs. set xs place cell) after_is
        ∙ set_map_counting f (cell_at o plain l.whole new) size place cell
        (same_cell cell (cell_at o plain l.whole new place) (written ∙ ap plain (sym (field_at_lem (λ m. m.figure) l.whole o.zero bs m' cs place a.here))) (ap (λ c. c.sum) again-is) number_is)
        (λ k h ne. same_cell (f k) (cell_at o plain l.whole new k) (ap plain (field_other (λ m. m.figure) l.whole o.zero bs m m' cs place k a.here ne)) refl (field_other (λ m. m.number) 0 0 bs m m' cs place k a.here ne)) in
        record {
          room = held.room;
          few = omega (arith, held.few, ap length (a.anew x), ap length a.are);
          numbered = subst (AllByRecursion (λ m. m.number ≢ 0)) (sym (a.anew x)) (each_append (λ m. m.number ≢ 0) bs (m' ∷ cs) ok.0 ((λ z. ok.1 (a.named ∙ z)), ok.2));
          are = after-laid ∙ ap (laid o plain size l.whole) (sym (a.anew x));
        }

  -- Past cell 0 the cells of a ledger without lives are zero, and cell 0 is the same with lives.
  laid_past : (d : F) (k : ℕ) → 1 ≤ k → cell_at o plain d [] k ≡ zero_cell o plain
  laid_past d zero h = absurd (omega arith)
  laid_past d (suc k) h = same_cell (cell_at o plain d [] (suc k)) (zero_cell o plain) refl (ap plain (elementary_beyond L (suc k) [] (omega arith))) refl

  laid_first : (d : F) (lives : List (Member F)) (first : Cell P) → first.figure ≡ plain d → first.sum ≡ plain o.one → first.number ≡ 0 → first ≡ cell_at o plain d lives 0
  laid_first d lives first f s n = same_cell first (cell_at o plain d lives 0) f (s ∙ ap plain (sym (elementary_zero L (figures lives)))) n

  laid_none : (n : ℕ) (d : F) (first : Cell P) → first ≡ cell_at o plain d [] 0 → first ∷ replicate n (zero_cell o plain) ≡ laid o plain (suc n) d []
  laid_none n d first e = ap₂ ◌∷◌ e (sym (map_counting_constant (cell_at o plain d []) (zero_cell o plain) 1 n (laid_past d)))

  pub opened_some : (size : ℕ) (d : F) (cells : List (Cell P)) (first : Cell P) → 0 < size → cells ≡ replicate size (zero_cell o plain)
      → first.figure ≡ plain d → first.sum ≡ plain o.one → first.number ≡ 0 → set cells 0 first ≡ laid o plain size d []
  opened_some zero d cells first h is f s n = absurd (omega arith)
  opened_some (suc m) d cells first h is f s n = ap (λ xs. set xs 0 first) is ∙ laid_none m d first (laid_first d [] first f s n)

  pub cleared_laid : (size : ℕ) (d : F) (lives : List (Member F)) → 0 < size → take 1 (laid o plain size d lives) ++ replicate (size - 1) (zero_cell o plain) ≡ laid o plain size d []
  cleared_laid zero d lives h = absurd (omega arith)
  cleared_laid (suc m) d lives h =
      let all : suc m - 1 ≡ m = omega arith in
      ap (λ i. cell_at o plain d lives 0 ∷ replicate i (zero_cell o plain)) all ∙ laid_none m d (cell_at o plain d lives 0) (laid_first d [] (cell_at o plain d lives 0) refl (ap plain (elementary_zero L (figures lives))) refl)
