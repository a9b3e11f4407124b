-- Waring's formulas, over any commutative ring. All of it rests on one table of numbers, `entry`: the number at place k after
-- j passes of differences.
use Rattle.std.proofs.Common.{◌≡◌, ℕ, zero, suc, ◌+◌, ◌-◌, ◌<◌, ◌≤◌, List, [], ◌∷◌, length, sym, refl, ap, ◌∙◌, subst, ap₂, le_of_suc-le-suc, not-suc-le-zero, suc-add, zero-add, add-one, arith}
use mathlib.Core.Path.{fun_ext}
use Rattle.algebra.specs.Ring.{Ops, Laws, semi}
use Rattle.algebra.specs.Patterns.{exactly, at_least}
use Rattle.algebra.specs.Binomial.{choose}
use Rattle.algebra.specs.Sums.{power, multiple, elementary, against}
use Rattle.algebra.specs.Waring.{signed, sum_to, alternating, WaringExactly, WaringAtLeast}
use Rattle.algebra.proofs.Semiring.{laws_semi, plus_undo}
use Rattle.algebra.proofs.Solver.{ring, made}
use Rattle.algebra.proofs.Binomial.{ways, ways_choose}
use Rattle.algebra.proofs.Patterns.{at_least_suc_nil, at_least_suc_cons, at_least_split}
use Rattle.algebra.proofs.Elementary.{multiple_plus, multiple_of_plus, multiple_of_zero, multiple_of_times, elementary_zero, elementary_suc_cons, elementary_beyond, at_least_zero_against}

-- A summand without its power of d: (−1)^t · ways(j, t) · g(t).
abbrev pub term : {F : Type 0} (o : Ops F) → ℕ → (ℕ → F) → ℕ → F
term o j g t = signed o t (multiple o (ways j t) (g t))

-- The same of the elementary sums B of the figures, from place k on: (−1)^t · ways(j, t) · B(k+t).
abbrev pub summand : {F : Type 0} (o : Ops F) → List F → ℕ → ℕ → ℕ → F
summand o ps j k t = term o j (λ r. elementary o (k + r) ps) t

module _ {F : Type 0} (o : Ops F) (d : F) where
  -- f(0)·d^(t−1) + … + f(t−1), as a loop computes it with t rising.
  abbrev pub horner : (ℕ → F) → ℕ → F
  horner f zero = o.zero
  horner f (suc t) = o.plus (o.times (horner f t) d) (f t)

  -- Of the numbers g(0) … g(size−1), the sum from place k on; zero past the end.
  abbrev pub tail_sum : ℕ → (ℕ → F) → ℕ → ℕ → F
  tail_sum j g size zero = horner (term o j g) size
  tail_sum j g zero (suc k) = o.zero
  tail_sum j g (suc size) (suc k) = tail_sum j (λ t. g (suc t)) size k

  -- The same of the elementary sums of the figures: over t from 0 to n − k, (−1)^t · ways(j, t) · B(k+t) · d^(n−k−t).
  abbrev pub entry : List F → ℕ → ℕ → F
  entry ps j k = tail_sum j (λ r. elementary o r ps) (suc (length ps)) k

-- The loop's step, for an index t + 1.
pub horner_more : {F : Type 0} (o : Ops F) (d : F) (f : ℕ → F) (t : ℕ) → horner o d f (t + 1) ≡ o.plus (o.times (horner o d f t) d) (f t)
horner_more o d f t = rw add-one

module _ {F : Type 0} {o : Ops F} (L : Laws o) where
  signed_zero : (t : ℕ) → signed o t o.zero ≡ o.zero
  signed_zero zero = refl
  signed_zero (suc t) = ap o.minus (signed_zero t) ∙ ring L [] (search made depth 40 fits 100000) tt

  -- Two signs cancel.
  pub signed_twice : (t : ℕ) (x : F) → signed o t (signed o t x) ≡ x
  signed_twice zero x = refl
  signed_twice (suc t) x = ap o.minus (signed_minus t (signed o t x)) ∙ ring L (signed o t (signed o t x) ∷ []) (search made depth 40 fits 100000) tt ∙ signed_twice t x
    where
      signed_minus : (t : ℕ) (x : F) → signed o t (o.minus x) ≡ o.minus (signed o t x)
      signed_minus zero x = refl
      signed_minus (suc t) x = ap o.minus (signed_minus t x)

  pub signed_linear : (t : ℕ) (x p y : F) → signed o t (o.plus x (o.times p y)) ≡ o.plus (signed o t x) (o.times p (signed o t y))
  signed_linear zero x p y = refl
  signed_linear (suc t) x p y = ap o.minus (signed_linear t x p y) ∙ ring L (p ∷ signed o t x ∷ signed o t y ∷ []) (search made depth 40 fits 100000) tt

  multiple_linear : (c : ℕ) (x p y : F) → multiple o c (o.plus x (o.times p y)) ≡ o.plus (multiple o c x) (o.times p (multiple o c y))
  multiple_linear c x p y =
      multiple_of_plus L c x (o.times p y)
      ∙ ap (o.plus (multiple o c x)) (ap (multiple o c) (L.times_comm p y) ∙ multiple_of_times L c y p ∙ L.times_comm (multiple o c y) p)

  module _ (d : F) where
    -- The sums are linear in g.
    module _ (p : F) where
      horner_linear : (f g h : ℕ → F) → ((t : ℕ) → f t ≡ o.plus (g t) (o.times p (h t))) → (n : ℕ) → horner o d f n ≡ o.plus (horner o d g n) (o.times p (horner o d h n))
      horner_linear f g h e zero = ring L (p ∷ []) (search made depth 40 fits 100000) tt
      horner_linear f g h e (suc n) = ap₂ (λ x y. o.plus (o.times x d) y) (horner_linear f g h e n) (e n) ∙ ring L (p ∷ d ∷ horner o d g n ∷ horner o d h n ∷ g n ∷ h n ∷ []) (search made depth 40 fits 100000) tt

      term_linear : (j : ℕ) (f g h : ℕ → F) → ((t : ℕ) → f t ≡ o.plus (g t) (o.times p (h t))) → (t : ℕ) → term o j f t ≡ o.plus (term o j g t) (o.times p (term o j h t))
      term_linear j f g h e t = ap (λ x. signed o t (multiple o (ways j t) x)) (e t) ∙ ap (signed o t) (multiple_linear (ways j t) (g t) p (h t)) ∙ signed_linear t _ p _

      tail_linear : (j : ℕ) (f g h : ℕ → F) → ((t : ℕ) → f t ≡ o.plus (g t) (o.times p (h t))) → (n k : ℕ) → tail_sum o d j f n k ≡ o.plus (tail_sum o d j g n k) (o.times p (tail_sum o d j h n k))
      tail_linear j f g h e n zero = horner_linear _ _ _ (term_linear j f g h e) n
      tail_linear j f g h e zero (suc k) = ring L (p ∷ []) (search made depth 40 fits 100000) tt
      tail_linear j f g h e (suc n) (suc k) = tail_linear j (λ t. f (suc t)) (λ t. g (suc t)) (λ t. h (suc t)) (λ t. e (suc t)) n k

    tail_past : (j : ℕ) (g : ℕ → F) (n k : ℕ) → n ≤ k → tail_sum o d j g n k ≡ o.zero
    tail_past j g zero zero h = refl
    tail_past j g (suc n) zero h = absurd (not-suc-le-zero h)
    tail_past j g zero (suc k) h = refl
    tail_past j g (suc n) (suc k) h = tail_past j (λ t. g (suc t)) n k (le_of_suc-le-suc h)

    -- One number more, which is zero, multiplies by d.
    tail_end : (j : ℕ) (g : ℕ → F) (n k : ℕ) → g n ≡ o.zero → tail_sum o d j g (suc n) k ≡ o.times (tail_sum o d j g n k) d
    tail_end j g n zero e = ap (o.plus _) (ap (λ x. signed o n (multiple o (ways j n) x)) e ∙ ap (signed o n) (multiple_of_zero L (ways j n)) ∙ signed_zero n) ∙ L.plus_zero _
    tail_end j g zero (suc k) e = tail_past j (λ t. g (suc t)) 0 k (omega arith) ∙ ring L (d ∷ []) (search made depth 40 fits 100000) tt
    tail_end j g (suc n) (suc k) e = tail_end j (λ t. g (suc t)) n k e

    term_step : (j : ℕ) (g : ℕ → F) (t : ℕ) → term o (suc j) g (suc t) ≡ o.plus (term o j g (suc t)) (o.minus (term o (suc j) (λ t. g (suc t)) t))
    term_step j g t =
        let a = multiple o (ways j (suc t)) (g (suc t)) in
        let b = multiple o (ways (suc j) t) (g (suc t)) in
        let one = o.one in
        ap (signed o (suc t)) (multiple_plus L (ways j (suc t)) (ways (suc j) t) (g (suc t)) ∙ ring L (a ∷ b ∷ []) (search made depth 40 fits 100000) tt)
        ∙ signed_linear (suc t) a one b
        ∙ ring L (signed o t a ∷ signed o t b ∷ []) (search made depth 40 fits 100000) tt

    -- One pass of differences.
    horner_step : (j : ℕ) (g : ℕ → F) (n : ℕ) → horner o d (term o (suc j) g) (suc n) ≡ o.plus (horner o d (term o j g) (suc n)) (o.minus (horner o d (term o (suc j) (λ t. g (suc t))) n))
    horner_step j g zero = ring L (d ∷ g 0 ∷ []) (search made depth 40 fits 100000) tt
    horner_step j g (suc n) =
        let h = horner o d (term o j g) (suc n) in
        let k = horner o d (term o (suc j) (λ t. g (suc t))) n in
        ap₂ (λ x y. o.plus (o.times x d) y) (horner_step j g n) (term_step j g n)
        ∙ ring L (d ∷ h ∷ k ∷ term o j g (suc n) ∷ term o (suc j) (λ t. g (suc t)) n ∷ []) (search made depth 40 fits 100000) tt

    tail_step : (j : ℕ) (g : ℕ → F) (n k : ℕ) → tail_sum o d (suc j) g n k ≡ o.plus (tail_sum o d j g n k) (o.minus (tail_sum o d (suc j) g n (suc k)))
    tail_step j g zero zero = ring L [] (search made depth 40 fits 100000) tt
    tail_step j g (suc n) zero = horner_step j g n
    tail_step j g zero (suc k) = ring L [] (search made depth 40 fits 100000) tt
    tail_step j g (suc n) (suc k) = tail_step j (λ t. g (suc t)) n k

    -- No pass.
    horner_none : (g : ℕ → F) (n : ℕ) → horner o d (term o 0 g) (suc n) ≡ o.times (g 0) (power o d n)
    horner_none g zero = ring L (d ∷ g 0 ∷ []) (search made depth 40 fits 100000) tt
    horner_none g (suc n) =
        ap₂ (λ x y. o.plus (o.times x d) y) (horner_none g n) (signed_zero (suc n))
        ∙ ring L (d ∷ g 0 ∷ power o d n ∷ []) (search made depth 40 fits 100000) tt

    tail_none : (g : ℕ → F) (k m n : ℕ) → k + m ≡ n → tail_sum o d 0 g (suc n) k ≡ o.times (g k) (power o d m)
    tail_none g zero m n e = subst (λ i. horner o d (term o 0 g) (suc n) ≡ o.times (g 0) (power o d i)) (sym e ∙ zero-add m) (horner_none g n)
    tail_none g (suc k) m zero e = absurd (omega arith)
    tail_none g (suc k) m (suc n) e = tail_none (λ t. g (suc t)) k m n (omega arith)

    -- The last place keeps its number.
    tail_last : (j : ℕ) (g : ℕ → F) (n : ℕ) → tail_sum o d j g (suc n) n ≡ g n
    tail_last j g zero = ring L (d ∷ g 0 ∷ []) (search made depth 40 fits 100000) tt
    tail_last j g (suc n) = tail_last j (λ t. g (suc t)) n

    -- The sum from place k on, written out.
    tail_horner : (j : ℕ) (g : ℕ → F) (k m n : ℕ) → k + m ≡ n → tail_sum o d j g (suc n) k ≡ horner o d (term o j (λ t. g (k + t))) (suc m)
    tail_horner j g zero m n e =
        let ends : n ≡ m = omega arith in
        ap₂ (λ h i. horner o d (term o j h) (suc i)) (fun_ext (λ t. ap g (sym (zero-add t)))) ends
    tail_horner j g (suc k) m zero e = absurd (omega arith)
    tail_horner j g (suc k) m (suc n) e = tail_horner j (λ t. g (suc t)) k m n (omega arith) ∙ ap (λ h. horner o d (term o j h) (suc m)) (fun_ext (λ t. ap g (sym (suc-add k t))))

    -- The table: one pass more.
    pub entry_step : (ps : List F) (j k : ℕ) → entry o d ps (suc j) k ≡ o.plus (entry o d ps j k) (o.minus (entry o d ps (suc j) (suc k)))
    entry_step ps j k = tail_step j (λ r. elementary o r ps) (suc (length ps)) k

    -- One life more: its figure p takes part in the elementary sums.
    entry_cons : (p : F) (ps : List F) (j k : ℕ) → entry o d (p ∷ ps) j (suc k) ≡ o.plus (o.times (entry o d ps j (suc k)) d) (o.times p (entry o d ps j k))
    entry_cons p ps j k =
        let B = λ (r : ℕ). elementary o r ps in
        let n = suc (length ps) in
        tail_linear p j (λ r. elementary o (suc r) (p ∷ ps)) (λ r. B (suc r)) B (λ r. elementary_suc_cons L r p ps) n k
        ∙ ap (λ x. o.plus x (o.times p (tail_sum o d j B n k))) (tail_end j B n (suc k) (elementary_beyond L n ps (omega arith)))

    pub at_least_entry : (ps : List F) (k : ℕ) → at_least (semi o) k (against o d ps) ≡ entry o d ps k k
    at_least_entry ps zero =
        let n = length ps in
        at_least_zero_against L d ps ∙ sym (horner_none (λ r. elementary o r ps) n ∙ ap (λ x. o.times x (power o d n)) (elementary_zero L ps) ∙ ring L (power o d n ∷ []) (search made depth 40 fits 100000) tt)
    at_least_entry [] (suc k) = at_least_suc_nil (laws_semi L) k ∙ sym (tail_past (suc k) (λ r. elementary o (suc r) []) 0 k (omega arith))
    at_least_entry (p ∷ ps) (suc k) =
        let x = entry o d ps k k in
        let y = entry o d ps (suc k) (suc k) in
        at_least_suc_cons (laws_semi L) k (record { alive = p; dead = o.plus d (o.minus p) }) (against o d ps)
        ∙ ap₂ (λ u v. o.plus (o.times p u) (o.times (o.plus d (o.minus p)) v)) (at_least_entry ps k) (at_least_entry ps (suc k))
        ∙ ring L (p ∷ d ∷ x ∷ y ∷ []) (search made depth 40 fits 100000) tt
        ∙ ap (λ z. o.plus (o.times y d) (o.times p z)) (sym (entry_step ps k k))
        ∙ sym (entry_cons p ps (suc k) k)

    pub exactly_entry : (ps : List F) (k : ℕ) → exactly (semi o) k (against o d ps) ≡ entry o d ps (suc k) k
    exactly_entry ps k =
        let e = exactly (semi o) k (against o d ps) in
        let more = at_least (semi o) (suc k) (against o d ps) in
        sym (plus_undo L e more)
        ∙ ap (λ x. o.plus x (o.minus more)) (sym (at_least_split (laws_semi L) k (against o d ps)))
        ∙ ap₂ (λ x y. o.plus x (o.minus y)) (at_least_entry ps k) (at_least_entry ps (suc k))
        ∙ sym (entry_step ps k k)

    -- No pass, the last place, and past it.
    pub entry_none : (ps : List F) (k m : ℕ) → k + m ≡ length ps → entry o d ps 0 k ≡ o.times (elementary o k ps) (power o d m)
    entry_none ps k m e = tail_none (λ r. elementary o r ps) k m (length ps) e

    pub entry_last : (ps : List F) (j : ℕ) → entry o d ps j (length ps) ≡ elementary o (length ps) ps
    entry_last ps j = tail_last j (λ r. elementary o r ps) (length ps)

    pub entry_past : (ps : List F) (j k : ℕ) → length ps < k → entry o d ps j k ≡ o.zero
    entry_past ps j k h = tail_past j (λ r. elementary o r ps) (suc (length ps)) k h

    pub entry_horner : (ps : List F) (j k m : ℕ) → k + m ≡ length ps → entry o d ps j k ≡ horner o d (summand o ps j k) (suc m)
    entry_horner ps j k m e = tail_horner j (λ r. elementary o r ps) k m (length ps) e

    sum_to_same : (m : ℕ) (f g : ℕ → F) → ((t : ℕ) → t ≤ m → f t ≡ g t) → sum_to o m f ≡ sum_to o m g
    sum_to_same zero f g e = e 0 (omega arith)
    sum_to_same (suc m) f g e = ap₂ o.plus (sum_to_same m f g (λ t h. e t (omega arith))) (e (suc m) (omega arith))

    sum_to_times : (m : ℕ) (f : ℕ → F) → o.times (sum_to o m f) d ≡ sum_to o m (λ t. o.times (f t) d)
    sum_to_times zero f = refl
    sum_to_times (suc m) f = ring L (d ∷ sum_to o m f ∷ f (suc m) ∷ []) (search made depth 40 fits 100000) tt ∙ ap (λ x. o.plus x (o.times (f (suc m)) d)) (sum_to_times m f)

    horner_sum : (f : ℕ → F) (m : ℕ) → horner o d f (suc m) ≡ sum_to o m (λ t. o.times (f t) (power o d (m - t)))
    horner_sum f zero = ring L (d ∷ f 0 ∷ []) (search made depth 40 fits 100000) tt
    horner_sum f (suc m) = ap₂ o.plus (ap (λ x. o.times x d) (horner_sum f m) ∙ sum_to_times m _ ∙ sum_to_same m _ _ raised) last
      where
        raised : (t : ℕ) → t ≤ m → o.times (o.times (f t) (power o d (m - t))) d ≡ o.times (f t) (power o d (suc m - t))
        raised t h =
            let e : suc m - t ≡ suc (m - t) = omega arith in
            rw e (ring L (d ∷ f t ∷ power o d (m - t) ∷ []) (search made depth 40 fits 100000) tt)

        last : f (suc m) ≡ o.times (f (suc m)) (power o d (suc m - suc m))
        last =
            let e : suc m - suc m ≡ 0 = omega arith in
            rw e (ring L (f (suc m) ∷ []) (search made depth 40 fits 100000) tt)

    entry_sum : (ps : List F) (j k : ℕ) (c : ℕ → ℕ) → k ≤ length ps → ((t : ℕ) → ways j t ≡ c t) → entry o d ps j k ≡ alternating o d ps c k (length ps - k)
    entry_sum ps j k c h e =
        let m = length ps - k in
        let whole : k + m ≡ length ps = omega arith in
        entry_horner ps j k m whole
        ∙ horner_sum (summand o ps j k) m
        ∙ ap (λ w. alternating o d ps w k m) (fun_ext e)

    -- The formulas as the textbooks have them.
    pub waring_exactly : (ps : List F) (k : ℕ) → k ≤ length ps → WaringExactly o d ps k
    waring_exactly ps k h = exactly_entry ps k ∙ entry_sum ps (suc k) k (λ t. choose (k + t) t) h (ways_choose k)

    pub waring_at_least : (ps : List F) (k : ℕ) → 1 ≤ k → k ≤ length ps → WaringAtLeast o d ps k
    waring_at_least ps zero l h = absurd (not-suc-le-zero l)
    waring_at_least ps (suc k) l h = at_least_entry ps (suc k) ∙ entry_sum ps (suc k) (suc k) (λ t. choose (suc k + t - 1) t) h coefficient
      where
        coefficient : (t : ℕ) → ways (suc k) t ≡ choose (suc k + t - 1) t
        coefficient t =
            let e : suc k + t - 1 ≡ k + t = omega arith in
            rw e (ways_choose k t)
