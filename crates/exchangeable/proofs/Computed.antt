-- The computed answer is the one that the promise on events describes.
use Rattle.std.proofs.Common.{◌≡◌, ℕ, ◌+◌, ◌^◌, ◌<◌, ◌≤◌, ◌⊎◌, inl, inr, List, map, length, get_or, take, ℤ, pos, negsuc, ◌≤ℤ◌, ◌<ℤ◌, true, false, Bool, nat_lt, ◌==◌, ◌||◌, position, Option, Some, None, Ok, Err, refl, sym, ap, arith}
use Rattle.std.proofs.lemmas.Bool.{cases_lt, lt-ltb, le-ltb}
use Rattle.std.proofs.lemmas.Bool.Decides.{nat_tests}
use Rattle.std.proofs.lemmas.Int.{ints}
use Rattle.std.proofs.lemmas.List.FromFn.{get_or-map-range_with_len, length-map-range_with_len}
use Rattle.std.proofs.lemmas.List.Sums.{position_or_len_is}
use Rattle.std.specs.Int.{is_negative}
use Rattle.std.specs.List.{position_or_len}
use Rattle.exchangeable.specs.Answer.{FitLength, FitAt, Admitted, Refused, Answered, misfit_place, weights, negative_place, answer}
use Rattle.exchangeable.specs.Events.{top, value}
use Rattle.exchangeable.specs.declared.Refusal.{Refusal}
use Rattle.exchangeable.specs.declared.Refusal.TheVariants.{TableLength, Coefficient, RowAboveTable, ShortOutput, Impossible}
use Rattle.exchangeable.proofs.Differences.{events_nonneg}

-- The first place at which a test passes, and none where it passes nowhere.
module _ {A : Type 0} (test : A → Bool) (xs : List A) (d : A) where
  position_at : (k : ℕ) → k < length xs → test (get_or xs k d) ≡ true → ((i : ℕ) → i < k → test (get_or xs i d) ≡ false)
      → position test xs ≡ Some k
  position_at k l here before =
      let e : position_or_len test xs ≡ k = position_or_len_is test xs k d (omega arith) before (λ q. here) in
      rw e (grind (arith, nat_tests))

  position_none : ((i : ℕ) → i < length xs → test (get_or xs i d) ≡ false) → position test xs ≡ None
  position_none all =
      let e : position_or_len test xs ≡ length xs = position_or_len_is test xs (length xs) d (omega arith) all (λ q. absurd (omega arith)) in
      rw e (grind (arith, nat_tests))

-- The test of the length.
length_fits : (u : List ℕ) → FitLength u → (length u == 0 || nat_lt 33 (length u)) ≡ false
length_fits u h = grind (arith, nat_tests)

length_unfit : (u : List ℕ) → (FitLength u → ⊥) → (length u == 0 || nat_lt 33 (length u)) ≡ true
length_unfit u h = grind (arith, nat_tests)

-- The lowest coefficient outside the limits.
within : (x : ℕ) → x ≤ 2 ^ 30 → nat_lt (2 ^ 30) x ≡ false
within x h = grind (arith, nat_tests)

misfit_from : (u : List ℕ) (r : Option ℕ) → 0 < get_or u 0 0 → position (λ x. nat_lt (2 ^ 30) x) u ≡ r → misfit_place u ≡ r
misfit_from u r h e = grind (arith, nat_tests)

misfit_none : (u : List ℕ) → Admitted u → misfit_place u ≡ None
misfit_none u a =
    misfit_from u None ((a.1 0 (omega arith)).1 refl) (position_none (λ x. nat_lt (2 ^ 30) x) u 0 (λ i l. within _ (a.1 i l).0))

misfit_at : (u : List ℕ) (k : ℕ) → k < length u → (FitAt u k → ⊥) → ((i : ℕ) → i < k → FitAt u i) → misfit_place u ≡ Some k
misfit_at u k l unfit before = at (cases_lt 0 (get_or u 0 0))
  where
    above : (k ≡ 0 → 0 < get_or u k 0) → (2 ^ 30 < get_or u k 0) ⊎ (get_or u k 0 ≤ 2 ^ 30) → nat_lt (2 ^ 30) (get_or u k 0) ≡ true
    above up (inl h) = lt-ltb (2 ^ 30) (get_or u k 0) h
    above up (inr h) = absurd (unfit (h, up))

    at : (0 < get_or u 0 0) ⊎ (get_or u 0 0 ≤ 0) → misfit_place u ≡ Some k
    at (inl up) =
        misfit_from u (Some k) up
        (position_at (λ x. nat_lt (2 ^ 30) x) u 0 k l (above (λ e. rw e up) (cases_lt (2 ^ 30) (get_or u k 0)))
        (λ i q. within _ (before i q).0))
    at (inr z) =
        let first : k ≡ 0 =
        elim (cases_lt 0 k) [ inl q ↦ absurd (let p = (before 0 q).1 refl in omega arith) | inr q ↦ omega arith ] in
        rw first (grind (arith, nat_tests))

-- The lowest negative weight.
weight_at : (u : List ℕ) (k : ℕ) → k < length u → get_or (weights u) k (pos 0) ≡ value u k (top u)
weight_at u k l = get_or-map-range_with_len (λ k. value u k (top u)) 0 (length u) k k (pos 0) l (omega arith)

length-weights : (u : List ℕ) → length (weights u) ≡ length u
length-weights u = length-map-range_with_len (λ k. value u k (top u)) 0 (length u)

negative : (z : ℤ) → z <ℤ pos 0 → is_negative z ≡ true
negative (pos n) h = absurd (omega (arith, ints))
negative (negsuc n) h = refl

nonnegative : (z : ℤ) → pos 0 ≤ℤ z → is_negative z ≡ false
nonnegative (pos n) h = le-ltb n 0 (omega arith)
nonnegative (negsuc n) h = absurd (omega (arith, ints))

negative_none : (u : List ℕ) → 0 < length u → ((k : ℕ) → k ≤ top u → pos 0 ≤ℤ value u k (top u)) → negative_place u ≡ None
negative_none u up h =
    position_none is_negative (weights u) (pos 0)
    (λ i l. let q : i < length u = omega (arith, length-weights u) in rw (weight_at u i q) (nonnegative _ (h i (omega arith))))

negative_at : (u : List ℕ) (k : ℕ) → k < length u → value u k (top u) <ℤ pos 0 → ((i : ℕ) → i < k → pos 0 ≤ℤ value u i (top u))
    → negative_place u ≡ Some k
negative_at u k l h before =
    position_at is_negative (weights u) (pos 0) k (omega (arith, length-weights u)) (rw (weight_at u k l) (negative _ h))
    (λ i q. let p : i < length u = omega arith in rw (weight_at u i p) (nonnegative _ (before i q)))

-- Each refusal is the computed one, and so is an answered row.
pub refused_from : (u : List ℕ) (m : ℕ) (out : List ℕ) (e : Refusal) → Refused u m out e → answer u m (length out) ≡ Err e
refused_from u m out TableLength h = rw (length_unfit u h) refl
refused_from u m out (Coefficient k) h = rw (length_fits u h.0, misfit_at u k h.1 h.2 h.3) refl
refused_from u m out RowAboveTable h = rw (length_fits u h.0.0, misfit_none u h.0, lt-ltb (top u) m h.1) refl
refused_from u m out ShortOutput h =
    rw (length_fits u h.0.0, misfit_none u h.0, le-ltb (top u) m h.1, lt-ltb (length out) (m + 1) h.2) refl
refused_from u m out (Impossible k) h =
    rw
    (length_fits u h.0.0, misfit_none u h.0, le-ltb (top u) m h.1, le-ltb (length out) (m + 1) h.2, negative_at u k (omega arith) h.5 h.6)
    refl

pub answered_from : (u : List ℕ) (m : ℕ) (before after : List ℕ) → Answered u m before after
    → answer u m (length before) ≡ Ok (map pos (take (m + 1) after))
answered_from u m before after (a, le, fits, events, front, rest) =
    rw
    (length_fits u a.0, misfit_none u a, le-ltb (top u) m le, le-ltb (length before) (m + 1) fits, negative_none u (omega arith) nonneg)
    (ap Ok (sym front))
  where
    nonneg : (k : ℕ) → k ≤ top u → pos 0 ≤ℤ value u k (top u)
    nonneg k l = let e = events_nonneg u events k l in omega (arith, ints)
