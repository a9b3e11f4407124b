-- The row, worked in floats: one life after the other, and nothing is lost.
use Rattle.std.proofs.Common.{◌≡◌, ℕ, ◌+◌, ◌-◌, ◌*◌, ◌^◌, ◌<◌, ◌≤◌, pos, false, nat_lt, nat_eq, ◌||◌, None, Ok, inl, inr, List, [], ◌∷◌, map, length, get_or, take, refl, sym, ap, ◌∙◌, ap₂, subst, arith, le_trans, length-take}
use Rattle.std.specs.List.{AllByRecursion, position_or_len}
use Rattle.std.specs.Float.{Float, binary64, float_zero}
use lib.Ieee.{of_int}
use Rattle.std.proofs.lemmas.Bool.{cases_lt, le-ltb, ltb-false, ne_eqb}
use Rattle.std.proofs.lemmas.Grind.{common_steps}
use Rattle.std.proofs.lemmas.List.{get_or_past, get_or-map, get_or-take, length-map, take_at}
use Rattle.std.proofs.lemmas.List.FromFn.{get_or-map-range_with_len, length-map-range_with_len}
use Rattle.std.proofs.lemmas.List.Sums.{fails_before_first}
use native.Mathlib.Nat.{pow-le-pow_right}
use Rattle.algebra.specs.Patterns.{Life, naturals, natural_life, natural_lives, exactly}
use Rattle.algebra.proofs.Each.{each_counting, each_taken}
use Rattle.algebra.specs.Rows.{row}
use Rattle.algebra.proofs.Composition.{compose}
use Rattle.algebra.proofs.Fronts.{length_row, row_more}
use Rattle.algebra.proofs.Patterns.{exactly_beyond}
use Rattle.algebra.proofs.Naturals.{exactly_within}
use Rattle.algebra.proofs.Semiring.{naturals_laws}
use Rattle.counts.specs.Answer.{Admitted, Exact, above, answer, most, worked}
use Rattle.counts.specs.Floats.{IsExactly, float, floats}
use Rattle.counts.proofs.Floats.{float_value, sum_exact, product_exact, cast_exact, float_zero_is}

-- One pass over floats that are whole numbers: where what it gives is at most 2^53, each product is, and each sum.
pub compose_exact : (a b below : ℕ) (xs : List ℕ) → AllByRecursion (λ n. n ≤ most) (compose naturals (record { alive = a; dead = b }) below xs)
    → compose floats (record { alive = float a; dead = float b }) (float below) (map float xs) ≡ map float (compose naturals (record { alive = a; dead = b }) below xs)
compose_exact a b below [] h = refl
compose_exact a b below (x ∷ xs) h =
    ap₂ ◌∷◌
    (ap₂ floats.plus (product_exact a below (omega (arith, h.0))) (product_exact b x (omega (arith, h.0))) ∙ sum_exact (a * below) (b * x) h.0)
    (compose_exact a b x xs h.1)

-- The entries of a row are at most 2^53, where the power for its lives is.
pub row_within : (d size : ℕ) (ps : List ℕ) → AllByRecursion (λ p. p ≤ d) ps → d ^ length ps ≤ most → AllByRecursion (λ n. n ≤ most) (row naturals size (natural_lives d ps))
row_within d size ps h small = each_counting (λ n. n ≤ most) (λ k. exactly naturals k (natural_lives d ps)) (λ k. omega (arith, exactly_within d ps k h)) 0 size

-- No life above d: each is at most d.
pub none_above : (d : ℕ) (ps : List ℕ) → above d ps ≡ None → (i : ℕ) → i < length ps → get_or ps i 0 ≤ d
none_above d ps none i h =
    let past : length ps ≤ position_or_len (nat_lt d) ps = grind (arith, common_steps) in
    ltb-false d (get_or ps i 0) (fails_before_first (nat_lt d) ps i 0 (omega arith))

module _ (d : ℕ) (ps : List ℕ) (none : above d ps ≡ None) where
  -- A life more loses nothing: no entry on the way is above the power for all of them.
  pub pass_exact : (i : ℕ) → 0 < d → d ≤ most → d ^ length ps ≤ most → i < length ps
      → (alive dead : Float) → alive ≡ of_int binary64 (pos (get_or ps i 0)) → dead ≡ of_int binary64 (pos (d - get_or ps i 0))
      → compose floats (record { alive = alive; dead = dead }) float_zero (map float (row naturals (i + 1 + 1) (natural_lives d (take i ps))))
      ≡ map float (compose naturals (natural_life d (get_or ps i 0)) 0 (row naturals (i + 1 + 1) (natural_lives d (take i ps))))
  pass_exact i some few small inside alive dead is-alive is-dead =
      let p = get_or ps i 0 in
      let ls = natural_lives d (take i ps) in
      let fewer = take (i + 1) ps in
      let fits : d ^ length fewer ≤ most = le_trans (pow-le-pow_right some {i = length fewer} {j = length ps} (omega (arith, length-take (i + 1) ps))) small in
      let bounded = row_within d (i + 1 + 1) fewer (each_taken (λ p. p ≤ d) ps 0 (none_above d ps none) (i + 1)) fits in
      let entries = subst (AllByRecursion (λ n. n ≤ most)) (sym (row_more naturals_laws (natural_life d) ps i (i + 1 + 1) 0 (natural_life d p) inside refl)) bounded in
      let le : p ≤ d = none_above d ps none i inside in
      ap₂ (λ a b. compose floats (record { alive = a; dead = b }) float_zero (map float (row naturals (i + 1 + 1) ls)))
      (is-alive ∙ cast_exact p (omega arith)) (is-dead ∙ cast_exact (d - p) (omega arith))
      ∙ ap (λ z. compose floats (record { alive = float p; dead = float (d - p) }) z (map float (row naturals (i + 1 + 1) ls))) float_zero_is
      ∙ compose_exact p (d - p) 0 (row naturals (i + 1 + 1) ls) entries

-- The entry that is asked for: past the row's end no pattern has so many alive.
entry_asked : (ls : List (Life ℕ)) (n k : ℕ) → length ls ≡ n → get_or (map float (row naturals (n + 1) ls)) k (float 0) ≡ float (exactly naturals k ls)
entry_asked ls n k len = elim (cases_lt k (n + 1)) [
  | inl within ↦ get_or-map float (row naturals (n + 1) ls) k 0 (float 0) (omega (arith, within, length-map-range_with_len (λ j. exactly naturals j ls) 0 (n + 1))) ∙ ap float (get_or-map-range_with_len (λ j. exactly naturals j ls) 0 (n + 1) k k 0 within (omega arith))
  | inr past ↦ get_or_past (map float (row naturals (n + 1) ls)) k (float 0) (omega (arith, past, length_row float (λ j. exactly naturals j ls) (n + 1))) ∙ ap float (sym (exactly_beyond naturals_laws k ls (omega (arith, past, len))))
]

-- What a granted call is answered, from what the loop left.
module _ (ps : List ℕ) (d k : ℕ) (before after : List Float) (x y : Float) (few : Admitted ps d) (power : (d ^ length ps ≤ most) × (y ≡ float (d ^ length ps))) (asked : k ≤ 64) (room : length ps < length before)
    (is : after ≡ worked ps d before) (read : x ≡ get_or (take (length ps + 1) after) k (float 0)) where
  abbrev ls : List (Life ℕ)
  ls = natural_lives d ps

  inside : (nat_eq d 0 || nat_lt 1000000000 d) ≡ false
  inside = ap₂ ◌||◌ (ne_eqb d 0 (omega (arith, few.1))) (le-ltb 1000000000 d few.2)

  front : take (length ps + 1) after ≡ map float (row naturals (length ps + 1) ls)
  front = ap (take (length ps + 1)) is ∙ take_at (map float (row naturals (length ps + 1) ls)) _ (length ps + 1) (length_row float (λ j. exactly naturals j ls) (length ps + 1))

  entry : (j : ℕ) → get_or (take (length ps + 1) after) j (float 0) ≡ float (exactly naturals j ls)
  entry j = ap (λ t. get_or t j (float 0)) front ∙ entry_asked ls (length ps) j (length-map ps (natural_life d))

  answered_from : answer ps d k before ≡ Ok (record { count = x; denominator = y }, after)
  answered_from =
      rw (le-ltb 64 (length ps) few.0, inside, few.3, le-ltb most (d ^ length ps) power.0, le-ltb 64 k asked, le-ltb (length before) (length ps + 1) (omega arith))
      (ap Ok (ap₂ (λ c t. (c, t)) (ap₂ (λ u v. record { count = u; denominator = v }) (sym (read ∙ entry k)) (sym power.1)) (sym is)))

  exact_from : Exact ps d k (record { count = x; denominator = y }) after
  exact_from = (
    subst (IsExactly (exactly naturals k ls)) (sym (read ∙ entry k)) (float_value (exactly naturals k ls)),
    subst (IsExactly (d ^ length ps)) (sym power.1) (float_value (d ^ length ps)),
    λ j h. subst (IsExactly (exactly naturals j ls)) (sym (sym (get_or-take (length ps + 1) after j float_zero (omega arith)) ∙ ap (get_or (take (length ps + 1) after) j) float_zero_is ∙ entry j)) (float_value (exactly naturals j ls)),
  )

  pub granted : (answer ps d k before ≡ Ok (record { count = x; denominator = y }, after)) × Exact ps d k (record { count = x; denominator = y }) after
  granted = (answered_from, exact_from)
