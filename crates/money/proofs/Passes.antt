-- One pass over a row, in place.
use Rattle.std.proofs.Common.{◌≡◌, ℕ, ◌+◌, ◌-◌, ◌*◌, ◌/◌, ◌%◌, ◌<◌, ◌≤◌, List, [], ◌∷◌, ◌++◌, length, get_or, take, drop, set, sym, ap, ◌∙◌, add-zero, arith}
use Rattle.std.proofs.lemmas.Grind.{drop_more_same}
use Rattle.std.proofs.lemmas.Nat.{mul-le}
use Rattle.std.proofs.lemmas.List.{append_assoc, drop_more, drop-set-lt, get_or-drop, take_more_set}
use Rattle.money.specs.Money.{pass, whole}

-- The two products fit, where the factors are a life and what it lacks of D.
pub products_fit : (p b x : ℕ) → p ≤ whole → b ≤ whole → x ≤ whole → p * b + (whole - p) * x ≤ 1000000000000000000
products_fit p b x h hb hx =
    omega (arith, mul-le p b p whole (omega arith) hb, mul-le (whole - p) x (whole - p) whole (omega arith) hx)

module _ (p : ℕ) (row entry : List ℕ) (i b c : ℕ) (l : i < length row) (same : drop i row ≡ drop i entry) where
  -- What the pass reads is what was there.
  read_same : get_or row i 0 ≡ get_or entry i 0
  read_same = simp (get_or-drop, add-zero) at (ap (λ zs. get_or zs 0 0) same)

  rest_same : drop (i + 1) row ≡ drop (i + 1) entry
  rest_same = drop_more_same row entry i same

  pub rest_more : (v : ℕ) → drop (i + 1) (set row i v) ≡ drop (i + 1) entry
  rest_more v = drop-set-lt (i + 1) row i v (omega arith) ∙ rest_same

  pub done_more : (x t : ℕ) → x ≡ get_or row i 0 → t ≡ p * b + (whole - p) * x + c
      → take i row ++ pass p b c (drop i entry) ≡ pass p 0 0 entry
      → take (i + 1) (set row i (t / whole)) ++ pass p x (t % whole) (drop (i + 1) entry) ≡ pass p 0 0 entry
  done_more x t ex et done =
      ap (λ zs. zs ++ pass p x (t % whole) (drop (i + 1) entry)) (take_more_set row i (t / whole) l)
      ∙ append_assoc (take i row) (t / whole ∷ []) (pass p x (t % whole) (drop (i + 1) entry))
      ∙ ap (λ zs. take i row ++ (t / whole ∷ pass p x (t % whole) zs)) (sym rest_same)
      ∙ ap (λ s. take i row ++ (s / whole ∷ pass p x (s % whole) (drop (i + 1) row))) et
      ∙ ap (λ y. take i row ++ pass p b c (y ∷ drop (i + 1) row)) ex
      ∙ ap (λ zs. take i row ++ pass p b c zs) (sym (drop_more row i 0 l) ∙ same)
      ∙ done

-- What a turn reads is at most D, as every old entry is.
pub read_small : (row entry : List ℕ) (i : ℕ) → i < length row → drop i row ≡ drop i entry
    → ((k : ℕ) → get_or entry k 0 ≤ whole) → get_or row i 0 ≤ whole
read_small row entry i l same small = omega (arith, read_same 0 row entry i 0 0 l same, small i)

-- What a turn of the pass needs.
pub ruleset turns = (products_fit, read_small, rest_more, done_more)
