-- The alternating sums as the questions compute them.
use Rattle.std.proofs.Common.{◌≡◌, ℕ, zero, suc, ◌+◌, ◌%◌, List, [], ◌∷◌, length, sym, refl, ap, ◌∙◌, ap₂, add-one, arith}
use Rattle.std.proofs.lemmas.List.{nil_from_length}
use Rattle.algebra.specs.Ring.{Ops, Laws}
use Rattle.algebra.specs.Sums.{multiple, elementary}
use Rattle.algebra.specs.Waring.{signed}
use Rattle.algebra.proofs.Solver.{ring, made}
use Rattle.algebra.proofs.Binomial.{ways}
use Rattle.algebra.proofs.Elementary.{multiple_as_product, elementary_zero}
use Rattle.algebra.proofs.Waring.{entry, horner, horner_more, summand, signed_linear, signed_twice, entry_horner}

module _ {F : Type 0} {o : Ops F} (L : Laws o) where
  twice : (x : F) → x ≡ o.minus (o.minus x)
  twice x = ring L (x ∷ []) (search made depth 40 fits 100000) tt

  pub signed_even : (t : ℕ) (x : F) → t % 2 ≡ 0 → x ≡ signed o t x
  signed_even zero x h = refl
  signed_even (suc zero) x h = absurd (omega arith)
  signed_even (suc (suc t)) x h = signed_even t x (omega arith) ∙ twice (signed o t x)

  pub signed_odd : (t : ℕ) (x : F) → t % 2 ≡ 1 → o.minus x ≡ signed o t x
  signed_odd zero x h = absurd (omega arith)
  signed_odd (suc zero) x h = refl
  signed_odd (suc (suc t)) x h = signed_odd t x (omega arith) ∙ twice (signed o t x)

  at_minus : (sum d x : F) → o.plus (o.times sum (o.minus d)) x ≡ o.plus x (o.times d (o.minus sum))
  at_minus sum d x = ring L (sum ∷ d ∷ x ∷ []) (search made depth 40 fits 100000) tt

  -- One summand more: the coefficient c, the kept sum b, and what the loop makes of them. Up to summand t the sum at −d has the
  -- sign of t − 1.
  pub alternating_more : (d : F) (ps : List F) (j k t c : ℕ) (sum whole minus one m b next : F)
      → o.minus sum ≡ signed o t (horner o d (summand o ps j k) t) → whole ≡ d → minus ≡ o.minus whole → c ≡ ways j t → one ≡ o.one → m ≡ multiple o c one
      → b ≡ elementary o (k + t) ps → next ≡ o.plus (o.times sum minus) (o.times m b)
      → o.minus next ≡ signed o (t + 1) (horner o d (summand o ps j k) (t + 1))
  alternating_more d ps j k t c sum whole minus one m b next so_far is-d is-minus is_c is-one is_m is_b is-next =
      let h : F = horner o d (summand o ps j k) t in
      let x : F = multiple o (ways j t) (elementary o (k + t) ps) in
      let term : o.times m b ≡ x = ap₂ o.times (is_m ∙ ap₂ (multiple o) is_c is-one) is_b ∙ multiple_as_product L (ways j t) (elementary o (k + t) ps) in
      let made : next ≡ o.plus (o.times sum (o.minus d)) x = is-next ∙ ap₂ o.plus (ap (o.times sum) (is-minus ∙ ap o.minus is-d)) term in
      let grown : signed o t (o.plus (o.times h d) (signed o t x)) ≡ o.plus x (o.times d (o.minus sum)) =
      ap (signed o t) (L.plus_comm _ _ ∙ ap (o.plus (signed o t x)) (L.times_comm h d)) ∙ signed_linear L t (signed o t x) d h
      ∙ ap₂ (λ u v. o.plus u (o.times d v)) (signed_twice L t x) (sym so_far) in
      ap o.minus (made ∙ at_minus sum d x ∙ sym grown)
      ∙ ap (signed o (suc t)) (sym (horner_more o d (summand o ps j k) t)) ∙ ap (λ i. signed o i (horner o d (summand o ps j k) (t + 1))) (sym (add-one t))

  -- Nothing yet, and at the end.
  pub alternating_none : (sum : F) → sum ≡ o.zero → o.minus sum ≡ o.zero
  alternating_none sum e = ap o.minus e ∙ ring L [] (search made depth 40 fits 100000) tt

  pub alternating_all : (h : ℕ → F) (m t : ℕ) (sum : F) → t ≡ m + 1 → o.minus sum ≡ signed o t (h t) → signed o m sum ≡ h (m + 1)
  alternating_all h m t sum end e =
      let all : o.minus sum ≡ o.minus (signed o m (h (m + 1))) = e ∙ ap (λ i. signed o i (h i)) end ∙ ap (λ i. signed o i (h (m + 1))) (add-one m) in
      ap (signed o m) (twice sum ∙ ap o.minus all ∙ sym (twice (signed o m (h (m + 1))))) ∙ signed_twice L m (h (m + 1))

  pub alternating_entry : (d : F) (ps : List F) (j k m : ℕ) → k + m ≡ length ps → horner o d (summand o ps j k) (m + 1) ≡ entry o d ps j k
  alternating_entry d ps j k m e = ap (horner o d (summand o ps j k)) (add-one m) ∙ sym (entry_horner L d ps j k m e)

  -- Nobody on the list: nobody alive is certain.
  pub entry_nobody : (d : F) (ps : List F) (j k : ℕ) → length ps ≡ 0 → k ≡ 0 → o.one ≡ entry o d ps j k
  entry_nobody d ps j k none e =
      let nil : ps ≡ [] = nil_from_length ps none in
      let one : o.one ≡ entry o d [] j 0 = ring L (d ∷ []) (search made depth 40 fits 100000) tt ∙ ap (λ x. o.plus (o.times o.zero d) (o.plus x o.zero)) (sym (elementary_zero L [])) in
      rw (nil, e) one
