-- Sums with binomial coefficients, by Pascal's rule.
use Rattle.std.proofs.Common.{◌≡◌, ℕ, zero, suc, ◌+◌, ◌*◌, ℤ, pos, negsuc, ◌+ℤ◌, ◌*ℤ◌, neg_ℤ, sym, refl, ap, ◌∙◌, add-mul, mul-zero, arith}
use mathlib.Core.Path.{fun_ext}
use lib.IntN.{+ℤ_idr, neg_ℤ-neg_ℤ, neg_ℤ-+ℤ, zero-*ℤ}
use Rattle.std.proofs.lemmas.Int.{ints}
use Rattle.algebra.specs.Binomial.{choose}
use Rattle.algebra.specs.Waring.{sum_to}
use Rattle.algebra.proofs.Binomial.{choose_beyond}
use Rattle.exchangeable.specs.Events.{integers}

pos_add_mul : (a b : ℕ) (x : ℤ) → pos (a + b) *ℤ x ≡ pos a *ℤ x +ℤ pos b *ℤ x
pos_add_mul a b (pos n) = ap pos (add-mul a b n)
pos_add_mul a b (negsuc n) =
    ap (λ z. neg_ℤ (pos z)) (add-mul a b (suc n)) ∙ neg_ℤ-+ℤ (pos (a * suc n)) (pos (b * suc n))

pos_mul_neg : (a : ℕ) (x : ℤ) → pos a *ℤ neg_ℤ x ≡ neg_ℤ (pos a *ℤ x)
pos_mul_neg a (pos zero) = rw mul-zero
pos_mul_neg a (pos (suc n)) = refl
pos_mul_neg a (negsuc n) = sym (neg_ℤ-neg_ℤ (pos (a * suc n)))

sum_neg : (m : ℕ) (f : ℕ → ℤ) → sum_to integers m (λ j. neg_ℤ (f j)) ≡ neg_ℤ (sum_to integers m f)
sum_neg zero f = refl
sum_neg (suc m) f = ap (λ z. z +ℤ neg_ℤ (f (suc m))) (sum_neg m f) ∙ sym (neg_ℤ-+ℤ (sum_to integers m f) (f (suc m)))

-- The first n + 1 terms of the sum with the coefficients of t.
abbrev part : ℕ → ℕ → (ℕ → ℤ) → ℤ
part t n g = sum_to integers n (λ j. pos (choose t j) *ℤ g j)

regroup_first : (a b c x : ℤ) → x ≡ b +ℤ c → a +ℤ x ≡ (a +ℤ c) +ℤ b
regroup_first a b c x e = omega (arith, ints)

regroup : (p q r b c x : ℤ) → p ≡ q +ℤ r → x ≡ b +ℤ c → p +ℤ x ≡ (q +ℤ c) +ℤ (r +ℤ b)
regroup p q r b c x e h = omega (arith, ints)

part_more : (t n : ℕ) (g : ℕ → ℤ) → part (suc t) (suc n) g ≡ part t (suc n) g +ℤ part t n (λ j. g (suc j))
part_more t zero g = regroup_first _ _ _ _ (pos_add_mul (choose t 0) (choose t 1) (g 1))
part_more t (suc n) g =
    regroup _ (part t (suc n) g) (part t n (λ j. g (suc j))) (pos (choose t (suc n)) *ℤ g (suc (suc n)))
    (pos (choose t (suc (suc n))) *ℤ g (suc (suc n))) _ (part_more t n g) (pos_add_mul (choose t (suc n)) (choose t (suc (suc n))) (g (suc (suc n))))

-- The sum with all coefficients of t.
abbrev pub bin : ℕ → (ℕ → ℤ) → ℤ
bin t g = part t t g

pub bin_more : (t : ℕ) (g : ℕ → ℤ) → bin (suc t) g ≡ bin t g +ℤ bin t (λ j. g (suc j))
bin_more t g =
    let e : pos (choose t (suc t)) *ℤ g (suc t) ≡ pos 0 =
    ap (λ c. pos c *ℤ g (suc t)) (choose_beyond t (suc t) (omega arith)) ∙ zero-*ℤ (g (suc t)) in
    part_more t t g ∙ ap (λ z. z +ℤ part t t (λ j. g (suc j))) (ap (λ z. part t t g +ℤ z) e ∙ +ℤ_idr (part t t g))

pub bin_ext : (t : ℕ) (g h : ℕ → ℤ) → ((j : ℕ) → g j ≡ h j) → bin t g ≡ bin t h
bin_ext t g h e = ap (bin t) (fun_ext e)

pub bin_neg : (t : ℕ) (g : ℕ → ℤ) → bin t (λ j. neg_ℤ (g j)) ≡ neg_ℤ (bin t g)
bin_neg t g =
    ap (sum_to integers t) (fun_ext (λ j. pos_mul_neg (choose t j) (g j))) ∙ sum_neg t (λ j. pos (choose t j) *ℤ g j)
