-- Binomial coefficients: how large they are, and in the form that the summands of an alternating sum need.
use Rattle.std.proofs.Common.{◌≡◌, ℕ, zero, suc, ◌+◌, ◌^◌, ◌<◌, ◌≤◌, sym, refl, ◌∙◌, subst, le_trans, le_of_suc-le-suc, not-suc-le-zero, add-suc, suc-add, pow-suc, pow_mono, pow_pos, zero-add, arith}
use Rattle.algebra.specs.Binomial.{choose}

-- The coefficients: ways (suc k) t is the binomial C(k+t, t), and ways 0 t is one at t = 0 and zero after it.
abbrev pub ways : ℕ → ℕ → ℕ
ways j zero = 1
ways zero (suc t) = 0
ways (suc j) (suc t) = ways j (suc t) + ways (suc j) t

pub choose_beyond : (n k : ℕ) → n < k → choose n k ≡ 0
choose_beyond n zero h = absurd (not-suc-le-zero h)
choose_beyond zero (suc k) h = refl
choose_beyond (suc n) (suc k) h = omega (arith, choose_beyond n k (omega arith), choose_beyond n (suc k) (omega arith))

pub ways_choose : (k t : ℕ) → ways (suc k) t ≡ choose (k + t) t
ways_choose k zero = refl
ways_choose zero (suc t) =
    let e : ways 1 t ≡ choose t t = subst (λ n. ways 1 t ≡ choose n t) (zero-add t) (ways_choose 0 t) in
    let f : choose t (suc t) ≡ 0 = choose_beyond t (suc t) (omega arith) in
    let g : ways 1 (suc t) ≡ choose (suc t) (suc t) = omega arith in
    subst (λ n. ways 1 (suc t) ≡ choose n (suc t)) (sym (zero-add (suc t))) g
ways_choose (suc k) (suc t) =
    let left : ways (suc k) (suc t) ≡ choose (suc k + t) (suc t) = subst (λ n. ways (suc k) (suc t) ≡ choose n (suc t)) (add-suc k t ∙ sym (suc-add k t)) (ways_choose k (suc t)) in
    let right : ways (suc (suc k)) t ≡ choose (suc k + t) t = ways_choose (suc k) t in
    let both : ways (suc (suc k)) (suc t) ≡ choose (suc (suc k + t)) (suc t) = omega arith in
    subst (λ n. ways (suc (suc k)) (suc t) ≡ choose n (suc t)) (sym (add-suc (suc k) t)) both

-- C(n, k) is at most 2^(n − 1), where n is not 0.
choose_half : (n k : ℕ) → choose (suc n) k ≤ 2 ^ n
choose_half n zero = omega (arith, pow_pos n)
choose_half zero (suc zero) = omega arith
choose_half zero (suc (suc k)) = omega arith
choose_half (suc n) (suc k) = rw (pow-suc 2 n) (omega (arith, choose_half n k, choose_half n (suc k)))

pub choose_fits : (m n k : ℕ) → n ≤ suc m → choose n k ≤ 2 ^ m
choose_fits m zero zero h = omega (arith, pow_pos m)
choose_fits m zero (suc k) h = omega arith
choose_fits m (suc n) k h = le_trans (choose_half n k) (pow_mono (le_of_suc-le-suc h))
