-- Numbers written in bytes, the first the most significant.
use Rattle.std.proofs.Common.{◌≡◌, ℕ, zero, suc, ◌+◌, ◌*◌, ◌/◌, ◌%◌, ◌^◌, ◌<◌, List, [], ◌∷◌, length, get_or, sym, refl, ap, ◌∙◌, ap₂, add-zero, add_assoc, mod-eq_of_lt, mul_assoc, add-mul, zero-add, mul-one, arith, lit<, w8, Fits}
use native.Mathlib.Nat.{pow-succ', mod-one, one-le-pow}
use lib.Arith.{mod-mul}
use Rattle.std.specs.Int.Digits.{number_from_digits, number_from_digits_after, AllBelowBase}
use Rattle.std.proofs.lemmas.List.Elements.{All-from_get_or, recursion_from_All}

-- What is read from a slice of bytes fits them.
pub octets : (bytes : List ℕ) → ((i : ℕ) → Fits w8 (get_or bytes i 0)) → AllBelowBase 256 bytes
octets bytes small = recursion_from_All (λ d. d < 256) bytes (All-from_get_or (λ d. d < 256) bytes 0 (λ i _. omega (arith, small i)))

-- The k lowest bytes of a number.
abbrev pub bytes_of : ℕ → ℕ → List ℕ
bytes_of zero n = []
bytes_of (suc k) n = n / 256 ^ k % 256 ∷ bytes_of k n

number_after : (k a n : ℕ) → number_from_digits_after 256 a (bytes_of k n) ≡ a * 256 ^ k + n % 256 ^ k
number_after zero a n = sym (ap₂ ◌+◌ (mul-one a) (mod-one n) ∙ add-zero a)
number_after (suc k) a n =
    number_after k (a * 256 + n / 256 ^ k % 256) n
    ∙ ap (λ x. x + n % 256 ^ k) (add-mul (a * 256) (n / 256 ^ k % 256) (256 ^ k))
    ∙ add_assoc _ _ _
    ∙ ap₂ ◌+◌ (mul_assoc a 256 (256 ^ k) ∙ ap (λ x. a * x) (sym (pow-succ' 256 k)))
    (sym (ap (λ x. n % x) (pow-succ' 256 k) ∙ mod-mul n (lit< tt) (one-le-pow k 256 (lit< tt))))

-- 16 bytes write every number of 128 bits.
pub number_bytes : (n : ℕ) → n < 2 ^ 128 → number_from_digits 256 (bytes_of 16 n) ≡ n
number_bytes n h = number_after 16 0 n ∙ zero-add (n % 256 ^ 16) ∙ mod-eq_of_lt h

-- Bytes are told by their number and their count.
same_after : (a b : ℕ) (xs ys : List ℕ) → length xs ≡ length ys → AllBelowBase 256 xs → AllBelowBase 256 ys
    → number_from_digits_after 256 a xs ≡ number_from_digits_after 256 b ys → (a ≡ b) × (xs ≡ ys)
same_after a b [] [] long us vs e = (e, refl)
same_after a b [] (y ∷ ys) long us vs e = absurd (omega arith)
same_after a b (x ∷ xs) [] long us vs e = absurd (omega arith)
same_after a b (x ∷ xs) (y ∷ ys) long us vs e =
    let rest = same_after (a * 256 + x) (b * 256 + y) xs ys (omega arith) us.1 vs.1 e in
    let top : a ≡ b = omega arith in
    let head : x ≡ y = omega arith in
    (top, ap₂ ◌∷◌ head rest.1)

pub same_bytes : (xs ys : List ℕ) → length xs ≡ length ys → AllBelowBase 256 xs → AllBelowBase 256 ys → number_from_digits 256 xs ≡ number_from_digits 256 ys → xs ≡ ys
same_bytes xs ys long us vs e = (same_after 0 0 xs ys long us vs e).1
