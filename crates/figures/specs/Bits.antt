-- A proof, nothing to believe: the laws of scenarios, of which exclusive or under `and` goes bit by bit.
use Rattle.std.specs.Prelude.{◌≡◌, ℕ, zero, suc, ◌+◌, ◌*◌, ◌/◌, ◌%◌, ◌<◌, bit_and, bit_xor, refl}
use Rattle.std.proofs.Common.{sym, ap, ap₂, ◌∙◌, div-add-mod', mod-lt, mod-eq_of_lt, not-suc-le-zero, le_of_suc-le-suc, lit<}
use Rattle.std.proofs.Math.Arith.{bin_ind}
use Rattle.std.proofs.lemmas.Nat.{and_assoc, and_comm, and_mask, and_shr, and_mod, xor_comm, xor_shr, xor_mod}
use Rattle.std.specs.Int.Bits.{xor_assoc, xor_self, xor_zero_r}
use Rattle.algebra.specs.Ring.{Laws}
use Rattle.figures.specs.ScenarioBits.{ops}
use Rattle.figures.specs.Same.{same_scenarios}

-- Equal halves and equal last bits.
by_digits : {a b : ℕ} → a / 2 ≡ b / 2 → a % 2 ≡ b % 2 → a ≡ b
by_digits {a} {b} hi lo = sym (div-add-mod' a 2) ∙ ap₂ (λ x y. x * 2 + y) hi lo ∙ div-add-mod' b 2

no_bit : {A : Type 0} {x : ℕ} → suc (suc x) < 2 → A
no_bit h = absurd (not-suc-le-zero (le_of_suc-le-suc (le_of_suc-le-suc h)))

bit : (n : ℕ) → n % 2 < 2
bit n = mod-lt n (lit< tt)

bit_and_xor : (x y z : ℕ) → x < 2 → y < 2 → z < 2 → bit_and x (bit_xor y z) ≡ bit_xor (bit_and x y) (bit_and x z)
bit_and_xor zero y z hx hy hz = refl
bit_and_xor (suc zero) zero zero hx hy hz = refl
bit_and_xor (suc zero) zero (suc zero) hx hy hz = refl
bit_and_xor (suc zero) zero (suc (suc z)) hx hy hz = no_bit hz
bit_and_xor (suc zero) (suc zero) zero hx hy hz = refl
bit_and_xor (suc zero) (suc zero) (suc zero) hx hy hz = refl
bit_and_xor (suc zero) (suc zero) (suc (suc z)) hx hy hz = no_bit hz
bit_and_xor (suc zero) (suc (suc y)) z hx hy hz = no_bit hy
bit_and_xor (suc (suc x)) y z hx hy hz = no_bit hx

and_xor : (a b c : ℕ) → bit_and a (bit_xor b c) ≡ bit_xor (bit_and a b) (bit_and a c)
and_xor =
    bin_ind (λ (n : ℕ). (b c : ℕ) → bit_and n (bit_xor b c) ≡ bit_xor (bit_and n b) (bit_and n c)) (λ b c. refl)
    (λ n ih b c. by_digits
    (and_shr n (bit_xor b c) 1 ∙ ap (bit_and (n / 2)) (xor_shr b c 1) ∙ ih (b / 2) (c / 2)
    ∙ sym (xor_shr (bit_and n b) (bit_and n c) 1 ∙ ap₂ bit_xor (and_shr n b 1) (and_shr n c 1)))
    (and_mod n (bit_xor b c) 1 ∙ ap (bit_and (n % 2)) (xor_mod b c 1)
    ∙ bit_and_xor (n % 2) (b % 2) (c % 2) (bit n) (bit b) (bit c)
    ∙ sym (xor_mod (bit_and n b) (bit_and n c) 1 ∙ ap₂ bit_xor (and_mod n b 1) (and_mod n c 1))))

pub scenario_laws : Laws ops
scenario_laws = record {
  plus_comm = λ x y. same_scenarios _ _ (xor_comm x.bits y.bits);
  plus_assoc = λ x y z. same_scenarios _ _ (xor_assoc x.bits y.bits z.bits);
  plus_zero = λ x. same_scenarios _ _ (xor_zero_r x.bits);
  plus_minus = λ x. same_scenarios _ _ (xor_self x.bits);
  times_comm = λ x y. same_scenarios _ _ (and_comm x.bits y.bits);
  times_assoc = λ x y z. same_scenarios _ _ (and_assoc z.bits x.bits y.bits);
  times_one = λ x. same_scenarios _ _ (and_mask x.bits 64 ∙ mod-eq_of_lt x.fits);
  times_plus = λ x y z. same_scenarios _ _ (and_xor x.bits y.bits z.bits);
}
