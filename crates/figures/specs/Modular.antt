-- A proof, nothing to believe: the laws and multiples of arithmetic modulo m, once for every modulus and every type that
-- holds such numbers; and that words and residues are of this sort.
use Rattle.std.specs.Prelude.{◌≡◌, ℕ, zero, suc, ◌+◌, ◌-◌, ◌*◌, ◌%◌, ◌^◌, ◌<◌, refl}
use Rattle.std.proofs.Common.{sym, ap, ap₂, ◌∙◌, add_comm, add_assoc, add-zero, mul_comm, mul_assoc, mul-add, mod-eq_of_lt, mul-one, arith}
use Rattle.std.proofs.lemmas.Nat.{mul-mod_second}
use Rattle.std.proofs.Math.Nat.{mod_self, mod-add-mod, add-mod-mod, suc-mul, zero-mul, zero-mod}
use Rattle.algebra.specs.Ring.{Ops, Laws}
use Rattle.algebra.specs.Sums.{multiple}
use Rattle.figures.specs.Words as words
use Rattle.figures.specs.Residues as residues
use Rattle.figures.specs.Residues.{modulus}
use Rattle.figures.specs.Same.{same_word, same_residue}

-- What makes `o` the arithmetic modulo m: a figure is told by its number, which lies below m, and the operations work on the numbers.
pub record Modular {F : Type 0} (m : ℕ) (number : F → ℕ) (o : Ops F) : Type 0 where
  pub same : (x y : F) → number x ≡ number y → x ≡ y
  pub below : (x : F) → number x < m
  pub zero_is : number o.zero ≡ 0
  pub one_is : number o.one ≡ 1
  pub plus_is : (x y : F) → number (o.plus x y) ≡ (number x + number y) % m
  pub minus_is : (x : F) → number (o.minus x) ≡ (m - number x) % m
  pub times_is : (x y : F) → number (o.times x y) ≡ (number x * number y) % m

module _ {F : Type 0} (m : ℕ) (number : F → ℕ) (o : Ops F) (M : Modular m number o) where
  plus_mod : (x y z : F) → number (o.plus (o.plus x y) z) ≡ (number x + number y + number z) % m
  plus_mod x y z = M.plus_is _ _ ∙ ap (λ n. (n + number z) % m) (M.plus_is x y) ∙ mod-add-mod (number x + number y) m (number z)

  times_mod : (x y z : F) → number (o.times x (o.times y z)) ≡ number x * (number y * number z) % m
  times_mod x y z = M.times_is _ _ ∙ ap (λ n. number x * n % m) (M.times_is y z) ∙ mul-mod_second (number x) (number y * number z) m

  -- A multiple is one product of numbers.
  pub multiple_mod : (c : ℕ) (x : F) → number (multiple o c x) ≡ c * number x % m
  multiple_mod zero x = M.zero_is ∙ sym (ap (λ n. n % m) (zero-mul (number x)) ∙ zero-mod m)
  multiple_mod (suc c) x =
      M.plus_is x (multiple o c x) ∙ ap (λ n. (number x + n) % m) (multiple_mod c x) ∙ add-mod-mod (number x) (c * number x) m
      ∙ ap (λ n. n % m) (add_comm (number x) (c * number x) ∙ sym (suc-mul c (number x)))

  pub modular_laws : Laws o
  modular_laws = record {
    plus_comm = λ x y. M.same _ _ (M.plus_is x y ∙ ap (λ n. n % m) (add_comm _ _) ∙ sym (M.plus_is y x));
    plus_assoc = λ x y z. M.same _ _ (plus_mod x y z ∙ ap (λ n. n % m) (add_assoc _ _ _) ∙ sym (add-mod-mod (number x) (number y + number z) m)
        ∙ ap (λ n. (number x + n) % m) (sym (M.plus_is y z)) ∙ sym (M.plus_is x (o.plus y z)));
    plus_zero = λ x. M.same _ _ (M.plus_is x o.zero ∙ ap (λ n. (number x + n) % m) M.zero_is ∙ ap (λ n. n % m) (add-zero _) ∙ mod-eq_of_lt (M.below x));
    plus_minus = λ x. M.same _ _ (M.plus_is x (o.minus x) ∙ ap (λ n. (number x + n) % m) (M.minus_is x) ∙ add-mod-mod (number x) (m - number x) m
        ∙ ap (λ n. n % m) (whole x) ∙ mod_self m ∙ sym M.zero_is);
    times_comm = λ x y. M.same _ _ (M.times_is x y ∙ ap (λ n. n % m) (mul_comm _ _) ∙ sym (M.times_is y x));
    times_assoc = λ x y z. M.same _ _ (M.times_is (o.times x y) z ∙ ap (λ n. n % m) (mul_comm _ _) ∙ ap (λ n. number z * n % m) (M.times_is x y)
        ∙ mul-mod_second (number z) (number x * number y) m ∙ ap (λ n. n % m) (mul_comm _ _ ∙ mul_assoc _ _ _) ∙ sym (times_mod x y z));
    times_one = λ x. M.same _ _ (M.times_is x o.one ∙ ap (λ n. number x * n % m) M.one_is ∙ ap (λ n. n % m) (mul-one _) ∙ mod-eq_of_lt (M.below x));
    times_plus = λ x y z. M.same _ _ (M.times_is x (o.plus y z) ∙ ap (λ n. number x * n % m) (M.plus_is y z) ∙ mul-mod_second (number x) (number y + number z) m
        ∙ ap (λ n. n % m) (mul-add (number x) (number y) (number z)) ∙ sym (add-mod-mod (number x * number y) (number x * number z) m)
        ∙ sym (mod-add-mod (number x * number y) m (number x * number z % m))
        ∙ ap₂ (λ a b. (a + b) % m) (sym (M.times_is x y)) (sym (M.times_is x z)) ∙ sym (M.plus_is (o.times x y) (o.times x z)));
  }
    where
      whole : (x : F) → number x + (m - number x) ≡ m
      whole x = let h : number x < m = M.below x in omega arith

-- The two kinds that are of this sort.
pub word_modular : Modular (2 ^ 64) (λ x. x.number) words.ops
word_modular = record {
  same = same_word;
  below = λ x. x.fits;
  zero_is = refl;
  one_is = refl;
  plus_is = λ x y. refl;
  minus_is = λ x. refl;
  times_is = λ x y. refl;
}

pub residue_modular : Modular modulus (λ x. x.number) residues.ops
residue_modular = record {
  same = same_residue;
  below = λ x. x.below;
  zero_is = refl;
  one_is = refl;
  plus_is = λ x y. refl;
  minus_is = λ x. refl;
  times_is = λ x y. refl;
}
