-- The laws of a commutative semiring, which every ring and the ordinary whole numbers keep.
use Rattle.std.proofs.Common.{◌≡◌, sym, ap, ◌∙◌, add-zero, add_assoc, mul_assoc, mul_comm, add_comm, mul-zero, mul-one, mul-add}
use Rattle.algebra.specs.Ring.{Ops, Laws, Semi, semi}
use Rattle.algebra.specs.Patterns.{naturals}

pub record SemiLaws {F : Type 0} (s : Semi F) : Type 0 where
  pub plus_comm : (x y : F) → s.plus x y ≡ s.plus y x
  pub plus_assoc : (x y z : F) → s.plus (s.plus x y) z ≡ s.plus x (s.plus y z)
  pub plus_zero : (x : F) → s.plus x s.zero ≡ x
  pub times_comm : (x y : F) → s.times x y ≡ s.times y x
  pub times_assoc : (x y z : F) → s.times (s.times x y) z ≡ s.times x (s.times y z)
  pub times_one : (x : F) → s.times x s.one ≡ x
  pub times_zero : (x : F) → s.times x s.zero ≡ s.zero
  pub times_plus : (x y z : F) → s.times x (s.plus y z) ≡ s.plus (s.times x y) (s.times x z)

pub zero_plus : {F : Type 0} {s : Semi F} → SemiLaws s → (x : F) → s.plus s.zero x ≡ x
zero_plus {s = s} L x = L.plus_comm s.zero x ∙ L.plus_zero x

module _ {F : Type 0} {o : Ops F} (L : Laws o) where
  -- Subtracting what was added.
  pub plus_undo : (x y : F) → o.plus (o.plus x y) (o.minus y) ≡ x
  plus_undo x y = L.plus_assoc x y (o.minus y) ∙ ap (o.plus x) (L.plus_minus y) ∙ L.plus_zero x

  pub plus_cancel : (x y z : F) → o.plus x z ≡ o.plus y z → x ≡ y
  plus_cancel x y z e = sym (plus_undo x z) ∙ ap (λ w. o.plus w (o.minus z)) e ∙ plus_undo y z

  -- x·0 + x·0 = x·0 = 0 + x·0.
  times_nothing : (x : F) → o.times x o.zero ≡ o.zero
  times_nothing x =
      let z = o.times x o.zero in
      let twice : o.plus z z ≡ z = sym (L.times_plus x o.zero o.zero) ∙ ap (o.times x) (L.plus_zero o.zero) in
      plus_cancel z o.zero z (twice ∙ sym (L.plus_comm o.zero z ∙ L.plus_zero z))

  pub laws_semi : SemiLaws (semi o)
  laws_semi = record {
    plus_comm = L.plus_comm;
    plus_assoc = L.plus_assoc;
    plus_zero = L.plus_zero;
    times_comm = L.times_comm;
    times_assoc = L.times_assoc;
    times_one = L.times_one;
    times_zero = times_nothing;
    times_plus = L.times_plus;
  }

pub naturals_laws : SemiLaws naturals
naturals_laws = record {
  plus_comm = add_comm;
  plus_assoc = add_assoc;
  plus_zero = add-zero;
  times_comm = mul_comm;
  times_assoc = mul_assoc;
  times_one = mul-one;
  times_zero = mul-zero;
  times_plus = mul-add;
}
