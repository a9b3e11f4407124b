-- What a kind of figures is: a commutative ring.
use Rattle.std.specs.Prelude.{◌≡◌}

-- The five operations, each a fixed function that never refuses.
pub record Ops (F : Type 0) : Type 0 where
  pub zero : F
  pub one : F
  pub plus : F → F → F
  pub minus : F → F
  pub times : F → F → F

-- The laws, for all figures. Nothing else of the arithmetic may be used.
pub record Laws {F : Type 0} (o : Ops F) : Type 0 where
  pub plus_comm : (x y : F) → o.plus x y ≡ o.plus y x
  pub plus_assoc : (x y z : F) → o.plus (o.plus x y) z ≡ o.plus x (o.plus y z)
  pub plus_zero : (x : F) → o.plus x o.zero ≡ x
  pub plus_minus : (x : F) → o.plus x (o.minus x) ≡ o.zero
  pub times_comm : (x y : F) → o.times x y ≡ o.times y x
  pub times_assoc : (x y z : F) → o.times (o.times x y) z ≡ o.times x (o.times y z)
  pub times_one : (x : F) → o.times x o.one ≡ x
  pub times_plus : (x y z : F) → o.times x (o.plus y z) ≡ o.plus (o.times x y) (o.times x z)

-- What sums of products need: a ring without the negative, so that ordinary whole numbers have one too.
pub record Semi (F : Type 0) : Type 0 where
  pub zero : F
  pub one : F
  pub plus : F → F → F
  pub times : F → F → F

abbrev pub semi : {F : Type 0} → Ops F → Semi F
semi o = record { zero = o.zero; one = o.one; plus = o.plus; times = o.times }
