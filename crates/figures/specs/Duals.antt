-- Dual numbers over a ring: a value a and its rate of change b, written (a, b).
use Rattle.algebra.specs.Ring.{Ops}
use Rattle.figures.specs.declared.kinds.Dual.{Dual}

abbrev pub dual : {T : Type 0} → T → T → Dual T
dual a b = record { value = a; rate = b }

-- Sums and negatives part by part; (a, b)(c, e) = (ac, ae + bc).
abbrev pub ops : {F : Type 0} → Ops F → Ops (Dual F)
ops o = record {
  zero = dual o.zero o.zero;
  one = dual o.one o.zero;
  plus = λ x y. dual (o.plus x.value y.value) (o.plus x.rate y.rate);
  minus = λ x. dual (o.minus x.value) (o.minus x.rate);
  times = λ x y. dual (o.times x.value y.value) (o.plus (o.times x.value y.rate) (o.times x.rate y.value));
}
