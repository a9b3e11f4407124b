-- Scenarios: 64 bits, one for each scenario.
use Rattle.std.specs.Prelude.{ℕ, ◌-◌, ◌%◌, ◌^◌, bit_and, bit_xor}
use Rattle.std.specs.Int.Bits.{and_lt}
use Rattle.std.proofs.lemmas.Nat.{xor_lt}
use Rattle.algebra.specs.Ring.{Ops}
use Rattle.figures.specs.Words.{below}
use Rattle.figures.specs.declared.kinds.Scenarios.{Scenarios}

-- The scenarios of a number's 64 low bits.
abbrev pub scenarios : ℕ → Scenarios
scenarios n = record { bits = n % 2 ^ 64; fits = below n }

-- One holds in every scenario; a figure is its own negative.
abbrev pub ops : Ops Scenarios
ops = record {
  zero = scenarios 0;
  one = scenarios (2 ^ 64 - 1);
  plus = λ x y. record { bits = bit_xor x.bits y.bits; fits = xor_lt 64 x.bits y.bits x.fits y.fits };
  minus = λ x. x;
  times = λ x y. record { bits = bit_and x.bits y.bits; fits = and_lt 64 x.bits y.bits x.fits y.fits };
}
