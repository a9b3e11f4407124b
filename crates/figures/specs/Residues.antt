-- Residues: numbers modulo 2147483647.
use Rattle.std.specs.Prelude.{ℕ, ◌+◌, ◌-◌, ◌*◌, ◌%◌, ◌<◌}
use Rattle.std.proofs.Common.{mod-lt, lit<}
use Rattle.algebra.specs.Ring.{Ops}
use Rattle.figures.specs.declared.kinds.Residue.{Residue}

abbrev pub modulus : ℕ
modulus = 2147483647

pub below : (n : ℕ) → n % modulus < modulus
below n = mod-lt n (lit< tt)

-- The residue of a number: its remainder by the modulus.
abbrev pub residue : ℕ → Residue
residue n = record { number = n % modulus; below = below n }

abbrev pub ops : Ops Residue
ops = record {
  zero = residue 0;
  one = residue 1;
  plus = λ x y. residue (x.number + y.number);
  minus = λ x. residue (modulus - x.number);
  times = λ x y. residue (x.number * y.number);
}
