-- Words: 64-bit numbers modulo 2^64.
use Rattle.std.specs.Prelude.{ℕ, ◌+◌, ◌-◌, ◌*◌, ◌%◌, ◌^◌, ◌<◌}
use Rattle.std.proofs.Common.{mod-lt, lit<}
use Rattle.algebra.specs.Ring.{Ops}
use Rattle.figures.specs.declared.kinds.Word.{Word}

pub below : (n : ℕ) → n % 2 ^ 64 < 2 ^ 64
below n = mod-lt n (lit< tt)

-- The word of a number: its remainder by 2^64.
abbrev pub word : ℕ → Word
word n = record { number = n % 2 ^ 64; fits = below n }

abbrev pub ops : Ops Word
ops = record {
  zero = word 0;
  one = word 1;
  plus = λ x y. word (x.number + y.number);
  minus = λ x. word (2 ^ 64 - x.number);
  times = λ x y. word (x.number * y.number);
}
