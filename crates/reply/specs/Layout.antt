-- Where the fields of a reply record stand.
use Rattle.std.specs.Prelude.{◌≡◌, ℕ, ◌-◌, ◌/◌, ◌%◌, ◌^◌, List, length}
use Rattle.std.specs.Int.Digits.{number_from_digits}
use Rattle.reply.specs.declared.Fields.{Fields}

-- The part of a number of 128 bits that starts `place` bits from its front and is `width` bits wide.
abbrev pub part : ℕ → ℕ → ℕ → ℕ
part n place width = n / 2 ^ (128 - place - width) % 2 ^ width

-- The same of bytes, the first of which is the most significant.
abbrev pub field : List ℕ → ℕ → ℕ → ℕ
field bytes place width = part (number_from_digits 256 bytes) place width

abbrev pub fields_in : List ℕ → Fields
fields_in bytes = record {
  kind = field bytes 0 2;
  question = field bytes 2 3;
  refusal = field bytes 5 6;
  k = field bytes 11 7;
  lives = field bytes 18 7;
  figure = field bytes 64 64;
}

-- The bits between lives and figure, which say nothing.
abbrev pub spare_in : List ℕ → ℕ
spare_in bytes = field bytes 25 39

-- 16 bytes that hold these fields, each at its bits, and a spare of zeros: of bytes below 256 this leaves no bit open.
pub record Holds (bytes : List ℕ) (f : Fields) : Type 0 where
  pub size : length bytes ≡ 16
  pub fields : fields_in bytes ≡ f
  pub spare : spare_in bytes ≡ 0
