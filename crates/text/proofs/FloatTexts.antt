-- Texts of floats.
use Rattle.std.proofs.Common.{◌≡◌, ℕ, ◌+◌, ◌-◌, ◌<◌, ◌≤◌, ◌*◌, true, false, T, pos, arith, List, [], ◌∷◌, ◌++◌, Some, decimal, length, get_or, drop, refl, sym, ap, ◌∙◌, subst, lit<, take, append_assoc, append-nil}
use native.Mathlib.Nat.{lt_of_le_of_lt}
use Rattle.std.specs.List.{AllZip}
use Rattle.std.specs.Float.{Float, nan, binary64}
use Rattle.std.specs.Float.Parse.{parse_float}
use Rattle.std.specs.Float.Numeral.{Parts, IsWellFormed, text_of}
use lib.Dec.{le→leb}
use lib.Ieee.{round, fits, in_float, of_int, to_bits, of_bits, to_unsigned}
use lib.Ieee.Back.{unsigned_back}
use lib.Ieee.Bits.{of_bits-to_bits}
use lib.Ieee.Fits.{of_int-fits}
use Rattle.std.proofs.lemmas.Float.Parse.{parse_float-text_of}
use Rattle.std.proofs.lemmas.Fmt.{decimal_is_IsNumeral}
use Rattle.std.specs.Str.Parse.{digits_value}
use Rattle.counts.proofs.Floats.{cast_exact, round_is_float}
use Rattle.counts.specs.Floats.{float}
use Rattle.counts.specs.Answer.{most}
use Rattle.std.proofs.lemmas.List.{drop_more, drop_all}
use Rattle.std.proofs.lemmas.Slice.{first_rest}
use Rattle.text.specs.Text.{others}
use Rattle.text.specs.Floats.{IsWhole, IsTextOf, AreSpacedTextsOf}

-- What the cut to a whole number gives.
pub cut_is : (x : Float) (n : ℕ) → IsWhole x n → to_unsigned 64 x ≡ n
unfolding in_float
cut_is x n w =
    ap (to_unsigned 64) (w.1 ∙ sym (cast_exact n w.0)) ∙ (unsigned_back binary64 64 n (le→leb n most w.0) (lt_of_le_of_lt w.0 (lit< tt))).1

pub one_number : (x : Float) (m n : ℕ) → IsWhole x m → IsWhole x n → m ≡ n
one_number x m n v w = sym (cut_is x m v) ∙ cut_is x n w

-- The same bits as the number's are the same float.
pub by_bits : (x : Float) (n : ℕ) → fits binary64 x ≡ true → n ≤ most → to_bits binary64 (of_int binary64 (pos n)) ≡ to_bits binary64 x → IsWhole x n
by_bits x n fit h same = (
  h,
  sym (of_bits-to_bits binary64 x (subst T (sym fit) tt)) ∙ sym (ap (of_bits binary64) same)
      ∙ of_bits-to_bits binary64 (of_int binary64 (pos n)) (of_int-fits binary64 (pos n)) ∙ cast_exact n h,
)

pub bits_of : (x : Float) (n : ℕ) → IsWhole x n → to_bits binary64 (of_int binary64 (pos n)) ≡ to_bits binary64 x
bits_of x n w = ap (to_bits binary64) (cast_exact n w.0 ∙ sym w.1)

-- The digits of a number, as the parts of a text.
abbrev digits_alone : List ℕ → Parts
digits_alone ds = record { whole = ds; point = false; fraction = []; exponent_negative = false; exponent = []; len = length ds }

digits_read : (n : ℕ) → n ≤ most → parse_float binary64 (decimal n) ≡ Some (float n)
digits_read n h =
    let ds = decimal n in
    let d = decimal_is_IsNumeral n (lt_of_le_of_lt h (lit< tt)) in
    let text : text_of (digits_alone ds) ≡ ds = append-nil ds in
    let formed : IsWellFormed (digits_alone ds) = record {
      whole_digits = d.0.1;
      fraction_digits = tt;
      exponent_digits = tt;
      no_point = λ _. refl;
      no_exponent = λ _. refl;
      len_is = ap length (sym text);
    } in
    let value : digits_value 10 (ds ++ []) ≡ n = ap (digits_value 10) (append-nil ds) ∙ d.1 in
    ap (parse_float binary64) (sym text)
    ∙ parse_float-text_of binary64 false (digits_alone ds) formed d.0.0
    ∙ ap (λ m. Some (round binary64 false m 1)) (ap (λ m. m * 1) value ∙ omega arith)
    ∙ ap Some (round_is_float n h)

-- The digits of a whole number are its text.
pub digits_of : (x : Float) (n : ℕ) (text : List ℕ) → IsWhole x n → text ≡ decimal n → IsTextOf x text
digits_of x n text w e = (ap (parse_float binary64) e ∙ digits_read n w.0 ∙ ap Some (sym w.1), λ m v. e ∙ ap decimal (one_number x n m w v))

-- Of the first float, and whatever texts the others have.
pub first_text : (xs : List Float) (t : List ℕ) → 0 < length xs → IsTextOf (get_or xs 0 nan) t
    → (ts : List (List ℕ)) → AllZip IsTextOf (take (length xs - 1) (drop 1 xs)) ts → AreSpacedTextsOf xs (t ++ others ts)
first_text xs t h own ts rest = (t ∷ ts, subst (λ ys. AllZip IsTextOf ys (t ∷ ts)) (sym (first_rest xs nan h)) (own, rest), refl)

-- Of one float more.
pub text_more : (xs rest : List Float) (i : ℕ) (t written : List ℕ) → i < length rest → IsTextOf (get_or rest i nan) t
    → ((ts : List (List ℕ)) → AllZip IsTextOf (drop i rest) ts → AreSpacedTextsOf xs (written ++ others ts))
    → (ts : List (List ℕ)) → AllZip IsTextOf (drop (i + 1) rest) ts → AreSpacedTextsOf xs (((written ++ (32 ∷ [])) ++ t) ++ others ts)
text_more xs rest i t written h own so_far ts more =
    let tail : List ℕ = others ts in
    let same : ((written ++ (32 ∷ [])) ++ t) ++ tail ≡ written ++ (32 ∷ (t ++ tail)) = append_assoc (written ++ (32 ∷ [])) t tail ∙ append_assoc written (32 ∷ []) (t ++ tail) in
    subst (AreSpacedTextsOf xs) (sym same) (so_far (t ∷ ts) (subst (λ ys. AllZip IsTextOf ys (t ∷ ts)) (sym (drop_more rest i nan h)) (own, more)))

-- Of all.
pub text_all : (xs rest : List Float) (i : ℕ) (written : List ℕ) → length rest ≤ i
    → ((ts : List (List ℕ)) → AllZip IsTextOf (drop i rest) ts → AreSpacedTextsOf xs (written ++ others ts)) → AreSpacedTextsOf xs written
text_all xs rest i written h so_far =
    subst (AreSpacedTextsOf xs) (append-nil written) (so_far [] (subst (λ ys. AllZip IsTextOf ys []) (sym (drop_all i rest h)) tt))
