-- Reading and printing hex digits two by two.
use Rattle.std.proofs.Common.{◌≡◌, ℕ, suc, ◌+◌, ◌*◌, ◌/◌, ◌%◌, ◌^◌, ◌-◌, ◌<◌, ◌≤◌, false, List, [], ◌∷◌, ◌++◌, length, get_or, take, drop, Some, None, Option, sym, refl, ap, ◌∙◌, append_assoc, append-nil, arith}
use Rattle.std.proofs.lemmas.Bool.Decides.{nat_tests}
use Rattle.std.proofs.lemmas.Fmt.{hex_byte}
use Rattle.std.proofs.lemmas.List.{drop_all, drop_more, take_more}
use Rattle.std.specs.Fmt.{digit_glyph, digits, format_spec, padded_integral}
use Rattle.std.specs.Simd.{first_chunks}
use Rattle.text.specs.Text.{hex_digit, joined, hex_bytes, hex_char, hex_text}

-- The bytes that pairs of digits write.
abbrev pub pairs_read : List (List ℕ) → Option (List ℕ)
pairs_read [] = Some []
pairs_read (p ∷ ps) = joined (hex_digit (get_or p 0 0)) (hex_digit (get_or p 1 0)) (pairs_read ps)

hex_pairs : (word : List ℕ) → length word % 2 ≡ 0 → pairs_read (first_chunks 2 (length word / 2) word) ≡ hex_bytes word
hex_pairs [] h = refl
hex_pairs (a ∷ []) h = absurd (omega arith)
hex_pairs (a ∷ b ∷ rest) h =
    let half : length (a ∷ b ∷ rest) / 2 ≡ suc (length rest / 2) = omega arith in
    ap (λ k. pairs_read (first_chunks 2 k (a ∷ b ∷ rest))) half ∙ ap (joined (hex_digit a) (hex_digit b)) (hex_pairs rest (omega arith))

pub hex_odd : (word : List ℕ) → length word % 2 ≡ 1 → hex_bytes word ≡ None
hex_odd [] h = absurd (omega arith)
hex_odd (a ∷ []) h = refl
hex_odd (a ∷ b ∷ rest) h = ap (joined (hex_digit a) (hex_digit b)) (hex_odd rest (omega arith)) ∙ none (hex_digit a) (hex_digit b)
  where
    none : (x y : Option ℕ) → joined x y None ≡ None
    none None y = refl
    none (Some x) None = refl
    none (Some x) (Some y) = refl

-- Bytes already read, and what comes of the rest.
abbrev pub onto : List ℕ → Option (List ℕ) → Option (List ℕ)
onto xs None = None
onto xs (Some ys) = Some (xs ++ ys)

onto_nothing : (o : Option (List ℕ)) → onto [] o ≡ o
onto_nothing None = refl
onto_nothing (Some ys) = refl

onto_joined : (xs : List ℕ) (high low : ℕ) (rest : Option (List ℕ)) → onto xs (joined (Some high) (Some low) rest) ≡ onto (xs ++ ((high * 16 + low) ∷ [])) rest
onto_joined xs high low None = refl
onto_joined xs high low (Some ys) = ap Some (sym (append_assoc xs ((high * 16 + low) ∷ []) ys))

pub pairs_first : (word : List ℕ) → length word % 2 ≡ 0 → onto [] (pairs_read (drop 0 (first_chunks 2 (length word / 2) word))) ≡ hex_bytes word
pairs_first word h = onto_nothing _ ∙ hex_pairs word h

-- One pair more: d is what an index past the end reads.
module _ (pairs : List (List ℕ)) (i : ℕ) (d : List ℕ) (h : i < length pairs) (xs : List ℕ) (bytes : Option (List ℕ)) (inv : onto xs (pairs_read (drop i pairs)) ≡ bytes) where
  read : (a b : Option ℕ) → a ≡ hex_digit (get_or (get_or pairs i d) 0 0) → b ≡ hex_digit (get_or (get_or pairs i d) 1 0)
      → onto xs (joined a b (pairs_read (drop (i + 1) pairs))) ≡ bytes
  read a b e f =
      ap (λ x. onto xs (joined x b (pairs_read (drop (i + 1) pairs)))) e
      ∙ ap (λ y. onto xs (joined (hex_digit (get_or (get_or pairs i d) 0 0)) y (pairs_read (drop (i + 1) pairs)))) f
      ∙ ap (λ ps. onto xs (pairs_read ps)) (sym (drop_more pairs i d h)) ∙ inv

  pub pair_more : (a b : ℕ) → Some a ≡ hex_digit (get_or (get_or pairs i d) 0 0) → Some b ≡ hex_digit (get_or (get_or pairs i d) 1 0)
      → onto (xs ++ ((a * 16 + b) ∷ [])) (pairs_read (drop (i + 1) pairs)) ≡ bytes
  pair_more a b e f = sym (onto_joined xs a b (pairs_read (drop (i + 1) pairs))) ∙ read (Some a) (Some b) e f

  pub pair_high : None ≡ hex_digit (get_or (get_or pairs i d) 0 0) → bytes ≡ None
  pair_high e = sym (read None _ e refl)

  pub pair_low : None ≡ hex_digit (get_or (get_or pairs i d) 1 0) → bytes ≡ None
  pair_low f = sym (read _ None refl f) ∙ none (hex_digit (get_or (get_or pairs i d) 0 0))
    where
      none : (a : Option ℕ) → onto xs (joined a None (pairs_read (drop (i + 1) pairs))) ≡ None
      none None = refl
      none (Some a) = refl

pub pairs_all : (pairs : List (List ℕ)) (i : ℕ) (xs : List ℕ) (bytes : Option (List ℕ)) → length pairs ≤ i → onto xs (pairs_read (drop i pairs)) ≡ bytes → bytes ≡ Some xs
pairs_all pairs i xs bytes h inv = sym inv ∙ ap (λ ps. onto xs (pairs_read ps)) (drop_all i pairs h) ∙ ap Some (append-nil xs)

-- One byte more as it is printed.
pub text_more : (bytes : List ℕ) (i : ℕ) → i < length bytes → get_or bytes i 0 < 256
    → hex_text (take i bytes) ++ padded_integral (format_spec 32 0 4 2 (2 ^ 64 - 1)) false [] (digits 16 false (get_or bytes i 0)) ≡ hex_text (take (i + 1) bytes)
text_more bytes i h fits =
    ap (λ t. hex_text (take i bytes) ++ t) (hex_byte false (get_or bytes i 0) fits ∙ glyphs (get_or bytes i 0))
    ∙ sym (ap hex_text (take_more bytes i 0 h) ∙ hex_text_append (take i bytes) (get_or bytes i 0 ∷ []))
  where
    glyph : (d : ℕ) → digit_glyph false d ≡ hex_char d
    glyph d = grind (arith, nat_tests)

    glyphs : (b : ℕ) → digit_glyph false (b / 16) ∷ digit_glyph false (b % 16) ∷ [] ≡ hex_char (b / 16) ∷ hex_char (b % 16) ∷ []
    glyphs b = ap (λ x. x ∷ digit_glyph false (b % 16) ∷ []) (glyph (b / 16)) ∙ ap (λ y. hex_char (b / 16) ∷ y ∷ []) (glyph (b % 16))

    hex_text_append : (xs ys : List ℕ) → hex_text (xs ++ ys) ≡ hex_text xs ++ hex_text ys
    hex_text_append [] ys = refl
    hex_text_append (x ∷ xs) ys = ap (λ t. hex_char (x / 16) ∷ hex_char (x % 16) ∷ t) (hex_text_append xs ys)
