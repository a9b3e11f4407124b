-- What the program reads and prints, as functions on bytes.
use Rattle.std.specs.Prelude.{ℕ, ◌+◌, ◌-◌, ◌*◌, ◌/◌, ◌%◌, Bool, true, false, cond, not, length, ◌&&◌, ◌||◌, List, [], ◌∷◌, ◌++◌, map, take, drop, Some, None, codes, decimal, Option, ◌==◌, nat_le, position, vec_items}
use Rattle.std.specs.List.{filter, slice_split}
use Rattle.std.specs.Int.Digits.{number_from_digits}
use Rattle.reply.specs.declared.Fields.{Fields}
use Rattle.figures.specs.declared.kinds.Dual.{Dual}
use Rattle.roster.specs.declared.requests.Answer.{Answer}
use Rattle.roster.specs.declared.requests.Answer.TheVariants.{Done, Figure, Table}

-- Space, tab and carriage return part words.
abbrev pub blank : ℕ → Bool
blank b = b == 32 || (b == 9 || b == 13)

-- A byte as it is echoed: a `?` for what is not a visible character of ASCII.
abbrev pub echoed : ℕ → ℕ
echoed b = cond (nat_le 33 b && nat_le b 126) b 63

-- Words as they are echoed, with a blank behind each.
abbrev pub echoed_words : List (List ℕ) → List ℕ
echoed_words [] = []
echoed_words (word ∷ words) = map echoed word ++ (32 ∷ echoed_words words)

-- A hex digit's value, for either case.
abbrev pub hex_digit : ℕ → Option ℕ
hex_digit c =
    cond (nat_le 48 c && nat_le c 57) (Some (c - 48))
    (cond (nat_le 97 c && nat_le c 102) (Some (c - 87))
    (cond (nat_le 65 c && nat_le c 70) (Some (c - 55)) None))

abbrev pub joined : Option ℕ → Option ℕ → Option (List ℕ) → Option (List ℕ)
joined None low rest = None
joined (Some high) None rest = None
joined (Some high) (Some low) None = None
joined (Some high) (Some low) (Some rest) = Some ((high * 16 + low) ∷ rest)

-- The bytes that hex digits write, two digits for each; none where a digit is wrong or left over.
abbrev pub hex_bytes : List ℕ → Option (List ℕ)
hex_bytes [] = Some []
hex_bytes (a ∷ []) = None
hex_bytes (a ∷ b ∷ rest) = joined (hex_digit a) (hex_digit b) (hex_bytes rest)

-- Bytes as hex digits, two for each, in lower case.
abbrev pub hex_char : ℕ → ℕ
hex_char d = cond (nat_le d 9) (48 + d) (87 + d)

abbrev pub hex_text : List ℕ → List ℕ
hex_text [] = []
hex_text (b ∷ bs) = hex_char (b / 16) ∷ hex_char (b % 16) ∷ hex_text bs

-- A record's fields as a line of text.
abbrev pub fields_text : Fields → List ℕ
fields_text f =
    codes "kind " ++ (decimal f.kind ++ (codes " question " ++ (decimal f.question ++ (codes " refusal " ++ (decimal f.refusal
    ++ (codes " k " ++ (decimal f.k ++ (codes " lives " ++ (decimal f.lives ++ (codes " figure " ++ decimal f.figure))))))))))

-- A decimal digit, `0` to `9`, and a word of nothing else.
abbrev pub digit : ℕ → Bool
digit c = nat_le 48 c && nat_le c 57

abbrev pub digits : List ℕ → Bool
digits [] = true
digits (c ∷ cs) = digit c && digits cs

-- The number that decimal digits write.
abbrev pub value_of : List ℕ → ℕ
value_of word = number_from_digits 10 (map (λ c. c - 48) word)

-- The number that a word writes; none where it is empty, a byte is no digit, or the number is above the limit.
abbrev pub number_within : ℕ → List ℕ → Option ℕ
number_within limit [] = None
number_within limit (c ∷ cs) = cond (digits (c ∷ cs) && nat_le (value_of (c ∷ cs)) limit) (Some (value_of (c ∷ cs))) None

-- Where the first colon stands.
abbrev pub colon_at : List ℕ → Option ℕ
colon_at word = position (λ c. c == 58) word

-- A slope is two figures with a colon between.
abbrev pub both : {P : Type 0} → Option P → Option P → Option (Dual P)
both None rate = None
both (Some value) None = None
both (Some value) (Some rate) = Some (record { value = value; rate = rate })

abbrev pub slope_at : {P : Type 0} → (List ℕ → Option P) → List ℕ → Option ℕ → Option (Dual P)
slope_at reads word None = None
slope_at reads word (Some i) = both (reads (take i word)) (reads (drop (i + 1) word))

abbrev pub slope : {P : Type 0} → (List ℕ → Option P) → List ℕ → Option (Dual P)
slope reads word = slope_at reads word (colon_at word)

abbrev pub slope_text : {P : Type 0} → (P → List ℕ) → Dual P → List ℕ
slope_text text x = (text x.value ++ codes ":") ++ text x.rate

-- A refusal, without a place and with one.
abbrev pub refused_text : ℕ → List ℕ
refused_text number = codes "refused " ++ decimal number

abbrev pub refused_at_text : ℕ → ℕ → List ℕ
refused_at_text number place = codes "refused " ++ (decimal number ++ (codes " at " ++ decimal place))

abbrev pub refusal_text : ℕ → Option ℕ → List ℕ
refusal_text number None = refused_text number
refusal_text number (Some place) = refused_at_text number place

-- Texts with a blank between: the first, and each other with a blank before it.
abbrev pub others : List (List ℕ) → List ℕ
others [] = []
others (t ∷ ts) = 32 ∷ (t ++ others ts)

abbrev pub spaced : List (List ℕ) → List ℕ
spaced [] = []
spaced (t ∷ ts) = t ++ others ts

-- What is printed of a call of a roster that was granted: a figure and a table's entries in their plain form.
abbrev pub answer_text : {F P : Type 0} → (F → P) → (P → List ℕ) → Answer F P → List ℕ
answer_text plain text Done = codes "done"
answer_text plain text (Figure x) = text (plain x)
answer_text plain text (Table t) = spaced (map text (vec_items t))

-- The words of a line are what stands between blanks.
abbrev pub words_of : List ℕ → List (List ℕ)
words_of line = filter (λ word. not (length word == 0)) (slice_split blank line)

-- A line ends before the first newline, or with the input; the other lines begin behind that newline.
abbrev pub newline_at : List ℕ → Option ℕ
newline_at input = position (λ c. c == 10) input

abbrev pub line_to : List ℕ → Option ℕ → List ℕ
line_to input None = input
line_to input (Some i) = take i input

abbrev pub lines_from : List ℕ → Option ℕ → List ℕ
lines_from input None = []
lines_from input (Some i) = drop (i + 1) input

abbrev pub first_line : List ℕ → List ℕ
first_line input = line_to input (newline_at input)

abbrev pub other_lines : List ℕ → List ℕ
other_lines input = lines_from input (newline_at input)

-- A line is a command where it has words, the first of which begins with no `#`.
abbrev pub is_command : List (List ℕ) → Bool
is_command [] = false
is_command ([] ∷ words) = true
is_command ((c ∷ cs) ∷ words) = not (c == 35)

-- The words of each command, line by line.
abbrev pub commands : List ℕ → List (List (List ℕ))
commands input = filter is_command (map words_of (slice_split (λ c. c == 10) input))

-- A word that is a slash and nothing else.
abbrev pub is_slash : List ℕ → Bool
is_slash [] = false
is_slash (c ∷ []) = c == 47
is_slash (c ∷ d ∷ cs) = false

-- Both of a list of two; none for any other list.
abbrev pub only_two : {X : Type 0} → List X → Option (X × X)
only_two [] = None
only_two (x ∷ []) = None
only_two (x ∷ y ∷ []) = Some (x, y)
only_two (x ∷ y ∷ z ∷ more) = None

-- The words before the only slash, and those behind it; none where there is no slash, or more than one.
abbrev pub around_slash : List (List ℕ) → Option (List (List ℕ) × List (List ℕ))
around_slash words = only_two (slice_split is_slash words)
