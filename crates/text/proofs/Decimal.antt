-- Reading decimal digits one by one.
use Rattle.std.proofs.Common.{◌≡◌, ℕ, ◌+◌, ◌-◌, ◌*◌, ◌<◌, ◌≤◌, Bool, true, false, cond, ◌&&◌, leb, List, map, length, get_or, drop, Some, None, Option, refl, ap, ◌∙◌, arith, le-leb}
use Rattle.std.proofs.lemmas.Bool.{and_right, lt-leb}
use Rattle.std.specs.Int.Digits.{number_from_digits_after}
use Rattle.std.proofs.lemmas.Int.Digits.{number_after_ge}
use Rattle.std.proofs.lemmas.List.{drop_more, drop_all}
use Rattle.text.specs.Text.{digit, digits}

-- Where digits that were read so far write n.
abbrev onto : ℕ → List ℕ → ℕ
onto n cs = number_from_digits_after 10 n (map (λ c. c - 48) cs)

-- What comes of the rest.
abbrev pub rest : ℕ → ℕ → List ℕ → Option ℕ
rest limit n cs = cond (digits cs && leb (onto n cs) limit) (Some (onto n cs)) None

-- One byte more, which is a digit or is none.
pub one_more : (limit n i : ℕ) (word : List ℕ) (b : Bool) → i < length word → digit (get_or word i 0) ≡ b
    → rest limit n (drop i word) ≡ cond b (rest limit (n * 10 + (get_or word i 0 - 48)) (drop (i + 1) word)) None
one_more limit n i word b h d =
    let m : ℕ = n * 10 + (get_or word i 0 - 48) in
    let cs : List ℕ = drop (i + 1) word in
    ap (rest limit n) (drop_more word i 0 h) ∙ by_digit m cs (digit (get_or word i 0)) ∙ ap (λ t. cond t (rest limit m cs) None) d
  where
    by_digit : (m : ℕ) (cs : List ℕ) (t : Bool) → cond ((t && digits cs) && leb (onto m cs) limit) (Some (onto m cs)) None ≡ cond t (rest limit m cs) None
    by_digit m cs true = refl
    by_digit m cs false = refl

pub too_large : (limit n : ℕ) (cs : List ℕ) → limit < n → rest limit n cs ≡ None
too_large limit n cs h =
    let more : n ≤ onto n cs = number_after_ge 10 n (map (λ c. c - 48) cs) (omega arith) in
    let past : leb (onto n cs) limit ≡ false = lt-leb (onto n cs) limit (omega arith) in
    ap (λ b. cond b (Some (onto n cs)) None) (and_right (digits cs) (leb (onto n cs) limit) past)

pub ends : (limit n i : ℕ) (word : List ℕ) → length word ≤ i → n ≤ limit → rest limit n (drop i word) ≡ Some n
ends limit n i word h fits = ap (rest limit n) (drop_all i word h) ∙ ap (λ b. cond b (Some n) None) (le-leb n limit fits)
