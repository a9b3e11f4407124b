-- What the calls of `money_row` and `factor` give, put together.
use Rattle.std.proofs.Common.{◌≡◌, ℕ, ◌+◌, ◌<◌, ◌≤◌, List, [], ◌∷◌, ◌++◌, length, get_or, take, drop, set, sym, ap, ◌∙◌, ap₂, arith, length-append}
use Rattle.std.specs.List.{AllByRecursion, sum as std_sum}
use Rattle.std.proofs.lemmas.List.{append_assoc, drop_at, drop_more, drop-set-lt, length-take-le, set_at, take_all, take_at}
use Rattle.std.proofs.lemmas.List.Sums.{fold_more, sum_by_push}
use Rattle.algebra.specs.Patterns.{naturals, total}
use Rattle.algebra.proofs.Each.{each_held, each_taken}
use Rattle.money.specs.Answer.{Admitted, FactorAnswered, RowAnswered}
use Rattle.money.specs.Money.{whole, pass, with_life, money_row, factor_of}
use Rattle.money.proofs.Sums.{total_is_sum}
use Rattle.money.proofs.Rounding.{sum, get_or_le_sum, row_long, row_sum, near_all, factor_past}

all_within : (lives : List ℕ) → Admitted lives → AllByRecursion (λ p. p ≤ whole) lives
all_within lives a = each_held (λ p. p ≤ whole) lives 0 a.1

-- One turn of the loop over the lives.
module _ (lives entry row : List ℕ) (i : ℕ) (a : Admitted lives) (l : i < length lives) (room : length lives < length entry)
    (so_far : row ≡ money_row (take i lives) ++ drop (i + 1) entry) where
  within : AllByRecursion (λ p. p ≤ whole) (take i lives)
  within = each_taken (λ p. p ≤ whole) lives 0 a.1 i

  long : length (money_row (take i lives)) ≡ i + 1
  long = row_long (take i lives) within ∙ ap (λ n. n + 1) (length-take-le i lives (omega arith))

  cleared : set row (i + 1) 0 ≡ (money_row (take i lives) ++ 0 ∷ []) ++ drop (i + 1 + 1) entry
  cleared =
      ap (λ zs. set zs (i + 1) 0) (so_far ∙ ap (λ zs. money_row (take i lives) ++ zs) (drop_more entry (i + 1) 0 (omega arith)))
      ∙ set_at (money_row (take i lives)) (get_or entry (i + 1) 0) (drop (i + 1 + 1) entry) 0 (i + 1) long
      ∙ sym (append_assoc (money_row (take i lives)) (0 ∷ []) (drop (i + 1 + 1) entry))

  grown : length (money_row (take i lives) ++ 0 ∷ []) ≡ i + 2
  grown = length-append (money_row (take i lives)) (0 ∷ []) ∙ omega (arith, long)

  part : take (i + 2) (set row (i + 1) 0) ≡ money_row (take i lives) ++ 0 ∷ []
  part =
      ap (take (i + 2)) cleared
      ∙ take_at (money_row (take i lives) ++ 0 ∷ []) (drop (i + 1 + 1) entry) (i + 2) grown

  pub part_small : (k : ℕ) → get_or (take (i + 2) (set row (i + 1) 0)) k 0 ≤ whole
  part_small k =
      rw part
      (omega (arith, get_or_le_sum (money_row (take i lives) ++ 0 ∷ []) k, total_is_sum (money_row (take i lives) ++ 0 ∷ []), sum_by_push (λ (x : ℕ). x) (money_row (take i lives)) 0, total_is_sum (money_row (take i lives)), row_sum (take i lives) within))

  pub row_more : (new : List ℕ) → new ≡ pass (get_or lives i 0) 0 0 (take (i + 2) (set row (i + 1) 0))
      → new ++ drop (i + 2) (set row (i + 1) 0) ≡ money_row (take (i + 1) lives) ++ drop (i + 1 + 1) entry
  row_more new e =
      ap₂ ◌++◌
      (e ∙ ap (pass (get_or lives i 0) 0 0) part ∙ sym (fold_more with_life (whole ∷ []) lives i 0 l))
      (ap (drop (i + 2)) cleared ∙ drop_at (money_row (take i lives) ++ 0 ∷ []) (drop (i + 1 + 1) entry) (i + 2) grown)

front : (lives rest : List ℕ) → Admitted lives → take (length lives + 1) (money_row lives ++ rest) ≡ money_row lives
front lives rest a = take_at (money_row lives) rest (length lives + 1) (row_long lives (all_within lives a))

pub row_all : (lives before row : List ℕ) (i : ℕ) → Admitted lives → length lives < length before → i ≡ length lives
    → row ≡ money_row (take i lives) ++ drop (i + 1) (set before 0 whole) → RowAnswered lives before row
row_all lives before row i a room e so_far =
    (a, omega arith, is, ap (λ zs. total naturals (take (length lives + 1) zs)) is ∙ ap sum (front lives _ a) ∙ row_sum lives (all_within lives a))
  where
    is : row ≡ money_row lives ++ drop (length lives + 1) before
    is =
        so_far
        ∙ ap₂ (λ xs ys. money_row xs ++ ys) (take_all i lives (omega arith))
        (drop-set-lt (i + 1) before 0 whole (omega arith) ∙ ap (λ n. drop (n + 1) before) e)

pub factor_from : (lives before row : List ℕ) (k f : ℕ) → k ≤ 64 → RowAnswered lives before row
    → f ≡ std_sum (drop k (take (length lives + 1) row)) → FactorAnswered lives k (length before) f
factor_from lives before row k f le r e = (
  a,
  le,
  r.1,
  is,
  (λ z. is ∙ ap (factor_of lives) z ∙ row_sum lives within),
  (λ h. is ∙ factor_past lives within k h),
  rw is (near_all lives within k),
)
  where
    a : Admitted lives
    a = r.0

    within : AllByRecursion (λ p. p ≤ whole) lives
    within = all_within lives r.0

    is : f ≡ factor_of lives k
    is =
        e ∙ sym (total_is_sum (drop k (take (length lives + 1) row)))
        ∙ ap (λ zs. sum (drop k (take (length lives + 1) zs))) r.2 ∙ ap (λ zs. sum (drop k zs)) (front lives _ r.0)
