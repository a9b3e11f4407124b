-- A library call's result as the struct that C gets.
use Rattle.std.specs.Prelude.{◌≡◌, ℕ, Ok, Err, Result, MatchResult, unwrap_or}
use Rattle.hosts.specs.declared.Outcome.{Outcome}
use Rattle.money.specs.Answer.{number as money_number, place as place_of_money}
use Rattle.money.specs.declared.Refusal.{Refusal as MoneyRefusal}
use Rattle.exchangeable.specs.Answer.{number as table_number, place as place_of_table}
use Rattle.exchangeable.specs.declared.Refusal.{Refusal as TableRefusal}

-- The place that a refusal names; 0 where it names none.
abbrev pub money_place : MoneyRefusal → ℕ
money_place e = unwrap_or (place_of_money e) 0

abbrev pub table_place : TableRefusal → ℕ
table_place e = unwrap_or (place_of_table e) 0

-- A row that was answered stands in the caller's table: the struct is all zeros.
abbrev pub of_money_row : Result (Unit {0}) MoneyRefusal → Outcome
of_money_row (Ok x) = record { refusal = 0; place = 0; factor = 0 }
of_money_row (Err e) = record { refusal = money_number e; place = money_place e; factor = 0 }

abbrev pub of_factor : Result ℕ MoneyRefusal → Outcome
of_factor (Ok f) = record { refusal = 0; place = 0; factor = f }
of_factor (Err e) = record { refusal = money_number e; place = money_place e; factor = 0 }

abbrev pub of_table_row : Result (Unit {0}) TableRefusal → Outcome
of_table_row (Ok x) = record { refusal = 0; place = 0; factor = 0 }
of_table_row (Err e) = record { refusal = table_number e; place = table_place e; factor = 0 }

-- The struct is made from some result of which the library promises P, where answered, or Q, where refused.
abbrev pub Made : {T E : Type 0} → (Result T E → Outcome) → (T → Type 0) → (E → Type 0) → Outcome → Type 0
Made {T = T} {E = E} struct P Q o = (r : Result T E) × (o ≡ struct r) × MatchResult r P Q
