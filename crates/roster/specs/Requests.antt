-- Requests, outcomes and lists of exchanges of the code as the ledger's calls and answers.
use Rattle.std.specs.Prelude.{◌≡◌, ℕ, List, [], ◌∷◌, Some, None, Option, Ok, Err, Result, Vec, vec_items}
use Rattle.roster.specs.Ledger as ledger
use Rattle.roster.specs.Ledger.{Call}
use Rattle.roster.specs.Refusals.{refusal_number}
use Rattle.roster.specs.declared.requests.Request.{Request}
use Rattle.roster.specs.declared.requests.Request.TheVariants.{Join, Leave, Change, Clear, Exactly, AtLeast, Composed, Triangle}
use Rattle.roster.specs.declared.requests.Answer.{Answer}
use Rattle.roster.specs.declared.requests.Answer.TheVariants.{Done, Figure, Table}
use Rattle.roster.specs.declared.requests.Refused.{Refused}
use Rattle.roster.specs.declared.requests.Exchange.{Exchange}
use Rattle.roster.specs.declared.requests.Exchange.TheVariants.{Asked, Answered}

abbrev pub call_of : {F P : Type 0} → Request F P → Call F P
call_of (Join number figure) = ledger.Join number figure
call_of (Leave number) = ledger.Leave number
call_of (Change number figure) = ledger.Change number figure
call_of Clear = ledger.Clear
call_of (Exactly k) = ledger.Exactly k
call_of (AtLeast k) = ledger.AtLeast k
call_of (Composed table) = ledger.Composed (vec_items table)
call_of (Triangle table) = ledger.Triangle (vec_items table)

-- A refusal by its number, and a row's table where there is one.
abbrev pub refused_of : {F P Z : Type 0} → ℕ → Option (Vec P Z) → ledger.Answer F P
refused_of n None = ledger.Refused n
refused_of n (Some t) = ledger.RefusedTable n (vec_items t)

abbrev pub answer_of : {F P : Type 0} → Result (Answer F P) (Refused P) → ledger.Answer F P
answer_of (Ok Done) = ledger.Done
answer_of (Ok (Figure x)) = ledger.Figure x
answer_of (Ok (Table t)) = ledger.Table (vec_items t)
answer_of (Err refused) = refused_of (refusal_number refused.refusal) refused.table

-- The calls of a list of exchanges that are still to be made, in their order.
abbrev pub asked : {F P : Type 0} → List (Exchange F P) → List (Call F P)
asked [] = []
asked (Asked request ∷ exchanges) = call_of request ∷ asked exchanges
asked (Answered outcome ∷ exchanges) = asked exchanges

-- Exchanges before and after they are given these answers: each that was asked has got the next of them, one that was
-- answered already is the very same, and no answer is missing or left over.
abbrev pub Settled : {F P : Type 0} → List (Exchange F P) → List (ledger.Answer F P) → List (Exchange F P) → Type 0
Settled [] [] [] = Unit {0}
Settled (Asked request ∷ before) (answer ∷ answers) (Answered outcome ∷ after) = (answer_of outcome ≡ answer) × Settled before answers after
Settled (Answered outcome ∷ before) answers (exchange ∷ after) = (exchange ≡ Answered outcome) × Settled before answers after
Settled before answers after = ⊥
