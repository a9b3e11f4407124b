-- A chain of calls follows the ledger, since each link does; and so does a list of exchanges, since each call that it asks does.
use Rattle.std.proofs.Common.{◌≡◌, ℕ, ◌+◌, ◌<◌, ◌≤◌, List, [], ◌∷◌, ◌++◌, length, take, drop, set, get_or, sym, refl, ap, ◌∙◌, subst, arith}
use Rattle.std.proofs.lemmas.List.{take_more, take_more_set, take_all, drop_more, drop-set-lt}
use Rattle.algebra.specs.Ring.{Ops}
use Rattle.roster.specs.Ledger.{Ledger, Call, Answer, answer, next, answers, final}
use Rattle.roster.specs.Cells.{Holds, Chain, none, link}
use Rattle.roster.specs.Runs.{Follows}
use Rattle.roster.specs.Requests.{call_of, asked, Settled}
use Rattle.roster.specs.declared.cells.Cell.{Cell}
use Rattle.roster.specs.declared.requests.Exchange.{Exchange}
use Rattle.roster.specs.declared.requests.Exchange.TheVariants.{Asked, Answered}

module _ {F P : Type 0} (o : Ops F) (plain : F → P) where
  pub follows : {before after : List (Cell P)} {calls : List (Call F P)} {gives : List (Answer F P)}
      (size : ℕ) (l : Ledger F) → Holds o plain size l before → (chain : Chain o plain before calls gives after) → Follows o plain size l chain
  follows size l h none = tt
  follows size l h (link {call = call} met rest) =
      let m = met size l h in
      (m.0, m.1, follows size (next o plain l call) m.1 rest)

  -- A run of some calls, and then of others.
  answers_append : (l : Ledger F) (calls others : List (Call F P))
      → answers o plain l (calls ++ others) ≡ answers o plain l calls ++ answers o plain (final o plain l calls) others
  answers_append l [] others = refl
  answers_append l (call ∷ calls) others = ap (λ rest. answer o plain l call ∷ rest) (answers_append (next o plain l call) calls others)

  final_append : (l : Ledger F) (calls others : List (Call F P)) → final o plain l (calls ++ others) ≡ final o plain (final o plain l calls) others
  final_append l [] others = refl
  final_append l (call ∷ calls) others = final_append (next o plain l call) calls others

asked_append : {F P : Type 0} (xs us : List (Exchange F P)) → asked (xs ++ us) ≡ asked xs ++ asked us
asked_append [] us = refl
asked_append (Asked request ∷ xs) us = ap (λ rest. call_of request ∷ rest) (asked_append xs us)
asked_append (Answered outcome ∷ xs) us = asked_append xs us

settled_append : {F P : Type 0} (xs : List (Exchange F P)) (gives : List (Answer F P)) (ys us : List (Exchange F P)) (others : List (Answer F P)) (vs : List (Exchange F P))
    → Settled xs gives ys → Settled us others vs → Settled (xs ++ us) (gives ++ others) (ys ++ vs)
settled_append [] [] [] us others vs s t = t
settled_append (Asked request ∷ xs) (given ∷ gives) (Answered outcome ∷ ys) us others vs s t = (s.0, settled_append xs gives ys us others vs s.1 t)
settled_append (Answered outcome ∷ xs) gives (y ∷ ys) us others vs s t = (s.0, settled_append xs gives ys us others vs s.1 t)
settled_append xs gives ys us others vs s t = absurd s

module _ {F P : Type 0} (o : Ops F) (plain : F → P) (size : ℕ) where
  -- What the calls that are asked come to, from a ledger on: their answers, and the cells after the last.
  abbrev pub Ran : Ledger F → List (Exchange F P) → List (Exchange F P) → List (Cell P) → Type 0
  Ran l before after cells = Settled before (answers o plain l (asked before)) after × Holds o plain size (final o plain l (asked before)) cells

  pub ran_append : (l : Ledger F) (xs ys us vs : List (Exchange F P)) (cells after : List (Cell P))
      → Ran l xs ys cells → Ran (final o plain l (asked xs)) us vs after → Ran l (xs ++ us) (ys ++ vs) after
  ran_append l xs ys us vs cells after r s =
      let calls = asked_append xs us in (
        subst (λ gives. Settled (xs ++ us) gives (ys ++ vs)) (sym (ap (answers o plain l) calls ∙ answers_append o plain l (asked xs) (asked us)))
            (settled_append xs (answers o plain l (asked xs)) ys us _ vs r.0 s.0),
        subst (λ m. Holds o plain size m after) (sym (ap (final o plain l) calls ∙ final_append o plain l (asked xs) (asked us))) s.1,
      )

module _ {F P : Type 0} (o : Ops F) (plain : F → P) (opening : List (Cell P)) (before : List (Exchange F P)) where
  -- A run under way, from the cells as opening left them: the first i exchanges are settled, and from there on all are as they were.
  abbrev pub Running : ℕ → List (Exchange F P) → List (Cell P) → Type 0
  Running i exchanges cells =
      ((size : ℕ) (l : Ledger F) → Holds o plain size l opening → Ran o plain size l (take i before) (take i exchanges) cells)
      × (drop i exchanges ≡ drop i before)

  pub running_step : (i : ℕ) (exchanges : List (Exchange F P)) (any here settled : Exchange F P) (cells after : List (Cell P))
      → i < length before → length exchanges ≡ length before → here ≡ get_or exchanges i any
      → ((size : ℕ) (l : Ledger F) → Holds o plain size l cells → Settled (here ∷ []) (answers o plain l (asked (here ∷ []))) (settled ∷ []))
      → ((size : ℕ) (l : Ledger F) → Holds o plain size l cells → Holds o plain size (final o plain l (asked (here ∷ []))) after)
      → Running i exchanges cells → Running (i + 1) (set exchanges i settled) after
  running_step i exchanges any here settled cells after b same is gives holds running =
      let e : i < length exchanges = omega (arith, same) in
      let rest = sym (drop_more exchanges i any e) ∙ running.1 ∙ drop_more before i any b in
      let was : get_or before i any ≡ here = sym (is ∙ ap (λ xs. get_or xs 0 any) rest) in
      let xs = take_more before i any b ∙ ap (λ x. take i before ++ (x ∷ [])) was in (
        (λ size l h.
            let so_far = running.0 size l h in
            let m = final o plain l (asked (take i before)) in
            subst (λ xs. Ran o plain size l xs (take (i + 1) (set exchanges i settled)) after) (sym xs)
            (subst (λ ys. Ran o plain size l (take i before ++ (here ∷ [])) ys after) (sym (take_more_set exchanges i settled e))
            (ran_append o plain size l (take i before) (take i exchanges) (here ∷ []) (settled ∷ []) cells after so_far
            (gives size m so_far.1, holds size m so_far.1)))),
        drop-set-lt (i + 1) exchanges i settled (omega arith) ∙ ap (drop 1) rest,
      )

  -- When all are settled.
  pub running_end : (i : ℕ) (exchanges : List (Exchange F P)) (cells : List (Cell P)) → length before ≤ i → length exchanges ≡ length before
      → Running i exchanges cells → (size : ℕ) (l : Ledger F) → Holds o plain size l opening → Ran o plain size l before exchanges cells
  running_end i exchanges cells b same running size l h =
      subst (λ xs. Ran o plain size l xs exchanges cells) (take_all i before b)
      (subst (λ ys. Ran o plain size l (take i before) ys cells) (take_all i exchanges (omega (arith, same, b))) (running.0 size l h))
