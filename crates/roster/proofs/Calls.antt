-- The calls' links, from what was found and what was done.
use Rattle.std.proofs.Common.{◌≡◌, ℕ, ◌-◌, ◌<◌, true, false, cond, eqb, ◌≢◌, List, ◌++◌, length, take, replicate, Option, sym, refl, ap, ◌∙◌, subst, ap₂, arith}
use borrow.Rule.Slice.PartMut.{put_mid}
use Rattle.std.proofs.lemmas.Bool.{eq-eqb, ne_eqb, cond-true, cond-false}
use Rattle.std.proofs.Math.Logic.{∥∥₁_map}
use Rattle.algebra.specs.Ring.{Ops, Laws}
use Rattle.roster.specs.Ledger.{Ledger, capacity_of, Call, Answer, Join, Leave, Clear, Done, Refused, present, place_of, answer, granted, is_refused}
use Rattle.roster.specs.Cells.{Holds, OfLedger, HoldSome, Met, zero_cell}
use Rattle.roster.specs.Passes.{joined}
use Rattle.std.specs.Option.{is_some}
use Rattle.roster.specs.declared.cells.Cell.{Cell}
use Rattle.roster.proofs.Laying.{length_held}
use Rattle.roster.proofs.Places.{present_is}
use Rattle.roster.proofs.Holding.{cleared_laid}
use Rattle.roster.proofs.RowsTable.{written_from}

module _ {F P : Type 0} (o : Ops F) (plain : F → P) where
  -- A call is met where the answer is the ledger's and the cells hold what that answer lets the call do.
  pub answer_met : (call : Call F P) (before : List (Cell P)) (given : Answer F P) (after : List (Cell P))
      → ((size : ℕ) (l : Ledger F) → Holds o plain size l before
      → (given ≡ answer o plain l call) × Holds o plain size (record { whole = l.whole; capacity = l.capacity; lives = cond (is_refused o plain given) l.lives (granted o plain l.lives call) }) after)
      → Met o plain call before given after
  answer_met call before given after work size l held =
      let d = work size l held in
      (d.0, subst (λ a. Holds o plain size (record { whole = l.whole; capacity = l.capacity; lives = cond (is_refused o plain a) l.lives (granted o plain l.lives call) }) after) d.0 d.1)

  refused_met : (call : Call F P) (cells : List (Cell P)) (n : ℕ) → ((size : ℕ) (l : Ledger F) → Holds o plain size l cells → Refused n ≡ answer o plain l call) → Met o plain call cells (Refused n) cells
  refused_met call cells n refused = answer_met call cells (Refused n) cells (λ size l held. (refused size l held, held))

  -- Cells that held a ledger hold what became of it.
  pub still : (became : Ledger F → Ledger F) (before after : List (Cell P)) → ((size : ℕ) (l : Ledger F) → Holds o plain size l before → Holds o plain size (became l) after)
      → ∥ HoldSome o plain before ∥₁ → ∥ HoldSome o plain after ∥₁
  still became before after work some = ∥∥₁_map some (λ s. (s.0, (became s.1.0, work s.0 s.1.0 s.1.1)))

  -- Leaving and changing are answered alike, by whether the number has a place.
  pub leaves : (n : ℕ) → n ≢ 0 → (l : Ledger F) (p : Option ℕ) → p ≡ place_of n l.lives → cond (is_some p) Done (Refused 3) ≡ answer o plain l (Leave n)
  leaves n some l p found =
      ap (λ b. cond b Done (Refused 3)) (ap is_some found ∙ sym (present_is n l.lives)) ∙ sym (cond-false (eqb n 0) (Refused 1) (cond (present n l.lives) Done (Refused 3)) (ne_eqb n 0 some))

  -- What joining with a number that nobody has is answered.
  abbrev if_room : Ledger F → Answer F P
  if_room l = cond (eqb (length l.lives) l.capacity) (Refused 4) Done

  module _ (n : ℕ) (some : n ≢ 0) (x : F) (p : Option ℕ) (cells : List (Cell P)) (found : OfLedger o plain cells (λ l. p ≡ place_of n l.lives)) where
    -- What joining is answered, after a search for the number.
    joins : (size : ℕ) (l : Ledger F) → Holds o plain size l cells → answer o plain l (Join n x) ≡ cond (is_some p) (Refused 2) (if_room l)
    joins size l held =
        cond-false (eqb n 0) (Refused 1) (cond (present n l.lives) (Refused 2) (if_room l)) (ne_eqb n 0 some)
        ∙ ap (λ b. cond b (Refused 2) (if_room l)) (present_is n l.lives ∙ ap is_some (sym (found size l held)))

    pub join_present : is_some p ≡ true → Met o plain (Join n x) cells (Refused 2) cells
    join_present there = refused_met (Join n x) cells 2 (λ size l held. sym (joins size l held ∙ ap (λ b. cond b (Refused 2) (if_room l)) there))

    module _ (missing : is_some p ≡ false) (count : ℕ) (counted : OfLedger o plain cells (λ l. count ≡ length l.lives)) where
      absent : (size : ℕ) (l : Ledger F) → Holds o plain size l cells → answer o plain l (Join n x) ≡ if_room l
      absent size l held = joins size l held ∙ ap (λ b. cond b (Refused 2) (if_room l)) missing

      pub join_full : count ≡ capacity_of (length cells) → Met o plain (Join n x) cells (Refused 4) cells
      join_full full = refused_met (Join n x) cells 4 (λ size l held.
          let equal : length l.lives ≡ l.capacity = sym (counted size l held) ∙ full ∙ ap capacity_of (length_held held) ∙ sym held.room in
          sym (absent size l held ∙ cond-true (eqb (length l.lives) l.capacity) (Refused 4) Done (eq-eqb (length l.lives) l.capacity equal)))

      pub join_done : (after : List (Cell P)) → count < capacity_of (length cells)
          → ((size : ℕ) (l : Ledger F) → Holds o plain size l cells → count ≡ length l.lives → count < l.capacity → n ≢ 0 → Holds o plain size (joined l n x) after) → Met o plain (Join n x) cells Done after
      join_done after within work = answer_met (Join n x) cells Done after (λ size l held.
          let c : count ≡ length l.lives = counted size l held in
          let free : count < l.capacity = omega (arith, held.room, length_held held) in (
            sym (absent size l held ∙ cond-false (eqb (length l.lives) l.capacity) (Refused 4) Done (ne_eqb (length l.lives) l.capacity (λ e. omega arith))),
            work size l held c free some,
          ))

module _ {F P : Type 0} {o : Ops F} (L : Laws o) (plain : F → P) where
  pub clear_done : (before rest : List (Cell P)) → 0 < length before → rest ≡ replicate (length before - 1) (zero_cell o plain) → Met o plain Clear before Done (put_mid 1 (length before - 1) before rest)
  clear_done before rest some is size l held =
      let sized : length before ≡ size = length_held held in (
        refl,
        record {
          room = held.room;
          few = omega arith;
          numbered = tt;
          are = written_from before rest 1 ∙ ap₂ (λ xs ys. take 1 xs ++ ys) held.are (is ∙ ap (λ i. replicate (i - 1) (zero_cell o plain)) sized)
              ∙ cleared_laid L plain size l.whole l.lives (omega arith);
        },
      )
