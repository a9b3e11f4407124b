-- What a roster replies can be read back.
use Rattle.std.proofs.Common.{◌≡◌, ℕ, ◌≤◌, Bool, true, false, cond, ◌&&◌, eqb, leb, List, length, take, Ok, Err, Result, refl, subst, arith, take_all, leb-true}
use Rattle.std.proofs.lemmas.Bool.{cond_both}
use Rattle.algebra.specs.Ring.{Ops}
use Rattle.figures.specs.Packs.{Admitted}
use Rattle.roster.specs.Cells as cells
use Rattle.roster.specs.Ledger.{Ledger, exactly_of, at_least_of}
use Rattle.roster.specs.declared.cells.Cell.{Cell}
use Rattle.reply.specs.Asked.{counted, asking, fields_for, Written}
use Rattle.reply.specs.Layout.{Holds}
use Rattle.reply.specs.Rules.{acceptable, question_number, unpacked}
use Rattle.reply.specs.declared.Fields.{Fields}
use Rattle.reply.specs.declared.Question.{Question}
use Rattle.reply.specs.declared.Question.TheVariants.{Exactly, AtLeast}
use Rattle.reply.specs.declared.asked.Unwritten.{Unwritten}
use Rattle.reply.specs.declared.asked.Unwritten.TheVariants.{UnknownQuestion}
use Rattle.reply.specs.declared.Reply.TheVariants.{Answered, Refused, Lives}
use Rattle.reply.proofs.Records.{replied_acceptable, holds_unpacked, ok_err}

module _ {F P : Type 0} (o : Ops F) (plain : F → P) (kind width : ℕ) (bits : F → ℕ) (admitted : (x : F) → Admitted kind width (bits x)) where
  counted_acceptable : (q : Question) (n k : ℕ) (x : F) → n ≤ 64 → acceptable (counted kind (question_number q) n k (bits x)) ≡ true
  counted_acceptable q n k x few =
      cond_both (leb k 64) _ _ (λ f. acceptable f ≡ true)
      (λ e. replied_acceptable kind width bits o.zero admitted n few (Answered q (record { number = k; bound = leb-true k 64 e }) x))
      (λ _. replied_acceptable kind width bits o.zero admitted n few (Refused q))

  fields_acceptable : (l : Ledger F) (question k : ℕ) → length l.lives ≤ 64 → acceptable (fields_for o plain kind bits l question k) ≡ true
  fields_acceptable l question k few =
      let n : ℕ = length l.lives in
      cond_both (eqb question 1) _ _ (λ f. acceptable f ≡ true) (λ _. counted_acceptable Exactly n k (exactly_of o plain l k) few)
      (λ _. cond_both (eqb question 2) _ _ (λ f. acceptable f ≡ true) (λ _. counted_acceptable AtLeast n k (at_least_of o plain l k) few)
      (λ _. replied_acceptable kind width bits o.zero admitted n few Lives))

  -- Sixteen bytes that a reply filled are read as the fields of its answer.
  pub replied_unpacked : (before : List (Cell P)) (question k : ℕ) (old new : List ℕ) → length new ≡ 16 → Written o plain kind bits before question k old new
      → (size : ℕ) (l : Ledger F) → cells.Holds o plain size l before → unpacked new ≡ Ok (fields_for o plain kind bits l question k)
  replied_unpacked before question k old new long written size l held =
      let f : Fields = fields_for o plain kind bits l question k in
      let all : take 16 new ≡ new = take_all 16 new (omega (arith, long)) in
      let few : length l.lives ≤ 64 = omega (arith, held.few, held.room) in
      holds_unpacked new f (subst (λ xs. Holds xs f) all (written.answer size l held)) (fields_acceptable l question k few)

-- A question that was not refused is asked, whatever comes of it.
pub asked_so : {U A : Type 0} (question : ℕ) (u : U) (a : A) → Ok u ≡ asking 16 question u → Ok a ≡ asking 16 question a
asked_so {U = U} {A = A} question u a e = by_question (leb 1 question && leb question 3) e
  where
    by_question : (b : Bool) → ◌≡◌ {A = Result U Unwritten} (Ok u) (cond b (Ok u) (Err UnknownQuestion)) → ◌≡◌ {A = Result A Unwritten} (Ok a) (cond b (Ok a) (Err UnknownQuestion))
    by_question true e = refl
    by_question false e = absurd (ok_err e)
