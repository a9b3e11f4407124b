-- A record's fields are narrow enough for their places, and acceptable.
use Rattle.std.proofs.Common.{◌≡◌, ℕ, ◌^◌, ◌<◌, ◌≤◌, Bool, true, false, cond, ◌&&◌, ◌||◌, eqb, List, length, Ok, Err, Result, sym, refl, ap, ◌∙◌, subst, lt_of_lt_of_le, arith, lit<, pow_mono, eq-eqb, eqb-true, le-leb}
use Rattle.std.specs.Int.Digits.{number_from_digits, AllBelowBase}
use Rattle.std.proofs.lemmas.Int.Digits.{number_lt}
use Rattle.std.proofs.lemmas.Bool.{and_parts}
use Rattle.std.proofs.lemmas.Bool.Decides.{nat_tests}
use Rattle.figures.specs.Packs.{Admitted}
use Rattle.reply.specs.Layout.{part, fields_in, spare_in, Holds}
use Rattle.reply.specs.Rules.{replied, question_number, kindly, acceptable, checked, unpacked}
use Rattle.reply.specs.declared.Fields.{Fields}
use Rattle.reply.specs.declared.Question.{Question}
use Rattle.reply.specs.declared.Question.TheVariants.{Exactly, AtLeast}
use Rattle.reply.specs.declared.Refusal.{Refusal}
use Rattle.reply.specs.declared.Refusal.TheVariants.{WrongSize, Unacceptable}
use Rattle.reply.specs.declared.Reply.{Reply}
use Rattle.reply.specs.declared.Reply.TheVariants.{Answered, Refused, Lives}
use Rattle.reply.proofs.Bytes.{same_bytes}
use Rattle.reply.proofs.Places.{placed, fields_at, parts_placed, fields_found, spare_found}

pub record Narrow (f : Fields) : Type 0 where
  pub kind : f.kind < 4
  pub question : f.question < 8
  pub refusal : f.refusal < 64
  pub k : f.k < 128
  pub lives : f.lives < 128
  pub figure : f.figure < 2 ^ 64

question_narrow : (q : Question) → question_number q < 8
question_narrow Exactly = lit< tt
question_narrow AtLeast = lit< tt

question_counts : (q : Question) → (eqb (question_number q) 1 || eqb (question_number q) 2) ≡ true
question_counts Exactly = refl
question_counts AtLeast = refl

kind_true : (f : Fields) → 1 ≤ f.kind → f.kind ≤ 3 → (f.kind ≡ 2 → f.figure < 2147483647) → kindly f ≡ true
kind_true f low high residue = grind (arith, nat_tests)

module _ {F : Type 0} (kind width : ℕ) (bits : F → ℕ) (some : F) (admitted : (x : F) → Admitted kind width (bits x)) where
  small : (x : F) → bits x < 2 ^ 64
  small x = lt_of_lt_of_le (admitted x).fits (pow_mono (admitted x).room)

  pub replied_narrow : (n : ℕ) → n ≤ 64 → (a : Reply F) → Narrow (replied kind bits n a)
  replied_narrow n h (Answered q k x) = record { kind = omega (arith, (admitted x).greatest); question = question_narrow q; refusal = lit< tt; k = omega (arith, k.bound); lives = omega arith; figure = small x }
  replied_narrow n h (Refused q) = record { kind = omega (arith, (admitted some).greatest); question = question_narrow q; refusal = lit< tt; k = lit< tt; lives = omega arith; figure = lit< tt }
  replied_narrow n h Lives = record { kind = omega (arith, (admitted some).greatest); question = lit< tt; refusal = lit< tt; k = lit< tt; lives = omega arith; figure = lit< tt }

  kind_ok : (f : Fields) (x : F) → f.kind ≡ kind → (f.kind ≡ 2 → f.figure < 2147483647) → kindly f ≡ true
  kind_ok f x e = kind_true f (omega (arith, (admitted x).least)) (omega (arith, (admitted x).greatest))

  pub replied_acceptable : (n : ℕ) → n ≤ 64 → (a : Reply F) → acceptable (replied kind bits n a) ≡ true
  replied_acceptable n h (Answered q k x) =
      rw (kind_ok (replied kind bits n (Answered q k x)) x refl (admitted x).residue, le-leb n 64 h, le-leb k.number 64 k.bound, question_counts q) refl
  replied_acceptable n h (Refused q) =
      rw (kind_ok (replied kind bits n (Refused q)) some refl (λ _. lit< tt), le-leb n 64 h, question_counts q) refl
  replied_acceptable n h Lives = rw (kind_ok (replied kind bits n Lives) some refl (λ _. lit< tt), le-leb n 64 h) refl

-- Bytes that write the fields at their places hold them.
pub holds_placed : (bytes : List ℕ) (f : Fields) → Narrow f → length bytes ≡ 16 → number_from_digits 256 bytes ≡ placed f → Holds bytes f
holds_placed bytes f w long e = record {
  size = long;
  fields = ap fields_at e ∙ fields_found f.kind f.question f.refusal f.k f.lives f.figure w.kind w.question w.refusal w.k w.lives w.figure;
  spare = ap (λ n. part n 25 39) e ∙ spare_found f.kind f.question f.refusal f.k f.lives f.figure w.kind w.question w.refusal w.k w.lives w.figure;
}

-- And 16 bytes that hold fields write them at their places.
placed_holds : (bytes : List ℕ) (f : Fields) → AllBelowBase 256 bytes → Holds bytes f → number_from_digits 256 bytes ≡ placed f
placed_holds bytes f under h =
    let small : number_from_digits 256 bytes < 2 ^ 128 = subst (λ n. number_from_digits 256 bytes < 256 ^ n) h.size (number_lt 256 bytes under) in
    sym (parts_placed (number_from_digits 256 bytes) small h.spare) ∙ ap placed h.fields

-- So the fields tell the bytes.
pub same_holds : (xs ys : List ℕ) (f : Fields) → AllBelowBase 256 xs → AllBelowBase 256 ys → Holds xs f → Holds ys f → xs ≡ ys
same_holds xs ys f us vs h k =
    same_bytes xs ys (h.size ∙ sym k.size) us vs (placed_holds xs f us h ∙ sym (placed_holds ys f vs k))

-- A record that holds acceptable fields is read as them.
pub holds_unpacked : (bytes : List ℕ) (f : Fields) → Holds bytes f → acceptable f ≡ true → unpacked bytes ≡ Ok f
holds_unpacked bytes f h ok =
    let long : eqb (length bytes) 16 ≡ true = eq-eqb _ _ h.size in
    let spare : eqb (spare_in bytes) 0 ≡ true = eq-eqb _ _ h.spare in
    let fine : acceptable (fields_in bytes) ≡ true = ap acceptable h.fields ∙ ok in
    rw (long, spare, fine) (ap Ok h.fields)

pub ok_err : {T E : Type 0} {x : T} {e : E} → ◌≡◌ {A = Result T E} (Ok x) (Err e) → ⊥
ok_err h = let z : ◌≡◌ {A = ℕ} 0 1 = cc in absurd (omega arith)

-- What an accepted record says of its bytes.
pub accepted : {A : Type 0} (bytes : List ℕ) (f : Fields) (a : A) → unpacked bytes ≡ Ok f
    → Holds bytes f × (acceptable f ≡ true) × (checked bytes a ≡ Ok a)
accepted bytes f a e = by_size (eqb (length bytes) 16) refl e
  where
    by_rules : length bytes ≡ 16 → (b : Bool) → (eqb (spare_in bytes) 0 && acceptable (fields_in bytes)) ≡ b → cond b (Ok (fields_in bytes)) (Err Unacceptable) ≡ Ok f
        → Holds bytes f × (acceptable f ≡ true) × (cond b (Ok a) (Err Unacceptable) ≡ Ok a)
    by_rules long true t e =
        let same : fields_in bytes ≡ f = cc in
        (record { size = long; fields = same; spare = eqb-true _ _ (and_parts _ _ t).0 }, ap acceptable (sym same) ∙ (and_parts _ _ t).1, refl)
    by_rules long false t e = absurd (ok_err (sym e))

    by_size : (b : Bool) → eqb (length bytes) 16 ≡ b → cond b (cond (eqb (spare_in bytes) 0 && acceptable (fields_in bytes)) (Ok (fields_in bytes)) (Err Unacceptable)) (Err WrongSize) ≡ Ok f
        → Holds bytes f × (acceptable f ≡ true) × (cond b (cond (eqb (spare_in bytes) 0 && acceptable (fields_in bytes)) (Ok a) (Err Unacceptable)) (Err WrongSize) ≡ Ok a)
    by_size true t e = by_rules (eqb-true _ _ t) (eqb (spare_in bytes) 0 && acceptable (fields_in bytes)) refl e
    by_size false t e = absurd (ok_err (sym e))

-- And a refused one is refused whatever it would have given.
pub refused_alike : {A : Type 0} (bytes : List ℕ) (e : Refusal) (a : A) → unpacked bytes ≡ Err e → checked bytes a ≡ Err e
refused_alike bytes e a h = by_size (eqb (length bytes) 16) h
  where
    by_rules : (b : Bool) → cond b (Ok (fields_in bytes)) (Err Unacceptable) ≡ Err e → cond b (Ok a) (Err Unacceptable) ≡ Err e
    by_rules true h = absurd (ok_err h)
    by_rules false h = let same : Unacceptable ≡ e = cc in ap Err same

    by_size : (b : Bool) → cond b (cond (eqb (spare_in bytes) 0 && acceptable (fields_in bytes)) (Ok (fields_in bytes)) (Err Unacceptable)) (Err WrongSize) ≡ Err e
        → cond b (cond (eqb (spare_in bytes) 0 && acceptable (fields_in bytes)) (Ok a) (Err Unacceptable)) (Err WrongSize) ≡ Err e
    by_size true h = by_rules (eqb (spare_in bytes) 0 && acceptable (fields_in bytes)) h
    by_size false h = let same : WrongSize ≡ e = cc in ap Err same
