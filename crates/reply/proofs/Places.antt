-- Fields put at their places are found there again.
use Rattle.std.proofs.Common.{◌≡◌, ℕ, ◌+◌, ◌*◌, ◌^◌, ◌<◌, arith}
use Rattle.reply.specs.Layout.{part}
use Rattle.reply.specs.declared.Fields.{Fields}

abbrev pub placed : Fields → ℕ
placed f = f.kind * 2 ^ 126 + f.question * 2 ^ 123 + f.refusal * 2 ^ 117 + f.k * 2 ^ 110 + f.lives * 2 ^ 103 + f.figure

abbrev pub fields_at : ℕ → Fields
fields_at n = record { kind = part n 0 2; question = part n 2 3; refusal = part n 5 6; k = part n 11 7; lives = part n 18 7; figure = part n 64 64 }

module _ (kind question refusal k lives figure : ℕ)
    (a : kind < 4) (b : question < 8) (c : refusal < 64) (d : k < 128) (e : lives < 128) (f : figure < 2 ^ 64) where
  abbrev fields : Fields
  fields = record { kind = kind; question = question; refusal = refusal; k = k; lives = lives; figure = figure }

  pub fields_found : fields_at (placed fields) ≡ fields
  fields_found =
      let kind_is : part (placed fields) 0 2 ≡ kind = omega arith in
      let question_is : part (placed fields) 2 3 ≡ question = omega arith in
      let refusal_is : part (placed fields) 5 6 ≡ refusal = omega arith in
      let k_is : part (placed fields) 11 7 ≡ k = omega arith in
      let lives_is : part (placed fields) 18 7 ≡ lives = omega arith in
      let figure_is : part (placed fields) 64 64 ≡ figure = omega arith in
      λ i. record { kind = kind_is i; question = question_is i; refusal = refusal_is i; k = k_is i; lives = lives_is i; figure = figure_is i }

  pub spare_found : part (placed fields) 25 39 ≡ 0
  spare_found = omega arith

-- And a number with a spare of zeros is made of its parts.
pub parts_placed : (n : ℕ) → n < 2 ^ 128 → part n 25 39 ≡ 0 → placed (fields_at n) ≡ n
parts_placed n h spare = omega arith
