-- Entries written one by one.
use Rattle.std.proofs.Common.{◌≡◌, ℕ, ◌+◌, ◌-◌, ◌<◌, ◌≤◌, List, [], ◌∷◌, ◌++◌, map, length, get_or, take, drop, sym, refl, ap, ◌∙◌, append_assoc, append-nil, arith}
use Rattle.std.proofs.lemmas.List.{drop_more, drop_all}
use Rattle.std.proofs.lemmas.Slice.{first_rest}
use Rattle.text.specs.Text.{others, spaced}

module _ {P : Type 0} (text : P → List ℕ) where
  pub entry_more : (rest : List P) (i : ℕ) (x : P) (written : List ℕ) → i < length rest → x ≡ get_or rest i x
      → ((written ++ (32 ∷ [])) ++ text x) ++ others (map text (drop (i + 1) rest)) ≡ written ++ others (map text (drop i rest))
  entry_more rest i x written h e =
      let here : drop i rest ≡ x ∷ drop (i + 1) rest = drop_more rest i x h ∙ ap (λ y. y ∷ drop (i + 1) rest) (sym e) in
      let tail : List ℕ = others (map text (drop (i + 1) rest)) in
      append_assoc (written ++ (32 ∷ [])) (text x) tail ∙ append_assoc written (32 ∷ []) (text x ++ tail)
      ∙ ap (λ xs. written ++ others (map text xs)) (sym here)

  pub entry_all : (rest : List P) (i : ℕ) (written : List ℕ) → length rest ≤ i → written ++ others (map text (drop i rest)) ≡ written
  entry_all rest i written h = ap (λ xs. written ++ others (map text xs)) (drop_all i rest h) ∙ append-nil written

  pub entry_first : (table : List P) (x : P) → 0 < length table → x ≡ get_or table 0 x
      → text x ++ others (map text (take (length table - 1) (drop 1 table))) ≡ spaced (map text table)
  entry_first table x h e = sym (ap (λ xs. spaced (map text xs)) (first_rest table x h ∙ ap (λ y. y ∷ take (length table - 1) (drop 1 table)) (sym e)))

  pub no_entries : (table : List P) → length table ≡ 0 → spaced (map text table) ≡ []
  no_entries [] h = refl
  no_entries (x ∷ xs) h = absurd (omega arith)
