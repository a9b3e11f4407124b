-- Words echoed one by one.
use Rattle.std.proofs.Common.{◌≡◌, ℕ, ◌+◌, ◌<◌, List, [], ◌∷◌, ◌++◌, map, length, get_or, drop, Bor, sym, ap, ◌∙◌, append_assoc}
use Rattle.std.proofs.lemmas.List.{drop_more}
use Rattle.text.specs.Text.{echoed, echoed_words}

pub word_more : (words : List (Bor (List ℕ))) (i : ℕ) (d : Bor (List ℕ)) (written : List ℕ) → i < length words
    → ((written ++ map echoed (get_or words i d).now) ++ (32 ∷ [])) ++ echoed_words (map (λ word. word.now) (drop (i + 1) words)) ≡ written ++ echoed_words (map (λ word. word.now) (drop i words))
word_more words i d written h =
    let word : List ℕ = map echoed (get_or words i d).now in
    let rest : List ℕ = echoed_words (map (λ word. word.now) (drop (i + 1) words)) in
    append_assoc (written ++ word) (32 ∷ []) rest ∙ append_assoc written word (32 ∷ rest)
    ∙ ap (λ ws. written ++ echoed_words (map (λ word. word.now) ws)) (sym (drop_more words i d h))
