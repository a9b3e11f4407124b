-- The row of exactly k alive, when one life more joins at the end.
use Rattle.std.proofs.Common.{◌≡◌, ℕ, zero, suc, ◌+◌, List, [], ◌∷◌, ◌++◌, map, sym, refl, ap, ◌∙◌, subst, ap₂, append-nil, add-one}
use Rattle.std.specs.List.{range_with_len}
use Rattle.algebra.specs.Ring.{Semi}
use Rattle.algebra.specs.Patterns.{Life, exactly}
use Rattle.algebra.specs.Rows.{row}
use Rattle.algebra.proofs.Semiring.{SemiLaws}
use Rattle.algebra.proofs.Solver.{semiring, made}
use Rattle.algebra.proofs.Patterns.{exactly_zero_at, exactly_suc_at}
use Rattle.algebra.proofs.Rows.{below}

module _ {F : Type 0} {s : Semi F} (L : SemiLaws s) where
  -- One life at the end.
  exactly_zero_end : (ls : List (Life F)) (l : Life F) → exactly s 0 (ls ++ (l ∷ [])) ≡ s.times l.dead (exactly s 0 ls)
  exactly_zero_end ls l = exactly_zero_at L l ls [] ∙ ap (λ xs. s.times l.dead (exactly s 0 xs)) (append-nil ls)

  exactly_suc_end : (ls : List (Life F)) (l : Life F) (k : ℕ) → exactly s (suc k) (ls ++ (l ∷ [])) ≡ s.plus (s.times l.alive (exactly s k ls)) (s.times l.dead (exactly s (suc k) ls))
  exactly_suc_end ls l k = exactly_suc_at L l ls [] k ∙ ap (λ xs. s.plus (s.times l.alive (exactly s k xs)) (s.times l.dead (exactly s (suc k) xs))) (append-nil ls)

-- One life more, from the lowest place up; `below` is the old entry of the place below.
abbrev pub compose : {F : Type 0} → Semi F → Life F → F → List F → List F
compose s l below [] = []
compose s l below (x ∷ xs) = s.plus (s.times l.alive below) (s.times l.dead x) ∷ compose s l x xs

module _ {F : Type 0} {s : Semi F} (L : SemiLaws s) (ls : List (Life F)) (l : Life F) where
  abbrev before : ℕ → F
  before = below s.zero (λ k. exactly s k ls)

  composed : (k : ℕ) → s.plus (s.times l.alive (before k)) (s.times l.dead (exactly s k ls)) ≡ exactly s k (ls ++ (l ∷ []))
  composed zero = semiring L (l.alive ∷ l.dead ∷ exactly s 0 ls ∷ []) (search made depth 40 fits 100000) tt ∙ sym (exactly_zero_end L ls l)
  composed (suc k) = sym (exactly_suc_end L ls l k)

  compose_counting : (a n : ℕ) → compose s l (before a) (map (λ k. exactly s k ls) (range_with_len a n)) ≡ map (λ k. exactly s k (ls ++ (l ∷ []))) (range_with_len a n)
  compose_counting a zero = refl
  compose_counting a (suc n) = ap₂ ◌∷◌ (composed a) (subst (λ x. compose s l x (map (λ k. exactly s k ls) (range_with_len (a + 1) n)) ≡ map (λ k. exactly s k (ls ++ (l ∷ []))) (range_with_len (a + 1) n)) (ap before (add-one a)) (compose_counting (a + 1) n))

  pub compose_row : (size : ℕ) → compose s l s.zero (row s size ls) ≡ row s size (ls ++ (l ∷ []))
  compose_row size = compose_counting 0 size
