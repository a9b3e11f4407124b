-- Survival patterns, their weights, and sums over them.
use Rattle.std.specs.Prelude.{ℕ, zero, suc, ◌+◌, ◌-◌, ◌*◌, Bool, true, false, cond, List, [], ◌∷◌, ◌++◌, map, length, nat_eq, nat_le}
use Rattle.algebra.specs.Ring.{Semi}

-- A life by its two worths: the factor that it brings where it is alive, and where it is dead.
pub record Life (F : Type 0) : Type 0 where
  pub alive : F
  pub dead : F

-- All survival patterns of n lives: each marks every life alive (true) or dead (false).
abbrev pub patterns : ℕ → List (List Bool)
patterns zero = [] ∷ []
patterns (suc n) = map (λ p. true ∷ p) (patterns n) ++ map (λ p. false ∷ p) (patterns n)

-- How many a pattern marks alive.
abbrev pub survivors : List Bool → ℕ
survivors [] = 0
survivors (true ∷ p) = suc (survivors p)
survivors (false ∷ p) = survivors p

-- The elements that pass a test.
abbrev pub kept : {A : Type 0} → (A → Bool) → List A → List A
kept test [] = []
kept test (x ∷ xs) = cond (test x) (x ∷ kept test xs) (kept test xs)

module _ {F : Type 0} (s : Semi F) where
  abbrev pub total : List F → F
  total [] = s.zero
  total (x ∷ xs) = s.plus x (total xs)

  -- The product over all lives of the worth that the pattern picks; one for no lives. (A pattern has a mark for each
  -- life, so its end is never met before theirs.)
  abbrev pub weight : List (Life F) → List Bool → F
  weight [] p = s.one
  weight (l ∷ ls) [] = s.one
  weight (l ∷ ls) (m ∷ p) = s.times (cond m l.alive l.dead) (weight ls p)

  -- The sum of the weights of the patterns that pass a test; zero where none does.
  abbrev pub weights : (List Bool → Bool) → List (Life F) → F
  weights test ls = total (map (weight ls) (kept test (patterns (length ls))))

  -- Exactly k alive, and at least k alive.
  abbrev pub exactly : ℕ → List (Life F) → F
  exactly k ls = weights (λ p. nat_eq (survivors p) k) ls

  abbrev pub at_least : ℕ → List (Life F) → F
  at_least k ls = weights (λ p. nat_le k (survivors p)) ls

-- Ordinary whole numbers.
abbrev pub naturals : Semi ℕ
naturals = record { zero = 0; one = 1; plus = ◌+◌; times = ◌*◌ }

-- A life p against the whole d, in ordinary whole numbers, and a list of them: p where alive, d − p where dead.
abbrev pub natural_life : ℕ → ℕ → Life ℕ
natural_life d p = record { alive = p; dead = d - p }

abbrev pub natural_lives : ℕ → List ℕ → List (Life ℕ)
natural_lives d ps = map (natural_life d) ps
