-- What calls of a closure that gives x each time have filled a list with.
use Rattle.std.proofs.Common.{◌≡◌, ℕ, List, [], ◌∷◌, length, replicate, refl, ap, ◌∙◌, subst, ap₂}
use Rattle.std.specs.List.{FoldsTo}

module _ {F X : Type 0} (R : F → X → F → Type 0) (x : X) (f : F) (gives : (y : X) (f' : F) → R f y f' → (y ≡ x) × (f' ≡ f)) where
  filled_all : (ys : List X) (last : F) → FoldsTo R f ys last → ys ≡ replicate (length ys) x
  filled_all [] last ran = refl
  filled_all (y ∷ ys) last ran =
      let one : (y ≡ x) × (ran.0 ≡ f) = gives y ran.0 ran.1 in
      ap₂ ◌∷◌ one.0 (filled_all ys last (subst (λ j. FoldsTo R j ys last) one.1 ran.2))

  pub filled : (ys : List X) (n : ℕ) → length ys ≡ n → (last : F) × FoldsTo R f ys last → ys ≡ replicate n x
  filled ys n long ran = filled_all ys ran.0 ran.1 ∙ ap (λ i. replicate i x) long
