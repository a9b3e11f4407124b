-- Words parted at a slash: what three calls of `next` tell of the parts.
use Rattle.std.proofs.Common.{◌≡◌, ℕ, Bool, true, false, cond, List, [], ◌∷◌, map, Some, None, Option, Bor, sym, refl, ap, ap₂, ◌∙◌, subst}
use Rattle.std.specs.List.{slice_split, onto_first}
use Rattle.std.specs.Iterator.{AlwaysYields}
use Rattle.std.specs.Option.{option_map}
use Rattle.std.proofs.lemmas.Iterator.{YieldsList}
use Rattle.text.specs.Text.{is_slash, only_two, around_slash}

module _ {X Y : Type 0} (f : X → Y) where
  split_map : (p : Y → Bool) (xs : List X) → slice_split p (map f xs) ≡ map (map f) (slice_split (λ x. p (f x)) xs)
  split_map p [] = refl
  split_map p (x ∷ xs) =
      ap (λ parts. cond (p (f x)) ([] ∷ parts) (onto_first (f x) parts)) (split_map p xs) ∙ at (p (f x)) (slice_split (λ y. p (f y)) xs)
    where
      at : (b : Bool) (parts : List (List X)) → cond b ([] ∷ map (map f) parts) (onto_first (f x) (map (map f) parts)) ≡ map (map f) (cond b ([] ∷ parts) (onto_first x parts))
      at true parts = refl
      at false [] = refl
      at false (part ∷ parts) = refl

  only_two_map : (xs : List X) → only_two (map f xs) ≡ option_map (λ pair. (f pair.0, f pair.1)) (only_two xs)
  only_two_map [] = refl
  only_two_map (x ∷ []) = refl
  only_two_map (x ∷ y ∷ []) = refl
  only_two_map (x ∷ y ∷ z ∷ more) = refl

-- The parts of words that are lent, and what parting their bytes gives.
pub around : (words : List (Bor (List ℕ))) (o : Option (List (Bor (List ℕ)) × List (Bor (List ℕ)))) → only_two (slice_split (λ word. is_slash word.now) words) ≡ o
    → option_map (λ parts. (map (λ word. word.now) parts.0, map (λ word. word.now) parts.1)) o ≡ around_slash (map (λ word. word.now) words)
around words o e =
    ap (option_map (λ parts. (map (λ word. word.now) parts.0, map (λ word. word.now) parts.1))) (sym e)
    ∙ sym (ap only_two (split_map (λ word. word.now) is_slash words) ∙ only_two_map (map (λ word. word.now)) (slice_split (λ word. is_slash word.now) words))

-- The results a, b and c of three calls, from the states s, t and u.
module _ {S A B : Type 0} (steps : S → Option A → S → Type 0) (v : A → B) (s t u w : S) (a b c : Option A) (first : steps s a t) (second : steps t b u) (third : steps u c w) where
  pub two_yielded : (x y : A) → a ≡ Some x → b ≡ Some y → c ≡ None → (ys : List B) → YieldsList steps v s ys → only_two ys ≡ Some (v x, v y)
  two_yielded x y d e f ys runs = at ys runs.runs (subst (λ o. steps s o t) d first) (subst (λ o. steps t o u) e second) (subst (λ o. steps u o w) f third)
    where
      at : (ys : List B) → AlwaysYields steps v s ys → steps s (Some x) t → steps t (Some y) u → steps u None w → only_two ys ≡ Some (v x, v y)
      at [] runs h i j = absurd (runs x t h)
      at (k ∷ []) runs h i j = absurd ((runs.1 x t h).1 y u i)
      at (k ∷ l ∷ []) runs h i j = ap₂ (λ m n. Some (m, n)) (sym (runs.1 x t h).0) (sym ((runs.1 x t h).1.1 y u i).0)
      at (k ∷ l ∷ m ∷ more) runs h i j = absurd (((runs.1 x t h).1.1 y u i).1.0 w j)

  pub three_yielded : (x y z : A) → a ≡ Some x → b ≡ Some y → c ≡ Some z → (ys : List B) → YieldsList steps v s ys → only_two ys ≡ None
  three_yielded x y z d e f ys runs = at ys runs.runs (subst (λ o. steps s o t) d first) (subst (λ o. steps t o u) e second) (subst (λ o. steps u o w) f third)
    where
      at : (ys : List B) → AlwaysYields steps v s ys → steps s (Some x) t → steps t (Some y) u → steps u (Some z) w → only_two ys ≡ None
      at [] runs h i j = refl
      at (k ∷ []) runs h i j = refl
      at (k ∷ l ∷ []) runs h i j = absurd (((runs.1 x t h).1.1 y u i).1 z w j)
      at (k ∷ l ∷ m ∷ more) runs h i j = refl

  pub one_yielded : (x : A) → a ≡ Some x → b ≡ None → (ys : List B) → YieldsList steps v s ys → only_two ys ≡ None
  one_yielded x d e ys runs = at ys runs.runs (subst (λ o. steps s o t) d first) (subst (λ o. steps t o u) e second)
    where
      at : (ys : List B) → AlwaysYields steps v s ys → steps s (Some x) t → steps t None u → only_two ys ≡ None
      at [] runs h i = refl
      at (k ∷ []) runs h i = refl
      at (k ∷ l ∷ more) runs h i = absurd ((runs.1 x t h).1.0 u i)

  pub none_yielded : a ≡ None → (ys : List B) → YieldsList steps v s ys → only_two ys ≡ None
  none_yielded d ys runs = at ys runs.runs (subst (λ o. steps s o t) d first)
    where
      at : (ys : List B) → AlwaysYields steps v s ys → steps s None t → only_two ys ≡ None
      at [] runs h = refl
      at (k ∷ more) runs h = absurd (runs.0 t h)
