-- Tables of figures in their plain form.
use Rattle.std.proofs.Common.{◌≡◌, ℕ, ◌-◌, List, [], ◌∷◌, ◌++◌, map, length, take, drop, refl, ap, ◌∙◌, ap₂, append-nil, arith, length-drop}
use Rattle.std.proofs.lemmas.List.{drop_all}

-- The figures that the entries stand for.
pub figures_back : {F P : Type 0} (plain : F → P) (figure : P → F) → ((x : F) → figure (plain x) ≡ x) → (xs : List F) → map figure (map plain xs) ≡ xs
figures_back plain figure back [] = refl
figures_back plain figure back (x ∷ xs) = ap₂ ◌∷◌ (back x) (figures_back plain figure back xs)

-- A list that is written from place i on.
pub written_from : {X : Type 0} (xs new : List X) (i : ℕ) → take i xs ++ (new ++ drop (length xs - i) (drop i xs)) ≡ take i xs ++ new
written_from xs new i =
    let none : drop (length xs - i) (drop i xs) ≡ [] = drop_all (length xs - i) (drop i xs) (omega (arith, length-drop i xs)) in
    ap (λ ys. take i xs ++ ys) (ap (λ ys. new ++ ys) none ∙ append-nil new)
