-- One pass of the triangle over a row of figures: for contracts inside the crate.
use Rattle.std.specs.Prelude.{List, [], ◌∷◌, slice_index_or}
use Rattle.algebra.specs.Ring.{Ops}

-- Each entry less the new one above it; above the last stands nothing.
abbrev pub differences : {F : Type 0} → Ops F → List F → List F
differences o [] = []
differences o (x ∷ xs) = o.plus x (o.minus (slice_index_or (differences o xs) 0 o.zero)) ∷ differences o xs
