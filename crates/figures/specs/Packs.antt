-- What a reply can hold.
use Rattle.std.specs.Prelude.{◌≡◌, ℕ, ◌^◌, ◌<◌, ◌≤◌}

-- A kind number, a width and a figure that a record has room for: a kind from 1 to 3, at most 64 bits, and kind 2 holds residues.
pub record Admitted (kind width figure : ℕ) : Type 0 where
  pub least : 1 ≤ kind
  pub greatest : kind ≤ 3
  pub room : width ≤ 64
  pub fits : figure < 2 ^ width
  pub residue : kind ≡ 2 → figure < 2147483647
