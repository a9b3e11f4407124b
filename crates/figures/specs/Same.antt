-- A proof, nothing to believe: equal numbers make equal figures, since the bound beside a number has one proof at most.
use Rattle.std.specs.Prelude.{◌≡◌, ℕ, ◌<◌}
use mathlib.Core.Path.{PathP}
use mathlib.Core.HLevel.{is_prop→PathP}
use Rattle.std.proofs.Math.Bridge.{le_prop}
use Rattle.figures.specs.declared.kinds.Word.{Word}
use Rattle.figures.specs.declared.kinds.Residue.{Residue}
use Rattle.figures.specs.declared.kinds.Scenarios.{Scenarios}

same_bound : {m a b : ℕ} (e : a ≡ b) (p : a < m) (q : b < m) → PathP (λ k. e k < m) p q
same_bound {m} e p q = is_prop→PathP (λ k. e k < m) (λ k. le_prop) p q

pub same_word : (x y : Word) → x.number ≡ y.number → x ≡ y
same_word x y e = λ j. record { number = e j; fits = same_bound e x.fits y.fits j }

pub same_residue : (x y : Residue) → x.number ≡ y.number → x ≡ y
same_residue x y e = λ j. record { number = e j; below = same_bound e x.below y.below j }

pub same_scenarios : (x y : Scenarios) → x.bits ≡ y.bits → x ≡ y
same_scenarios x y e = λ j. record { bits = e j; fits = same_bound e x.fits y.fits j }
