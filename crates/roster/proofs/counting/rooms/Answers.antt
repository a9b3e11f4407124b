use Rattle.std.proofs.Common.{take, drop, sym, ap, ◌∙◌}
use Rattle.std.proofs.lemmas.List.{take_min}
use Rattle.roster.proofs.counting.rooms.Goals as goal

pub returns-in-Some : goal.returns-in-Some
returns-in-Some g c =
    ap (λ n. take n c.in-Some.lives.now) c.min.ensures ∙ take_min 64 c.in-Some.lives.now
    ∙ ap (λ cells. take 64 (drop 1 cells)) (sym c.in-Some.ensures.cases.0)
