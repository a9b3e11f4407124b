use Rattle.std.proofs.Common.{◌≡◌, ◌∷◌, ◌++◌, string_bytes, IfOk, rules, append_assoc}
use Rattle.std.proofs.lemmas.Result.{IfOk-weaker}
use Rattle.text.specs.Text.{slope_text}
use Rattle.text.proofs.typed.DualTyped.show.Goals as goal

pub returns : goal.returns
returns g c =
    let written : IfOk c.format.result (λ s. string_bytes s ≡ string_bytes c.in_ok-value.value ++ (58 ∷ string_bytes c.in_ok-rate.rate)) = search rules in
    IfOk-weaker c.format.result (λ s. string_bytes s ≡ string_bytes c.in_ok-value.value ++ (58 ∷ string_bytes c.in_ok-rate.rate)) (λ s. string_bytes s ≡ slope_text g.P.Typed.text c.args.self.now)
    (λ s e. rw (append_assoc, ← c.in_ok-value.ensures, ← c.in_ok-rate.ensures) e) written
