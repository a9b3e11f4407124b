use Rattle.std.proofs.Common.{◌≡◌, string_bytes, decimal, rules}
use Rattle.std.proofs.lemmas.Result.{IfOk-weaker}
use Rattle.text.proofs.FloatTexts.{digits_of}
use Rattle.text.specs.Floats.{IsTextOf}
use Rattle.text.proofs.floats.float_text.Goals as goal

pub returns-in-Some : goal.returns-in-Some
returns-in-Some c =
    IfOk-weaker c.to_string.result (λ s. string_bytes s ≡ decimal c.in-Some.n) (λ s. IsTextOf c.args.x (string_bytes s))
    (λ s. digits_of c.args.x c.in-Some.n (string_bytes s) c.in-Some.ensures) (search rules)
