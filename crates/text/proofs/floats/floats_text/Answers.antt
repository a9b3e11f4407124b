use Rattle.std.proofs.Common.{◌≡◌, ◌-◌, [], ◌∷◌, ◌++◌, length, take, drop, string_bytes, sym, subst, arith, rules, ltb-false, ltb-true, leb-false, leb-true}
use Rattle.text.proofs.FloatTexts.{first_text, text_more, text_all}
use Rattle.text.specs.Text.{others}
use Rattle.text.specs.Floats.{AreSpacedTextsOf}
use Rattle.text.proofs.floats.floats_text.Goals as goal

pub loop-x-init : goal.loop-x-init
loop-x-init c =
    first_text c.args.floats.now (string_bytes c.in_ok-text.text) (omega (arith, leb-true, leb-false, ltb-true, ltb-false)) c.in_ok-text.ensures

pub loop-x-preserved : goal.loop-x-preserved
loop-x-preserved c ts more =
    let rest = take (length c.args.floats.now - 1) (drop 1 c.args.floats.now) in
    let t = string_bytes c.in_ok-float_text.field-0 in
    let written = string_bytes c.loop-x.text in
    let b : string_bytes c.push_str-in-loop-x.new.self ≡ (written ++ (32 ∷ [])) ++ t = search rules in
    subst (λ text. AreSpacedTextsOf c.args.floats.now (text ++ others ts)) (sym b)
    (text_more c.args.floats.now rest c.loop-x.x-index t written (omega arith) c.in_ok-float_text.ensures c.loop-x.invariant ts more)

pub returns : goal.returns
returns c =
    let rest = take (length c.args.floats.now - 1) (drop 1 c.args.floats.now) in
    text_all c.args.floats.now rest c.loop-x.x-index (string_bytes c.loop-x.text) (omega arith) c.loop-x.invariant
