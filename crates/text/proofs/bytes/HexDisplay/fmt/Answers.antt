use Rattle.std.proofs.Common.{◌-◌, ◌^◌, ◌<◌, false, [], length, get_or, rules, arith}
use Rattle.std.proofs.Output.{has_written_append, has_written_of_eq}
use Rattle.std.specs.Fmt.{HasWritten, digits, format_spec, padded_integral}
use Rattle.text.proofs.Digits.{text_more}
use Rattle.text.proofs.bytes.HexDisplay.fmt.Goals as goal

pub loop-b-preserved : goal.loop-b-preserved
loop-b-preserved g c p =
    let bytes = c.args.self.now.0.now in
    let b = get_or bytes c.loop-b.b-index 0 in
    let h : c.loop-b.b-index < length bytes = omega arith in
    let fits : b < 256 = search rules in
    let before = c.loop-b.invariant p in
    let one : HasWritten g.W.Write.write_str_gives c.loop-b.f (padded_integral (format_spec 32 0 4 2 (2 ^ 64 - 1)) false [] (digits 16 false b)) c.write.new.self = search rules in
    has_written_of_eq _ _ _ _ _ (text_more bytes c.loop-b.b-index h fits) (has_written_append _ _ _ _ _ _ before one)
