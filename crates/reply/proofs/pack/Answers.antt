use Rattle.std.proofs.Common.{◌≡◌, ◌^◌, ◌<◌, length, ap, ◌∙◌, div-one, arith}
use Rattle.std.specs.Int.Digits.{number_from_digits}
use Rattle.reply.specs.Rules.{fields_of}
use Rattle.reply.proofs.Bytes.{bytes_of, number_bytes}
use Rattle.reply.proofs.Places.{placed}
use Rattle.reply.proofs.Records.{replied_narrow, holds_placed}
use Rattle.reply.proofs.pack.Goals as goal

pub placed-requires-clause-kind : goal.placed-requires-clause-kind
placed-requires-clause-kind g c =
    let p = g.F.Packable in
    let reply = c.args.reply in
    let narrow = replied_narrow p.KIND p.WIDTH p.bits g.F.Ring.ops.zero g.met.F.Packable.admitted reply.lives.number reply.lives.bound reply.reply in
    rw c.fields.ensures narrow.kind

pub returns-clause-holds : goal.returns-clause-holds
returns-clause-holds g c =
    let p = g.F.Packable in
    let reply = c.args.reply in
    let narrow = replied_narrow p.KIND p.WIDTH p.bits g.F.Ring.ops.zero g.met.F.Packable.admitted reply.lives.number reply.lives.bound reply.reply in
    let bytes : c.to_be_bytes.result ≡ bytes_of 16 c.placed.result = rw div-one c.to_be_bytes.ensures in
    let small : c.placed.result < 2 ^ 128 = omega arith in
    holds_placed c.to_be_bytes.result (fields_of p.KIND p.bits reply) narrow
    (ap length bytes)
    (ap (number_from_digits 256) bytes ∙ number_bytes c.placed.result small ∙ c.placed.ensures ∙ ap placed c.fields.ensures)
