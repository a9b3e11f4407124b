use Rattle.std.proofs.Common.{◌∙◌}
use Rattle.reply.specs.Rules.{fields_of}
use Rattle.reply.proofs.Records.{replied_acceptable, holds_unpacked}
use Rattle.reply.proofs.pack_then_unpack.Goals as goal

pub returns : goal.returns
returns g c =
    let p = g.F.Packable in
    let reply = c.args.reply in
    c.unpack.ensures ∙ holds_unpacked _ (fields_of p.KIND p.bits reply) c.pack.ensures.holds
    (replied_acceptable p.KIND p.WIDTH p.bits g.F.Ring.ops.zero g.met.F.Packable.admitted reply.lives.number reply.lives.bound reply.reply)
