use Rattle.std.proofs.Common.{ap, ◌∙◌, arith, Ok}
use Rattle.reply.specs.Asked.{fields_for}
use Rattle.reply.proofs.Questions.{asked_so, replied_unpacked}
use Rattle.reply.proofs.asked.reply_then_unpack.Goals as goal

pub returns : goal.returns
returns g c size l held =
    let o = g.F.Ring.ops in
    let plain = g.F.Ring.plain in
    let p = g.F.Packable in
    let said = c.in_ok-reply.ensures in
    ap Ok (c.unpack.ensures
    ∙ replied_unpacked o plain p.KIND p.WIDTH p.bits g.met.F.Packable.admitted c.args.roster.now.cells.now c.args.question c.args.k _ c.reply.new.out (omega arith) said.output size l held)
    ∙ asked_so c.args.question tt (Ok (fields_for o plain p.KIND p.bits l c.args.question c.args.k)) said.refusal
