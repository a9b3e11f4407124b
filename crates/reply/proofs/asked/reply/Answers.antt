use Rattle.std.proofs.Common.{◌≡◌, length, sym, ap, ◌∙◌, subst, take_at, drop_at}
use Rattle.std.specs.Int.Digits.{AllBelowBase}
use Rattle.reply.specs.Asked.{fields_for}
use Rattle.reply.specs.Layout.{Holds}
use Rattle.reply.specs.Rules.{replied}
use Rattle.reply.proofs.asked.reply.Goals as goal

pub returns-clause-output : goal.returns-clause-output
returns-clause-output g c =
    let p = g.F.Packable in
    let front = c.copy_from_slice.new.self in
    let said = rw c.in_ok-reply.ensures.ok_part at c.answered.ensures in
    let long : length front ≡ 16 = ap length c.copy_from_slice.ensures.after ∙ c.pack.ensures.holds.size in
    let written = take_at front _ 16 long ∙ c.copy_from_slice.ensures.after in
    record {
      answer = λ size l held.
          let f = fields_for g.F.Ring.ops g.F.Ring.plain p.KIND p.bits l c.args.question c.args.k in
          let same = ap (λ n. replied p.KIND p.bits n c.in_ok-reply.reply) (c.lives.ensures.counted size l held) ∙ said.1 size l held in
          subst (λ xs. Holds xs f) (sym written) (subst (Holds c.pack.result) same c.pack.ensures.holds);
      octets = subst (AllBelowBase 256) (sym written) c.pack.ensures.octets;
      rest = drop_at front _ 16 long;
    }
