use Rattle.std.proofs.Common.{Ok, Err, sym, ap, ◌∙◌}
use Rattle.std.proofs.lemmas.Result.{err_from_is_err_and}
use Rattle.reply.proofs.Bytes.{octets}
use Rattle.reply.proofs.Records.{accepted, refused_alike, same_holds}
use Rattle.reply.proofs.unpack_then_pack.Goals as goal

pub returns-in_err-f : goal.returns-in_err-f
returns-in_err-f c =
    let bytes = c.args.bytes.now in
    let p = err_from_is_err_and c.from_residual.result c.from_residual.ensures.1 in
    p.1 ∙ ap Err p.2 ∙ sym (refused_alike bytes c.in_err-f.field-0.0 bytes (sym c.in_err-f.ensures))

pub repacked-requires : goal.repacked-requires
repacked-requires c =
    let bytes = c.args.bytes.now in
    (accepted bytes c.in_ok-f.f bytes (sym c.in_ok-f.ensures)).1

pub returns : goal.returns
returns c =
    let bytes = c.args.bytes.now in
    let f = c.in_ok-f.f in
    let said = accepted bytes f bytes (sym c.in_ok-f.ensures) in
    ap Ok (same_holds c.repacked.result bytes f c.repacked.ensures.1 (octets bytes c.type_inv.bytes) c.repacked.ensures.0 said.0)
    ∙ sym said.2
