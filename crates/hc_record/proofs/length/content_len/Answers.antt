use Rattle.std.proofs.Common.{◌≡◌, ◌+◌, ◌*◌, length, ap, ◌∙◌, arith}
use Rattle.hc_record.specs.Varint.{varint_len}
use Rattle.hc_record.proofs.Clamped.{clamped, varint_len_clamped}
use Rattle.hc_record.proofs.length.content_len.Goals as goal

pub returns : goal.returns
returns c =
    let n = c.args.first + 2 * length c.args.bytes.now in
    let e : c.saturating_add.result ≡ clamped n = omega (arith, c.saturating_add.ensures, c.saturating_mul.ensures) in
    c.varint_len.ensures ∙ ap varint_len e ∙ varint_len_clamped n
