use Rattle.std.proofs.Common.{◌<◌, ◌^◌, arith, rules, inl, inr}
use Rattle.std.proofs.lemmas.Bool.{cases_lt}
use Rattle.hc_record.proofs.Numbers.{varint_len_is}
use Rattle.hc_record.proofs.decoding.record_at.Goals as goal

pub header_len-requires : goal.header_len-requires
header_len-requires c =
    let fits : c.in_ok-header.header < 2 ^ 64 = search rules in
    let len = varint_len_is c.in_ok-header.header in
    elim (cases_lt c.in_ok-header.header (2 ^ 56)) [
      | inl lt ↦ omega (arith, c.saturating_sub-size.ensures, lt)
      | inr le ↦ omega (arith, c.saturating_sub-size.ensures, c.varint_len.ensures, len.3 le, fits)
    ]
