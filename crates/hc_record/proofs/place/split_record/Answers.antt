use Rattle.std.proofs.Common.{◌≡◌, ◌-◌, take, drop, ◌∙◌, ap, arith}
use Rattle.hc_record.specs.Varint.{varint_len}
use Rattle.hc_record.proofs.Placed.{parts_of, no_header, size_fits, front_is, back_is}
use Rattle.hc_record.proofs.place.split_record.Goals as goal

pub returns-in_err-header : goal.returns-in_err-header
returns-in_err-header c values short is = absurd (no_header values c.args.bytes.now short is c.in_err-header.ensures.read)

pub returns-then-size-rest : goal.returns-then-size-rest
returns-then-size-rest c values short is =
    let parts = parts_of values c.args.bytes.now c.in_ok-header.rest.now c.in_ok-header.header short is c.in_ok-header.ensures.read in
    omega (arith, c.if-size-rest.true, c.saturating_sub-size.ensures, c.varint_len.ensures, size_fits values c.in_ok-header.header c.in_ok-header.rest.now parts)

pub returns : goal.returns
returns c values short is =
    let rest = c.in_ok-header.rest.now in
    let parts = parts_of values c.args.bytes.now rest c.in_ok-header.header short is c.in_ok-header.ensures.read in
    let size : c.saturating_sub-size.result ≡ c.in_ok-header.header - varint_len c.in_ok-header.header = c.saturating_sub-size.ensures ∙ ap (λ n. c.in_ok-header.header - n) c.varint_len.ensures in (
      front_is values c.in_ok-header.header rest c.split_at.result.0.now parts (c.split_at.ensures.front ∙ ap (λ n. take n rest) size),
      back_is values c.in_ok-header.header rest c.split_at.result.1.now parts (c.split_at.ensures.back ∙ ap (λ n. drop n rest) size),
    )
