use Rattle.std.proofs.Common.{Some, FitsSigned, w64, take, ap, ◌∙◌, rules, arith}
use Rattle.std.proofs.lemmas.Int.{to_z-of_z}
use Rattle.std.proofs.lemmas.List.{length-take}
use Rattle.hc_record.specs.Reading.{integer_of}
use Rattle.hc_record.proofs.Integers.{small_body}
use Rattle.hc_record.proofs.Placed.{by_type}
use Rattle.hc_record.proofs.place.integer_in.Goals as goal
use Rattle.hc_record.proofs.place.integer_in.Goals.{then-serial-eq0-via-then-serial-eq0, then-serial-eq0-via-else-serial-eq0+then-serial-gt6}

pub returns-then-serial-eq8 : goal.returns-then-serial-eq8
returns-then-serial-eq8 c v rest is type bytes = (by_type v rest c.args.bytes.now c.args.serial is type bytes).eight c.if-serial-eq8.true

pub returns-then-serial-eq9 : goal.returns-then-serial-eq9
returns-then-serial-eq9 c v rest is type bytes = (by_type v rest c.args.bytes.now c.args.serial is type bytes).nine c.if-serial-eq9.true

pub returns-then-serial-eq0 : goal.returns-then-serial-eq0
returns-then-serial-eq0 c v rest is type bytes =
    let facts = by_type v rest c.args.bytes.now c.args.serial is type bytes in
    elim c.then-serial-eq0.branch [
      | then-serial-eq0-via-then-serial-eq0 w ↦ facts.zero_none w.if-serial-eq0.true
      | then-serial-eq0-via-else-serial-eq0+then-serial-gt6 w ↦ facts.above_none w.if-serial-gt6.true c.if-serial-eq8.false c.if-serial-eq9.false
    ]

pub returns-then-len-bytes : goal.returns-then-len-bytes
returns-then-len-bytes c v rest is type bytes =
    let facts = by_type v rest c.args.bytes.now c.args.serial is type bytes in absurd (omega (arith, facts.long, c.if-len-bytes.true, c.body_len-len.ensures))

pub integer-requires : goal.integer-requires
integer-requires c = omega (arith, length-take c.body_len-len.result c.args.bytes.now, small_body c.args.serial (omega (arith, c.if-serial-gt6.false)), c.body_len-len.ensures)

pub returns : goal.returns
returns c v rest is type bytes =
    let facts = by_type v rest c.args.bytes.now c.args.serial is type bytes in
    let fits : FitsSigned w64 c.integer.result = search rules in
    ap Some (to_z-of_z w64 c.integer.result fits ∙ c.integer.ensures ∙ ap (λ n. integer_of (take n c.args.bytes.now)) c.body_len-len.ensures)
    ∙ facts.body (omega (arith, c.if-serial-eq0.false)) (omega (arith, c.if-serial-gt6.false))
