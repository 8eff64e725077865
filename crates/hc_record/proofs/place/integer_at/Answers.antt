use Rattle.std.proofs.Common.{◌∙◌, sym, ap}
use Rattle.std.proofs.lemmas.Option.{slice_get_past}
use Rattle.hc_record.specs.Places.{number_of}
use Rattle.hc_record.proofs.Placed.{have_types, bodies_short, value_is}
use Rattle.hc_record.proofs.place.integer_at.Goals as goal

pub returns-in_err-serial : goal.returns-in_err-serial
returns-in_err-serial c values are short is =
    let parts = c.in_ok-types.ensures values short is in
    let past = c.in_err-serial.ensures values (have_types values (bodies_short values short)) parts.0 parts.1 in
    c.from_residual-in_err-serial.ensures ∙ sym (ap number_of (slice_get_past values c.args.place past))

pub returns : goal.returns
returns c values are short is =
    let parts = c.in_ok-types.ensures values short is in
    let found = c.in_ok-serial.ensures values (have_types values (bodies_short values short)) parts.0 parts.1 in
    c.integer_in.ensures found.0 found.1 (value_is values c.args.place found.0 are found.2) found.3 found.4 ∙ sym (ap number_of found.2)
