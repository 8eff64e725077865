use Rattle.std.proofs.Common.{◌∙◌, ap, sym, w64, of_z, length, FitsSigned, rules}
use Rattle.std.proofs.lemmas.Int.{to_z-of_z}
use Rattle.hc_record.specs.Record.{body_len, type_of_int, body_of}
use Rattle.hc_record.proofs.Integers.{length-high_first}
use Rattle.hc_record.proofs.length.value_len.Goals as goal

pub returns-in-Int : goal.returns-in-Int
returns-in-Int c =
    let fits : FitsSigned w64 c.in-Int.n = search rules in
    c.body_len.ensures
    ∙ ap body_len (c.int_type.ensures ∙ ap type_of_int (to_z-of_z w64 c.in-Int.n fits))
    ∙ sym (length-high_first (body_len (type_of_int c.in-Int.n)) (of_z w64 c.in-Int.n))
    ∙ sym (ap (λ v. length (body_of v)) c.in-Int.is)
