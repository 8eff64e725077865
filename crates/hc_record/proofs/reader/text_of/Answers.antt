use Rattle.std.proofs.Common.{◌∙◌, ap, sym, refl, Ok}
use Rattle.hc_value.specs.declared.value.Value.TheVariants.{Text}
use Rattle.std.proofs.lemmas.Str.{is_utf8-from_IsUtf8}
use Rattle.hc_record.proofs.Texts.{not_utf8}
use Rattle.hc_record.proofs.reader.text_of.Goals as goal

pub returns-in_ok-from_text-in-Ok : goal.returns-in_ok-from_text-in-Ok
returns-in_ok-from_text-in-Ok c = rw (is_utf8-from_IsUtf8 c.args.body.now c.in-Ok.ensures.cases.1) (ap (λ t. Ok (Text t)) (sym (c.in_ok-from_text-in-Ok.ensures ∙ c.in-Ok.ensures.cases.0)))

pub returns-in-Err : goal.returns-in-Err
returns-in-Err c = rw (c.bad.ensures, not_utf8 c.args.body.now c.in-Err.ensures.cases.0) refl
