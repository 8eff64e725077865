use Rattle.std.proofs.Common.{◌∙◌, sym, ap}
use Rattle.hc_grammar.specs.Terminals.{also, unquoted}
use Rattle.hc_parse.proofs.Texts.Quotes.{unquoted_utf8}
use Rattle.hc_parse.proofs.quoted.unquoted.Goals as goal

pub from_utf8_unchecked-inner-requires : goal.from_utf8_unchecked-inner-requires
from_utf8_unchecked-inner-requires c =
    unquoted_utf8 c.args.quote c.requires c.args.text.now c.in-Some.bytes.items c.utf8.text
    (ap (λ t. unquoted c.args.quote t) (sym c.as_bytes.ensures.value) ∙ sym c.in_ok-bytes.ensures ∙ ap (λ o. also (λ v. v.items) o) c.in-Some.is)
