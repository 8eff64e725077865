use Rattle.std.proofs.Common.{◌∙◌, subst, sym}
use Rattle.hc_lex.specs.declared.character.Run.TheVariants.{Number}
use Rattle.hc_lex.specs.Characters.{GoesOn}
use Rattle.hc_lex.proofs.Classes.{digit_class, quote_class}
use Rattle.hc_lex.proofs.scanner.read_token.Goals as goal

pub read_number-requires : goal.read_number-requires
read_number-requires c =
    subst (λ bytes. GoesOn Number bytes) (sym c.requires.whole) (digit_class c.args.first (sym c.class_of.ensures ∙ c.in-Digit.is))

pub read_quoted-requires : goal.read_quoted-requires
read_quoted-requires c = quote_class c.args.first (sym c.class_of.ensures ∙ c.in-Quote.is)
