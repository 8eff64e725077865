use Rattle.std.proofs.Common.{rules, arith, ap, ◌∙◌}
use Rattle.std.proofs.lemmas.Str.{chars_past_char, chars-nil}
use Rattle.std.proofs.lemmas.List.{nil_from_length}
use Rattle.std.specs.Str.{chars}
use Rattle.hc_expr.proofs.like.first.Goals as goal

pub returns-in-Some : goal.returns-in-Some
returns-in-Some c = search (rules, chars_past_char)

pub returns-in-None : goal.returns-in-None
returns-in-None c =
    ap chars (nil_from_length c.args.text.now (grind (arith, c.in-None.ensures, c.next.ensures, c.chars-rest.ensures))) ∙ chars-nil
