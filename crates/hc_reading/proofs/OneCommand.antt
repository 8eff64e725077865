-- Each text is one command.
use Rattle.std.proofs.Common.{◌∙◌, refl, ap}
use Rattle.hc_grammar.specs.Laws.{IsOneThing}
use Rattle.hc_reading.specs.Commands.{command_of_text}
use Rattle.hc_reading.specs.Laws.{EachTextIsOneCommand}

pub one_command : IsOneThing → EachTextIsOneCommand
one_command one text = (
  command_of_text (one text).0,
  ((one text).0, (one text).1, refl),
  λ other is. is.2 ∙ ap command_of_text ((one text).2 is.0 is.1),
)
