-- What holds of texts as commands.
use Rattle.std.specs.Prelude.{◌≡◌, ℕ, List}
use Rattle.hc_meaning.specs.declared.command.Command.{Command}
use Rattle.hc_reading.specs.Commands.{IsCommandOf}

-- each text is one command, and no other
abbrev pub EachTextIsOneCommand : Type 0
EachTextIsOneCommand = (text : List ℕ) → (this : Command) × IsCommandOf text this × ((other : Command) → IsCommandOf text other → other ≡ this)
