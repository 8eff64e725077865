-- The order in which statements run, one whole statement after another.
use Rattle.std.specs.Prelude.{ℕ, Bool, List, [], ◌∷◌, ◌++◌, ◌==◌, if◌then◌else◌, flat_map}
use Rattle.hc_meaning.specs.declared.command.Command.{Command}
use Rattle.hc_meaning.specs.Runs.Cut.{Script, is_over}

-- a connection's command, and whether it is the last of the script
pub record Turn : Type 0 where
  pub conn : ℕ
  pub command : Command
  pub last : Bool

abbrev pub turns_from : ℕ → List Command → List Turn
turns_from conn [] = []
turns_from conn (c ∷ commands) = record { conn = conn; command = c; last = is_over commands } ∷ turns_from conn commands

-- a script to its end
abbrev pub turns : Script → List Turn
turns script = turns_from script.conn script.commands

-- its next turn, if a command is left, and the script after it
abbrev pub first_turn : ℕ → List Command → List Turn
first_turn conn [] = []
first_turn conn (c ∷ commands) = record { conn = conn; command = c; last = is_over commands } ∷ []

abbrev pub but_first : List Command → List Command
but_first [] = []
but_first (c ∷ commands) = commands

-- the next turn of the connection with this number, and what is left of the scripts
abbrev pub turn_of : ℕ → List Script → List Turn
turn_of conn [] = []
turn_of conn (script ∷ scripts) = if script.conn == conn then first_turn conn script.commands else turn_of conn scripts

abbrev pub left_after : ℕ → List Script → List Script
left_after conn [] = []
left_after conn (script ∷ scripts) = if script.conn == conn
    then record script { commands = but_first script.commands } ∷ scripts
    else script ∷ left_after conn scripts

-- Each number names the connection whose next statement runs, if it has one left. The rest follow by connection, each to
-- its end.
abbrev pub ordered : List Script → List ℕ → List Turn
ordered scripts [] = flat_map turns scripts
ordered scripts (conn ∷ order) = turn_of conn scripts ++ ordered (left_after conn scripts) order

-- the setup, which is the first script, runs to its end before the others begin
abbrev pub all_turns : List Script → List ℕ → List Turn
all_turns [] order = []
all_turns (setup ∷ scripts) order = turns setup ++ ordered scripts order
