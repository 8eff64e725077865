-- How an account grows.
use Rattle.std.specs.Prelude.{◌∷◌}
use Rattle.hc_core.specs.declared.account.Entry.{Entry}
use Rattle.hc_core.specs.declared.account.Entry.TheVariants.{Answered}
use Rattle.hc_core.specs.declared.account.Account.{Account}
use Rattle.hc_core.specs.declared.event.Event.{Event}
use Rattle.hc_core.specs.declared.outcome.Outcome.{Outcome}

-- an event with its answer
abbrev pub entry_of : Event → Outcome → Entry
entry_of event outcome = Answered event outcome

-- an account with one more entry
abbrev pub noted : Account → Entry → Account
noted account entry = record { entries = entry ∷ account.entries }
