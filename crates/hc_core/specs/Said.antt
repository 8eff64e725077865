-- Entries of an account, by what is lent to say them.
use Rattle.std.specs.Prelude.{ℕ, List, Option}
use Rattle.hc_core.specs.declared.account.Entry.{Entry}
use Rattle.hc_core.specs.declared.account.Entry.TheVariants.{Answered}
use Rattle.hc_core.specs.declared.event.Event.TheVariants.{Begin, Draw, Put, Propose, Check, Decide, Unput, End}
use Rattle.hc_core.specs.declared.outcome.Met.{Met as MetRecord}
use Rattle.hc_core.specs.declared.outcome.Outcome.TheVariants.{Done, Began, Drew, Met, Proposed, Lost, Decided}
use Rattle.hc_core.specs.declared.said.Said.{Said}
use Rattle.hc_core.specs.declared.said.Said.TheVariants.{Began as SaidBegan, Drew as SaidDrew, Put as SaidPut, Proposed as SaidProposed, Checked as SaidChecked, Decided as SaidDecided, Lost as SaidLost, Unput as SaidUnput, Ended as SaidEnded}

-- the entry that is said so, with a key and a record, or with the ends of a part
abbrev pub entry_said : Said → List ℕ → Option (List ℕ) → Entry
entry_said (SaidBegan conn snapshot) key rec = Answered (Begin conn) (Began (record { 0 = snapshot }))
entry_said (SaidDrew conn ord tid) key rec = Answered (Draw conn ord) (Drew (record { 0 = tid }))
entry_said (SaidPut conn) key rec = Answered (Put conn key rec) Done
entry_said (SaidProposed conn number) key rec = Answered (Propose conn) (Proposed (record { 0 = number }))
entry_said (SaidChecked conn) from upto = Answered (Check conn from upto) Done
entry_said (SaidDecided conn number) key rec = Answered (Decide conn) (Decided (record { 0 = number }))
entry_said (SaidLost conn lost) key rec = Answered (Decide conn) (Lost lost)
entry_said (SaidUnput conn) key rec = Answered (Unput conn key) Done
entry_said (SaidEnded conn) key rec = Answered (End conn) Done

-- the entry of a put or of a check that was refused
abbrev pub met_said : Said → List ℕ → Option (List ℕ) → MetRecord → Entry
met_said (SaidPut conn) key rec met = Answered (Put conn key rec) (Met met)
met_said (SaidChecked conn) from upto met = Answered (Check conn from upto) (Met met)
met_said said key rec met = entry_said said key rec
