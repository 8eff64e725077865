-- What holds of accounts, of the log and of what seats noted, whenever the rule holds. Each kind of step keeps the rule, so it
-- holds at any later step too.
use Rattle.std.specs.Prelude.{◌≡◌, ◌≢◌, ℕ, List, set}
use mathlib.Core.Option.{some}
use lib.ListN.{get_elem?}
use Rattle.hc_base.specs.declared.page_word.PageWord.{PageWord}
use Rattle.hc_base.specs.declared.seat_word.SeatWord.{SeatWord}
use Rattle.hc_base.specs.declared.tid_word.TidWord.{TidWord}
use Rattle.hc_core.specs.Machine.{Machine}
use Rattle.hc_core.specs.Sound.{IsSound}
use Rattle.hc_rows.specs.declared.layout.Layout.{Layout}
use Rattle.hc_rule.specs.declared.view.View.{View}
use Rattle.hc_rule.specs.declared.view.Role.TheVariants.{Dealer}
use Rattle.hc_rule.specs.Views.{known, nobody}
use Rattle.hc_rule.specs.Rule.{Holds}
use Rattle.hc_rule.specs.Recorded.{txns_of}
use Rattle.hc_tidlog.specs.Noted.{AreTrue, KeepsNotes}
use Rattle.hc_tidlog.specs.OneMachine.{IsMachineOf}
use Rattle.hc_rule.specs.Kinds.Deal.{dealer_after}
use Rattle.hc_rule.specs.Kinds.LoadLog.{Looking, at_end, with_place}
use Rattle.hc_rule.specs.Kinds.LoadPage.{with_found}
use Rattle.hc_rule.specs.Kinds.Note.{note_of, informed}
use Rattle.hc_rule.specs.Kinds.Rows.{with_word}
use Rattle.hc_rule.specs.Kinds.StorePage.{stored}
use Rattle.hc_rule.specs.Kinds.StoreSeat.{stood}
use Rattle.hc_rule.specs.Kinds.TakePage.{with_page}
use Rattle.hc_rule.specs.Kinds.TidWord.{saw, Drawing, drew, said}
use Rattle.hc_rule.specs.Kinds.WinLog.{Winning, won_by, lost_to}
use Rattle.hc_tidlog.specs.Telling.{Tells, Shows}

-- what a seat noted is true of the transactions of all accounts
abbrev pub NotesAreTrue : Type 0
NotesAreTrue = (y : Layout) (words : List ℕ) (views : List View) (h : Holds y words views) (i : ℕ) (v : View) → get_elem? views i ≡ some v
    → AreTrue (txns_of h.recorded.account) v

-- No step of a seat drops a note: of pages and rows, of the log, of ids and of the own word, where a seat deals, and where it
-- is told.
pub record NotesStay : Type 0 where
  pub load_page : (place n : ℕ) (v : View) → KeepsNotes v (with_found place n v)
  pub take_page : (p next : ℕ) (row : List ℕ) (v : View) → KeepsNotes v (with_page p next row v)
  pub store_page : (p : ℕ) (form : PageWord) (v : View) → KeepsNotes v (stored p form v)
  pub store_row : (p word n : ℕ) (v : View) → KeepsNotes v (with_word p word n v)
  pub load_log : (kind : Looking) (conn place c id : ℕ) (v : View) → KeepsNotes v (at_end kind conn (with_found place 0 v)) × KeepsNotes v (with_place c id v)
  pub win_log : (w : Winning) (other : ℕ) (v : View) → KeepsNotes v (won_by w v) × KeepsNotes v (lost_to w other v)
  pub load_tid : (place id : ℕ) (form : TidWord) (v : View) → KeepsNotes v (saw place id form v)
  pub draw : (d : Drawing) (v : View) → KeepsNotes v (drew d v)
  pub store_tid : (form : TidWord) (v : View) → KeepsNotes v (said form v)
  pub store_seat : (form : SeatWord) (conn : ℕ) (v : View) → KeepsNotes v (stood form conn v)
  pub deal : (v : View) → KeepsNotes v (dealer_after v)
  pub learn : (v w : View) → KeepsNotes v (informed v w)

-- What `state_of` told is shown by every view that has its notes, with all that the seat had seen of the log before as the
-- bound.
abbrev pub WhatIsToldIsShown : Type 0
WhatIsToldIsShown = (y : Layout) (id : ℕ) (word : TidWord) (v w later : View) → Tells y id word v w → KeepsNotes w later → Shows id word v.seen.0 later

-- where a seat has dealt so many others, the accounts of all with the words of the log are one sound machine
abbrev pub AccountsAreOneMachine : Type 0
AccountsAreOneMachine = (y : Layout) (words : List ℕ) (views : List View) → Holds y words views → (i conns : ℕ) → known (λ v. v.role) views i ≡ Dealer conns
    → (m : Machine) × IsMachineOf y words views conns m × IsSound m

-- a note that is taken in changes no seat's account, and not whose it is
abbrev pub NotesChangeNoAccount : Type 0
NotesChangeNoAccount = (views : List View) (i other : ℕ) (v note : View) → get_elem? views i ≡ some v → get_elem? views other ≡ some note → i ≢ other → note ≡ note_of note
    → (known (λ x. x.account) (set (set views i (informed v note)) other nobody) ≡ known (λ x. x.account) views)
    × (known (λ x. x.role) (set (set views i (informed v note)) other nobody) ≡ known (λ x. x.role) views)
