-- The rule: what holds of all words and views between any two steps. That rows agree with the accounts, and the shape of the
-- tree, will be parts of it as well.
use Rattle.std.specs.Prelude.{◌≡◌, ℕ, List, length}
use Rattle.hc_rows.specs.declared.layout.Layout.{Layout}
use Rattle.hc_rows.specs.Places.{IsLayout, total}
use Rattle.hc_rows.specs.Regions.{seat_words, page_words, map_words, tid_words, log_words, rows}
use Rattle.hc_rule.specs.declared.view.View.{View}
use Rattle.hc_rule.specs.Views.{known, knowledge_of}
use Rattle.hc_rule.specs.Seats.{IsDealt}
use Rattle.hc_rule.specs.States.{State, IsStated}
use Rattle.hc_rule.specs.Holders.{AreHolders}
use Rattle.hc_rule.specs.Reach.{IsReached}
use Rattle.hc_rule.specs.Recorded.{IsRecorded}

-- page states, over the words and views
abbrev pub Stated : Layout → (ℕ → State) → List ℕ → List View → Type 0
Stated y state words views =
    IsStated state (page_words y words) (map_words y words) (known (λ v. v.role) views) (known (λ v. v.pages) views) (known (λ v. v.claimed) views)

-- reach
abbrev pub Reached : Layout → (ℕ → State) → List ℕ → List View → Type 0
Reached y state words views = IsReached state (rows y words) (known (λ v. v.loaded) views) (known (λ v. v.pages) views)

-- who owns pages
abbrev pub Held : List View → Type 0
Held views = AreHolders (known (λ v. v.stage) views) (known (λ v. v.pages) views)

-- accounts and the log
abbrev pub Recorded : Layout → List ℕ → List View → Type 0
Recorded y words views = IsRecorded y.transactions (seat_words y words) (tid_words y words) (log_words y words) (known (λ v. v.role) views) (known knowledge_of views)

-- A part that leaves out what a step changes is kept by it. The states are the rule's own: each step gives the new ones.
pub record Holds (y : Layout) (words : List ℕ) (views : List View) : Type 0 where
  pub layout : IsLayout y
  pub sized : length words ≡ total y
  pub dealt : IsDealt y.seats (known (λ v. v.role) views)
  pub state : ℕ → State
  pub stated : Stated y state words views
  pub held : Held views
  pub reached : Reached y state words views
  pub recorded : Recorded y words views
