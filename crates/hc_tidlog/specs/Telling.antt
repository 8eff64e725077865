-- Telling: what a look at the state of a transaction adds to what a seat knows, and what it shows for good.
use Rattle.std.specs.Prelude.{◌≡◌, ◌≢◌, ◌⊎◌, ⊤, ℕ, ◌<◌, Bool, true, false}
use Rattle.hc_base.specs.declared.tid_word.TidWord.{TidWord}
use Rattle.hc_base.specs.declared.tid_word.TidWord.TheVariants as tid
use Rattle.hc_rows.specs.declared.layout.Layout.{Layout}
use Rattle.hc_rows.specs.Places.{log_at, tid_at}
use Rattle.hc_rule.specs.declared.view.View.{View}
use Rattle.hc_tidlog.specs.Noted.{ShowsCommitted, ShowsRolledBack, ShowsUndecided}
use Rattle.hc_rule.specs.Kinds.LoadLog.{with_place}
use Rattle.hc_rule.specs.Kinds.LoadPage.{with_found}
use Rattle.hc_rule.specs.Kinds.TidWord.{with_seen}

-- a place of the log was found empty, which is noted, or there is none of this number; so it is above all that was seen
abbrev pub FindsNone : Layout → ℕ → View → View → Type 0
FindsNone y c v w = (v.seen.0 < c) × ((w ≡ with_found (log_at y c) 0 v) ⊎ ((y.transactions < c) × (w ≡ v)))

-- a place of the log has this id, or another one, which is noted; or no transaction is there
abbrev pub FindsPlace : Layout → ℕ → ℕ → View → Bool → View → Type 0
FindsPlace y id c v true w = w ≡ with_place c id v
FindsPlace y id c v false w = FindsNone y c v w ⊎ ((other : ℕ) × (other ≢ id) × (w ≡ with_place c other v))

-- The word that was found is noted, also where it is empty; and where it says validating, so is what the log has at the number
-- that it names. It is
-- told to be committed where the log has the id there.
abbrev pub Tells : Layout → ℕ → TidWord → View → View → Type 0
Tells y id tid.Empty v w = w ≡ with_found (tid_at y id) 0 v
Tells y id (tid.Live conn ord) v w = w ≡ with_seen id (tid.Live conn ord) v
Tells y id (tid.Validating conn ord c) v w = (0 < c.0) × FindsPlace y id c.0 (with_seen id (tid.Validating conn ord c) v) false w
Tells y id (tid.Committed conn ord c) v w = (0 < c.0)
    × ((w ≡ with_seen id (tid.Committed conn ord c) v) ⊎ FindsPlace y id c.0 (with_seen id (tid.Validating conn ord c) v) true w)
Tells y id (tid.RolledBack conn ord) v w = w ≡ with_seen id (tid.RolledBack conn ord) v

-- What the state of a transaction is for its reader: committed at a number, rolled back, or undecided when so much of the log
-- was seen.
abbrev pub Shows : ℕ → TidWord → ℕ → View → Type 0
Shows id tid.Empty bound w = ⊤
Shows id (tid.Live conn ord) bound w = ShowsUndecided w id bound
Shows id (tid.Validating conn ord c) bound w = ShowsUndecided w id bound
Shows id (tid.Committed conn ord c) bound w = ShowsCommitted w id c.0
Shows id (tid.RolledBack conn ord) bound w = ShowsRolledBack w id
