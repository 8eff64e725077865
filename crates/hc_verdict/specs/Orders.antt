-- How the numbers of two transactions of a connection lie.
use Rattle.std.specs.Prelude.{◌≡◌, ◌≢◌, ◌↔◌, ℕ, ◌<◌, ◌≤◌, List, Some, slice_get}
use Rattle.hc_base.specs.Lookup.{Among}
use Rattle.hc_transcript.specs.Text.{ending_number}
use Rattle.hc_meaning.specs.Runs.Cut.{Transaction}
use Rattle.hc_meaning.specs.Runs.Met.{PrintsCommit}

-- the number does not fall, and a commit's rises
abbrev pub Rises : Transaction → Transaction → Type 0
Rises t u = (ending_number t.ending ≤ ending_number u.ending) × (PrintsCommit u → ending_number t.ending < ending_number u.ending)

-- where the second is a later one of the same connection, it rises
abbrev pub MayFollow : Transaction → Transaction → Type 0
MayFollow t u = t.conn ≡ u.conn → t.ordinal < u.ordinal → Rises t u

-- within each connection
abbrev pub NumbersRise : List Transaction → Type 0
NumbersRise ts = (t u : Transaction) → Among t ts → Among u ts → MayFollow t u

-- the transactions of connection 0 are the first so many of the history
abbrev pub IsSetupFirst : List Transaction → ℕ → Type 0
IsSetupFirst history setup = (k : ℕ) (t : Transaction) → slice_get history k ≡ Some t → (t.conn ≡ 0) ↔ (k < setup)

-- a number of another connection counts them all
abbrev pub CountsSetup : ℕ → Transaction → Type 0
CountsSetup setup t = t.conn ≢ 0 → setup ≤ ending_number t.ending
