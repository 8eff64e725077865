-- Laws of right runs, each at any language.
use Rattle.std.specs.Prelude.{◌≡◌, ◌↔◌, ℕ, List, ◌∷◌, map}
use Rattle.std.specs.List.Sorted.{IsStrictlyIncreasing}
use Rattle.hc_core.specs.Account.{HoldsKey, Txn}
use Rattle.hc_core.specs.Running.{HaveSameWrites}
use Rattle.hc_core.specs.Sound.{AreSound}
use Rattle.hc_range.specs.Ranges.{InAny}
use Rattle.hc_transcript.specs.declared.reply.Transcript.{Transcript}
use Rattle.hc_meaning.specs.Runs.Cut.{Script}
use Rattle.hc_meaning.specs.Runs.Fits.{AllFit}
use Rattle.hc_meaning.specs.Runs.Language.{AgreeOn, Language, IsLanguage}
use Rattle.hc_meaning.specs.Runs.Orders.{SetupIsFirst, FullsAreTrue}
use Rattle.hc_meaning.specs.Runs.PlayedRun.{played}
use Rattle.hc_meaning.specs.Runs.RightRun.{IsRightRun}
use Rattle.hc_meaning.specs.Runs.Walk.{Item}
use Rattle.hc_meaning.specs.Runs.Writes.{AreGiven, reads, writes}

-- Where the log and the accounts are sound, the setup comes first, what commits found used up is true, and each
-- connection's transcript fits its account, the transcripts are a right run.
abbrev pub SoundAndFittingIsRight : Language → Type 0
SoundAndFittingIsRight L = IsLanguage L → (size : ℕ) (log : ℕ → ℕ) (of : ℕ → List Txn)
    (scripts : List Script) (transcripts : List Transcript)
    → IsStrictlyIncreasing (map (λ script. script.conn) scripts)
    → AreSound size log of → SetupIsFirst size of → FullsAreTrue of (map (λ script. script.conn) scripts) → AllFit L of scripts transcripts
    → IsRightRun L scripts transcripts

-- The run of whole statements one after another is right, in whatever order they run after the setup. This is not
-- proved yet.
abbrev pub PlayedIsRight : Language → Type 0
PlayedIsRight L = IsLanguage L → (setup : Script) (scripts : List Script) (order : List ℕ) → setup.conn ≡ 0
    → IsStrictlyIncreasing (map (λ script. script.conn) (setup ∷ scripts))
    → IsRightRun L (setup ∷ scripts) (played L (setup ∷ scripts) order)

-- A transaction runs alike on two databases: its items give the same answers, and it reads the same keys and writes the same.
pub record RunsAlike (L : Language) (items : List Item) (a b : L.Db) : Type 0 where
  pub answers : AreGiven L a items ↔ AreGiven L b items
  pub reads : (key : List ℕ) → InAny (reads L a items) key ↔ InAny (reads L b items) key
  pub writes : HaveSameWrites (writes L a items) (writes L b items)

-- It does so where they agree on what it reads on the first.
abbrev pub AgreementCarries : Language → Type 0
AgreementCarries L = IsLanguage L → (items : List Item) (a b : L.Db) → L.IsDb a → L.IsDb b → AgreeOn L (reads L a items) a b → RunsAlike L items a b

-- A transaction reads each key that it writes.
abbrev pub WritesAreRead : Language → Type 0
WritesAreRead L = IsLanguage L → (items : List Item) (db : L.Db) (key : List ℕ) → L.IsDb db → HoldsKey (writes L db items) key → InAny (reads L db items) key
