-- The connections with a command, each with its transcript.
use Rattle.std.specs.Prelude.{◌≡◌, List, [], ◌∷◌, ◌++◌, length, map, filter}
use Rattle.std.specs.List.{AllByRecursion}
use Rattle.hc_transcript.specs.declared.reply.Transcript.{Transcript}
use Rattle.hc_meaning.specs.Runs.Cut.{Script, Transaction}
use Rattle.hc_meaning.specs.Runs.RightRun.{has_command}
use Rattle.hc_judge.specs.Cuts.{IsCutInto}

-- a script and a transcript
pub record Paired : Type 0 where
  pub script : Script
  pub transcript : Transcript

-- the transcript is of the script's connection, with a reply for each command
pub record IsOne (p : Paired) : Type 0 where
  pub same : p.transcript.conn ≡ p.script.conn
  pub each : length p.script.commands ≡ length p.transcript.replies

-- these are the scripts with a command and all transcripts, each with the other
pub record ArePaired (scripts : List Script) (transcripts : List Transcript) (pairs : List Paired) : Type 0 where
  pub scripts_are : map (λ p. p.script) pairs ≡ filter has_command scripts
  pub transcripts_are : map (λ p. p.transcript) pairs ≡ transcripts
  pub each : AllByRecursion IsOne pairs

-- all transcripts, in order, are cut into these transactions
abbrev pub AreCutInto : List Paired → List Transaction → Type 0
AreCutInto [] ts = ts ≡ []
AreCutInto (p ∷ ps) ts = (own : List Transaction) × (rest : List Transaction) × IsCutInto p.script p.transcript own × AreCutInto ps rest × (ts ≡ own ++ rest)
