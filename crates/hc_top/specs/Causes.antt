-- When the program may end in each status other than Done.
use Rattle.std.specs.Prelude.{◌≡◌, ℕ, List, Option, None, Some, ⊤}
use Rattle.hc_meaning.specs.Input.{BreaksForm}
use Rattle.hc_io.specs.Faults.{Rose}
use Rattle.hc_top.specs.declared.reading.ReadError.{ReadError}
use Rattle.hc_top.specs.declared.reading.ReadError.TheVariants.{Fault, NoMemory as ReadNoMemory}
use Rattle.hc_top.specs.declared.script.ScriptError.{ScriptError}
use Rattle.hc_top.specs.declared.script.ScriptError.TheVariants.{Unbuilt as ScriptUnbuilt, NoMemory as ScriptNoMemory}
use Rattle.hc_top.specs.declared.status.InputKind.{InputKind}
use Rattle.hc_top.specs.declared.status.InputKind.TheVariants.{Unbuilt}
use Rattle.hc_top.specs.declared.status.Status.{Status}
use Rattle.hc_top.specs.declared.status.Status.TheVariants.{Done, Input, ReadFault, WriteFault, Words, NoMemory}

abbrev pub exit_number_of : Status → ℕ
exit_number_of Done = 0
exit_number_of (Input at kind) = 1
exit_number_of ReadFault = 2
exit_number_of WriteFault = 3
exit_number_of Words = 4
exit_number_of NoMemory = 7

abbrev pub status_of_read : ReadError → Status
status_of_read Fault = ReadFault
status_of_read ReadNoMemory = NoMemory

abbrev pub status_of_script : ScriptError → Status
status_of_script ScriptUnbuilt = Input 0 Unbuilt
status_of_script ScriptNoMemory = NoMemory

-- the bytes break the form, where the source tells them
abbrev pub BreaksFormIfTold : Option (List ℕ) → Type 0
BreaksFormIfTold None = ⊤
BreaksFormIfTold (Some input) = BreaksForm input

-- the place and kind of an input's fault
abbrev pub IsInputFault : Option (List ℕ) → ℕ → InputKind → Type 0
IsInputFault left at Unbuilt = (at ≡ 0) × BreaksFormIfTold left

-- why no output was made for what the source had left, with its counts of faults before and after
abbrev pub IsCauseOfNone : Option (List ℕ) → ℕ → ℕ → Status → Type 0
IsCauseOfNone left before now Done = ⊥
IsCauseOfNone left before now (Input at kind) = IsInputFault left at kind
IsCauseOfNone left before now ReadFault = Rose before now
IsCauseOfNone left before now WriteFault = ⊥
IsCauseOfNone left before now Words = ⊥
IsCauseOfNone left before now NoMemory = ⊤

-- a fact at each status after which nothing is written
abbrev pub OnNothingWritten : Status → Type 0 → Type 0
OnNothingWritten Done P = ⊤
OnNothingWritten (Input at kind) P = P
OnNothingWritten ReadFault P = P
OnNothingWritten WriteFault P = ⊤
OnNothingWritten Words P = P
OnNothingWritten NoMemory P = P

-- a fact at each status that comes once the writing has begun
abbrev pub OnWriting : Status → Type 0 → Type 0
OnWriting Done P = P
OnWriting (Input at kind) P = ⊤
OnWriting ReadFault P = ⊤
OnWriting WriteFault P = P
OnWriting Words P = ⊤
OnWriting NoMemory P = ⊤

-- The status may answer an input that breaks the form: it says so, or the input was not read, or there was
-- no memory.
abbrev pub RefusesInput : Status → Type 0
RefusesInput Done = ⊥
RefusesInput (Input at Unbuilt) = at ≡ 0
RefusesInput ReadFault = ⊤
RefusesInput WriteFault = ⊥
RefusesInput Words = ⊥
RefusesInput NoMemory = ⊤
