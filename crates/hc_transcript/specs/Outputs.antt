-- Which byte strings are outputs, what each stands for, and where others are at fault.
use Rattle.std.specs.Prelude.{◌≡◌, ◌≢◌, ℕ, ◌^◌, ◌<◌, List, [], ◌∷◌, ◌++◌, length, map, Option, Some, None}
use Rattle.std.specs.List.{AllByRecursion}
use Rattle.std.specs.List.Sorted.{IsStrictlyIncreasing}
use Rattle.hc_transcript.specs.declared.refusal.Refusal.{Refusal}
use Rattle.hc_transcript.specs.declared.reply.Row.{Row}
use Rattle.hc_transcript.specs.declared.reply.Line.{Line}
use Rattle.hc_transcript.specs.declared.reply.Line.TheVariants as last
use Rattle.hc_transcript.specs.declared.reply.Ending.{Ending}
use Rattle.hc_transcript.specs.declared.reply.Reply.{Reply}
use Rattle.hc_transcript.specs.declared.reply.Transcript.{Transcript}
use Rattle.hc_transcript.specs.Fields.{Values, IsContent}
use Rattle.hc_transcript.specs.Table.{refusal_fields, line_of}
use Rattle.hc_transcript.specs.Text.{ending_number, output_text}

-- ---- what an output can have; lists and numbers of a contract could be others

abbrev pub IsRow : Row → Type 0
IsRow row = IsContent Values row.values

abbrev pub IsRefusal : Refusal → Type 0
IsRefusal refusal = IsContent (refusal_fields (line_of refusal).0) (line_of refusal).1

abbrev pub IsLast : Line → Type 0
IsLast (last.Ok count) = count < 2 ^ 64
IsLast (last.Error refusal) = IsRefusal refusal

abbrev pub IsEnding : Ending → Type 0
IsEnding ending = ending_number ending < 2 ^ 32

abbrev pub IsEndingIf : Option Ending → Type 0
IsEndingIf None = Unit {0}
IsEndingIf (Some ending) = IsEnding ending

abbrev pub IsReply : Reply → Type 0
IsReply reply = AllByRecursion IsRow reply.rows × IsLast reply.last × IsEndingIf reply.ending

-- a connection has at least one reply
abbrev pub IsTranscript : Transcript → Type 0
IsTranscript transcript = (transcript.conn < 2 ^ 32) × (transcript.replies ≢ []) × AllByRecursion IsReply transcript.replies

-- what outputs stand for: each connection once, in order of the numbers
abbrev pub AreTranscripts : List Transcript → Type 0
AreTranscripts transcripts = IsStrictlyIncreasing (map (λ t. t.conn) transcripts) × AllByRecursion IsTranscript transcripts

-- ---- what `print` is given, where no row is empty

abbrev pub HasValues : Row → Type 0
HasValues row = row.values ≢ []

abbrev pub RowsHaveValues : Reply → Type 0
RowsHaveValues reply = AllByRecursion HasValues reply.rows

abbrev pub RepliesHaveValues : Transcript → Type 0
RepliesHaveValues transcript = AllByRecursion RowsHaveValues transcript.replies

abbrev pub HaveValues : List Transcript → Type 0
HaveValues transcripts = AllByRecursion RepliesHaveValues transcripts

-- ---- outputs, and faults

-- the bytes are the text of these transcripts
abbrev pub IsTextOf : List ℕ → List Transcript → Type 0
IsTextOf bytes transcripts = AreTranscripts transcripts × (bytes ≡ output_text transcripts)

-- the bytes are the text of some transcripts
abbrev pub IsOutput : List ℕ → Type 0
IsOutput bytes = (transcripts : List Transcript) × AreTranscripts transcripts × (output_text transcripts ≡ bytes)

-- some output begins with the bytes, or is them
abbrev pub BeginsOutput : List ℕ → Type 0
BeginsOutput bytes = (rest : List ℕ) × IsOutput (bytes ++ rest)

-- After the bytes before, no output goes on as here: where more bytes follow, none goes on with the first of
-- them, and where there are none, the bytes are no output.
abbrev pub NoOutputGoesOn : List ℕ → List ℕ → Type 0
NoOutputGoesOn before [] = IsOutput before → ⊥
NoOutputGoesOn before (byte ∷ after) = BeginsOutput (before ++ byte ∷ []) → ⊥

-- the bytes are no output, by the byte at this place, or by their end
abbrev pub IsFaultAt : List ℕ → ℕ → Type 0
IsFaultAt bytes at =
    (before : List ℕ) × (after : List ℕ) × (bytes ≡ before ++ after) × (length before ≡ at) × BeginsOutput before × NoOutputGoesOn before after
