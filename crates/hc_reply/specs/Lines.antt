-- The lines of an output, as what each says.
use Rattle.std.specs.Prelude.{◌≡◌, ℕ, ◌^◌, ◌<◌, ◌≤◌, Bool, true, List, ◌++◌}
use Rattle.hc_transcript.specs.declared.refusal.Refusal.{Refusal}
use Rattle.hc_transcript.specs.declared.reply.Ending.{Ending}
use Rattle.hc_transcript.specs.declared.reply.Ending.TheVariants as end
use Rattle.hc_transcript.specs.declared.reply.Line.TheVariants as last
use Rattle.hc_transcript.specs.declared.tag.EndingTag.{EndingTag}
use Rattle.hc_transcript.specs.declared.tag.EndingTag.TheVariants as ending
use Rattle.hc_transcript.specs.declared.tag.RefusalTag.{RefusalTag}
use Rattle.hc_transcript.specs.declared.tag.LineTag.{LineTag}
use Rattle.hc_transcript.specs.declared.tag.LineTag.TheVariants as line
use Rattle.hc_transcript.specs.Fields.{Content, IsContent}
use Rattle.hc_transcript.specs.Table.{fields, refusal_fields, line_of, refusal_of}
use Rattle.hc_transcript.specs.Text.{line_text, ending_tag, ending_number}
use Rattle.hc_reply.specs.declared.allowed.Allowed.{Allowed}
use Rattle.hc_reply.specs.declared.mismatch.Mismatch.{Mismatch}
use Rattle.hc_reply.specs.declared.output_line.OutputLine.{OutputLine}
use Rattle.hc_reply.specs.declared.output_line.OutputLine.TheVariants as output
use Rattle.hc_reply.specs.Fields.{content_end}
use Rattle.hc_reply.specs.Mismatches.{Anything, MismatchIn}

-- ---- lines by their tags

-- a line's tag, and what its fields hold
abbrev pub TaggedLine : Type 0
TaggedLine = (tag : LineTag) × Content (fields tag)

-- the tag of a line, and what its fields hold
abbrev pub tagged : OutputLine → TaggedLine
tagged (output.Conn number) = (line.Conn, number)
tagged (output.Row row) = (line.Row, row.values)
tagged (output.Last (last.Ok count)) = (line.Ok, count)
tagged (output.Last (last.Error refusal)) = (line.Refusal (line_of refusal).0, (line_of refusal).1)
tagged (output.Ending e) = (line.Ending (ending_tag e), ending_number e)

abbrev pub output_line_text : OutputLine → List ℕ
output_line_text l = line_text (tagged l).0 (tagged l).1

-- the ending with this tag and this number
abbrev pub ending_of : EndingTag → ℕ → Ending
ending_of ending.Commit k = end.Commit k
ending_of ending.Snapshot s = end.Snapshot s
ending_of ending.RolledBack s = end.RolledBack s

-- the line with this tag and with this in its fields
abbrev pub line_with : (tag : LineTag) → Content (fields tag) → OutputLine
line_with line.Conn content = output.Conn content
line_with line.Row content = output.Row (record { values = content })
line_with line.Ok content = output.Last (last.Ok content)
line_with (line.Ending t) content = output.Ending (ending_of t content)
line_with (line.Refusal t) content = output.Last (last.Error (refusal_of t content))

-- ---- which line may come next

-- a connection, an ending, or a row or a last line of a reply
abbrev pub may_come : Allowed → LineTag → Bool
may_come allowed line.Conn = allowed.conn
may_come allowed line.Row = allowed.reply
may_come allowed line.Ok = allowed.reply
may_come allowed (line.Ending t) = allowed.ending
may_come allowed (line.Refusal t) = allowed.reply

abbrev pub MayCome : Allowed → LineTag → Type 0
MayCome allowed tag = may_come allowed tag ≡ true

-- what fits in the fields, where a connection's number is no less than the least one
abbrev pub FitsFrom : ℕ → (tag : LineTag) → Content (fields tag) → Type 0
FitsFrom low line.Conn number = (low ≤ number) × (number < 2 ^ 32)
FitsFrom low line.Row content = IsContent (fields line.Row) content
FitsFrom low line.Ok content = IsContent (fields line.Ok) content
FitsFrom low (line.Ending t) content = IsContent (fields (line.Ending t)) content
FitsFrom low (line.Refusal t) content = IsContent (fields (line.Refusal t)) content

-- a line that may come next
abbrev pub IsExpectedTagged : Allowed → ℕ → TaggedLine → Type 0
IsExpectedTagged allowed low l = MayCome allowed l.0 × FitsFrom low l.0 l.1

abbrev pub IsExpected : Allowed → ℕ → OutputLine → Type 0
IsExpected allowed low l = IsExpectedTagged allowed low (tagged l)

-- ---- what is read after the words of a line

-- a line was read, and what is left
abbrev pub IsLineRead : ℕ → LineTag → List ℕ → OutputLine → List ℕ → Type 0
IsLineRead low tag bytes l rest =
    (content : Content (fields tag)) × FitsFrom low tag content × (l ≡ line_with tag content) × (bytes ≡ content_end (fields tag) content ++ rest)

abbrev pub LineMismatch : ℕ → LineTag → List ℕ → Mismatch → Type 0
LineMismatch low tag bytes mismatch = MismatchIn Anything (FitsFrom low tag) (content_end (fields tag)) bytes mismatch

-- a refusal was read, and what is left
abbrev pub IsRefusalRead : RefusalTag → List ℕ → Refusal → List ℕ → Type 0
IsRefusalRead t bytes refusal rest =
    (content : Content (refusal_fields t)) × IsContent (refusal_fields t) content × (refusal ≡ refusal_of t content) × (bytes ≡ content_end (refusal_fields t) content ++ rest)

abbrev pub RefusalMismatch : RefusalTag → List ℕ → Mismatch → Type 0
RefusalMismatch t bytes mismatch = MismatchIn Anything (IsContent (refusal_fields t)) (content_end (refusal_fields t)) bytes mismatch
