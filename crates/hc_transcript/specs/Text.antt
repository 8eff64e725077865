-- The output form: the text in which replies are printed. Each line ends with a line feed (10). A text with
-- a line feed in it is printed with it, so a line of the form may go over several lines of the text.
use Rattle.std.specs.Prelude.{ℕ, List, [], ◌∷◌, ◌++◌, Option, Some, None, flat_map}
use Rattle.hc_transcript.specs.declared.reply.Row.{Row}
use Rattle.hc_transcript.specs.declared.refusal.Refusal.{Refusal}
use Rattle.hc_transcript.specs.declared.reply.Line.{Line}
use Rattle.hc_transcript.specs.declared.reply.Line.TheVariants as last
use Rattle.hc_transcript.specs.declared.reply.Ending.{Ending}
use Rattle.hc_transcript.specs.declared.reply.Ending.TheVariants as end
use Rattle.hc_transcript.specs.declared.reply.Reply.{Reply}
use Rattle.hc_transcript.specs.declared.reply.Transcript.{Transcript}
use Rattle.hc_transcript.specs.declared.tag.LineTag.{LineTag}
use Rattle.hc_transcript.specs.declared.tag.LineTag.TheVariants as line
use Rattle.hc_transcript.specs.declared.tag.EndingTag.{EndingTag}
use Rattle.hc_transcript.specs.declared.tag.EndingTag.TheVariants as ending
use Rattle.hc_transcript.specs.Words.{tag_words}
use Rattle.hc_transcript.specs.Fields.{Content, content_text}
use Rattle.hc_transcript.specs.Table.{fields, line_of}

-- a line: its words, its fields, and a line feed
abbrev pub line_text : (tag : LineTag) → Content (fields tag) → List ℕ
line_text tag content = tag_words tag ++ content_text (fields tag) content ++ 10 ∷ []

-- `row V|V|V`
abbrev pub row_text : Row → List ℕ
row_text row = line_text line.Row row.values

-- a refusal's line
abbrev pub refusal_text : Refusal → List ℕ
refusal_text refusal = line_text (line.Refusal (line_of refusal).0) (line_of refusal).1

-- `ok N`, or the refusal
abbrev pub last_text : Line → List ℕ
last_text (last.Ok count) = line_text line.Ok count
last_text (last.Error refusal) = refusal_text refusal

-- the tag of an ending
abbrev pub ending_tag : Ending → EndingTag
ending_tag (end.Commit k) = ending.Commit
ending_tag (end.Snapshot s) = ending.Snapshot
ending_tag (end.RolledBack s) = ending.RolledBack

-- its number of commits
abbrev pub ending_number : Ending → ℕ
ending_number (end.Commit k) = k
ending_number (end.Snapshot s) = s
ending_number (end.RolledBack s) = s

-- `commit K`, `snapshot S` or `rolled back S`
abbrev pub ending_text : Ending → List ℕ
ending_text ending = line_text (line.Ending (ending_tag ending)) (ending_number ending)

-- nothing where no transaction ended
abbrev pub ending_text_if : Option Ending → List ℕ
ending_text_if None = []
ending_text_if (Some ending) = ending_text ending

-- the rows, then the last line, then the ending
abbrev pub reply_text : Reply → List ℕ
reply_text reply = flat_map row_text reply.rows ++ last_text reply.last ++ ending_text_if reply.ending

-- `conn C`, then the replies by statement
abbrev pub transcript_text : Transcript → List ℕ
transcript_text transcript = line_text line.Conn transcript.conn ++ flat_map reply_text transcript.replies

-- the whole output: the connections' transcripts, one after another
abbrev pub output_text : List Transcript → List ℕ
output_text transcripts = flat_map transcript_text transcripts
