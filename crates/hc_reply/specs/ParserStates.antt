-- What was read of an output so far, one line more, and which lines may come next.
use Rattle.std.specs.Prelude.{ℕ, ◌+◌, ◌^◌, nat_lt, Bool, true, false, ◌&&◌, is_some, List, [], ◌∷◌, ◌++◌, Option, Some, None}
use Rattle.hc_transcript.specs.declared.reply.Row.{Row}
use Rattle.hc_transcript.specs.declared.reply.Line.{Line}
use Rattle.hc_transcript.specs.declared.reply.Ending.{Ending}
use Rattle.hc_transcript.specs.declared.reply.Reply.{Reply}
use Rattle.hc_transcript.specs.declared.reply.Transcript.{Transcript}
use Rattle.hc_reply.specs.declared.output_line.OutputLine.{OutputLine}
use Rattle.hc_reply.specs.declared.output_line.OutputLine.TheVariants as output
use Rattle.hc_reply.specs.declared.allowed.Allowed.{Allowed}
use Rattle.hc_reply.specs.declared.parser_state.ParserState.{ParserState}

-- before the first line
abbrev pub start : ParserState
start = record { done = []; conn = None; replies = []; rows = []; may_end = false }

abbrev pub reply_of : List Row → Line → Option Ending → Reply
reply_of rows last ending = record { rows = rows; last = last; ending = ending }

-- the replies, of which the last one gets this ending
abbrev pub with_ending : List Reply → Ending → List Reply
with_ending [] ending = []
with_ending (reply ∷ []) ending = reply_of reply.rows reply.last (Some ending) ∷ []
with_ending (reply ∷ next ∷ replies) ending = reply ∷ with_ending (next ∷ replies) ending

-- the transcripts, with the open one
abbrev pub with_open : List Transcript → Option ℕ → List Reply → List Transcript
with_open done None replies = done
with_open done (Some conn) replies = done ++ (record { conn = conn; replies = replies }) ∷ []

-- all that was read, as transcripts
abbrev pub finish : ParserState → List Transcript
finish p = with_open p.done p.conn p.replies

-- one line more
abbrev pub step : ParserState → OutputLine → ParserState
step p (output.Conn number) = record { done = finish p; conn = Some number; replies = []; rows = []; may_end = false }
step p (output.Row row) = record { done = p.done; conn = p.conn; replies = p.replies; rows = p.rows ++ row ∷ []; may_end = false }
step p (output.Last last) = record { done = p.done; conn = p.conn; replies = p.replies ++ reply_of p.rows last None ∷ []; rows = []; may_end = true }
step p (output.Ending ending) = record { done = p.done; conn = p.conn; replies = with_ending p.replies ending; rows = p.rows; may_end = false }

-- ---- which line may come next

-- there is an element
abbrev pub is_filled : {A : Type 0} → List A → Bool
is_filled [] = false
is_filled (a ∷ rest) = true

abbrev pub is_empty : {A : Type 0} → List A → Bool
is_empty [] = true
is_empty (a ∷ rest) = false

-- nothing is open, or a transcript that has replies and no further row
abbrev pub may_close : Option ℕ → List Reply → List Row → Bool
may_close None replies rows = true
may_close (Some conn) replies rows = is_empty rows && is_filled replies

abbrev pub is_whole : ParserState → Bool
is_whole p = may_close p.conn p.replies p.rows

-- the least number of the next connection
abbrev pub next_low : Option ℕ → ℕ
next_low None = 0
next_low (Some conn) = conn + 1

abbrev pub low_of : ParserState → ℕ
low_of p = next_low p.conn

abbrev pub allowed_of : ParserState → Allowed
allowed_of p = record { conn = nat_lt (low_of p) (2 ^ 32) && is_whole p; reply = is_some p.conn; ending = p.may_end }
