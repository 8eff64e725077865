-- The lines of transcripts, and that they lead to them.
use Rattle.std.proofs.Common.{◌≡◌, ◌≢◌, ◌∙◌, ap, ℕ, suc, ◌+◌, ◌^◌, ◌<◌, ◌≤◌, ◌&&◌, true, List, [], ◌∷◌, ◌++◌, Option, Some, None, refl, sym, subst, append_assoc, arith, flat_map, map, is_some}
use Rattle.std.specs.Cmp.Derive.{both_true}
use Rattle.std.specs.List.{AllByRecursion, slice_index}
use Rattle.std.specs.List.Sorted.{IsStrictlyIncreasing}
use Rattle.std.proofs.lemmas.Bool.{lt-ltb}
use Rattle.std.proofs.lemmas.List.{append-nil}
use Rattle.hc_transcript.specs.declared.reply.Row.{Row}
use Rattle.hc_transcript.specs.declared.reply.Line.{Line}
use Rattle.hc_transcript.specs.declared.reply.Line.TheVariants as last
use Rattle.hc_transcript.specs.declared.reply.Ending.{Ending}
use Rattle.hc_transcript.specs.declared.reply.Reply.{Reply}
use Rattle.hc_transcript.specs.declared.reply.Transcript.{Transcript}
use Rattle.hc_transcript.specs.Outputs.{IsRow, IsLast, IsReply, IsTranscript, IsEndingIf, AreTranscripts}
use Rattle.hc_reply.specs.declared.output_line.OutputLine.{OutputLine}
use Rattle.hc_reply.specs.declared.output_line.OutputLine.TheVariants as output
use Rattle.hc_reply.specs.declared.parser_state.ParserState.{ParserState}
use Rattle.hc_reply.specs.Lines.{tagged, FitsFrom}
use Rattle.hc_reply.specs.ParserStates.{start, reply_of, with_open, finish, step, is_filled, may_close, is_whole, low_of, next_low, allowed_of}
use Rattle.hc_reply.proofs.Lines.{last_may_come}
use Rattle.hc_reply.proofs.States.{conns, ends_last}
use Rattle.hc_reply.proofs.Leading.{Leads, leads_on}

-- a last line of an output may come with any least number
last_fits : (low : ℕ) (l : Line) → IsLast l → FitsFrom low (tagged (output.Last l)).0 (tagged (output.Last l)).1
last_fits low (last.Ok count) is = is
last_fits low (last.Error refusal) is = is

-- the line of an ending, where there is one
abbrev ending_lines : Option Ending → List OutputLine
ending_lines None = []
ending_lines (Some line) = output.Ending line ∷ []

-- the lines of a reply
abbrev reply_lines : Reply → List OutputLine
reply_lines reply = map output.Row reply.rows ++ output.Last reply.last ∷ ending_lines reply.ending

-- the lines of a transcript
abbrev transcript_lines : Transcript → List OutputLine
transcript_lines transcript = output.Conn transcript.conn ∷ flat_map reply_lines transcript.replies

-- the lines of transcripts
abbrev pub all_lines : List Transcript → List OutputLine
all_lines transcripts = flat_map transcript_lines transcripts

-- the transcripts before, the open one's number and replies, and rows after them
record At (done : List Transcript) (n : ℕ) (replies : List Reply) (rows : List Row) (p : ParserState) : Type 0 where
  before : p.done ≡ done
  conn : p.conn ≡ Some n
  closed : p.replies ≡ replies
  left : p.rows ≡ rows

module _ (done : List Transcript) (n : ℕ) where
  -- rows lead on to where they are after those before
  rows_lead : (rows : List Row) (replies : List Reply) (front : List Row) (p : ParserState) → At done n replies front p → AllByRecursion IsRow rows
      → (q : ParserState) × Leads p (map output.Row rows) q × At done n replies (front ++ rows) q
  rows_lead [] replies front p at are = (p, refl, record { before = at.before; conn = at.conn; closed = at.closed; left = at.left ∙ sym (append-nil front) })
  rows_lead (row ∷ rows) replies front p at are =
      let next : At done n replies (front ++ row ∷ []) (step p (output.Row row)) =
      record { before = at.before; conn = at.conn; closed = at.closed; left = ap (λ (l : List Row). l ++ row ∷ []) at.left } in
      let more = rows_lead rows replies (front ++ row ∷ []) (step p (output.Row row)) next are.1 in
      (more.0, ((ap is_some at.conn, are.0), more.1), subst (λ (l : List Row). At done n replies l more.0) (append_assoc front (row ∷ []) rows) more.2)

  -- a last line and its ending lead on to where the reply is closed
  end_leads : (ending : Option Ending) (replies : List Reply) (rows : List Row) (line : Line) (p : ParserState) → At done n replies rows p → IsLast line → IsEndingIf ending
      → (q : ParserState) × Leads p (output.Last line ∷ ending_lines ending) q × At done n (replies ++ reply_of rows line ending ∷ []) [] q
  end_leads None replies rows line p at is end = (
    step p (output.Last line),
    ((last_may_come (allowed_of p) line ∙ ap is_some at.conn, last_fits (low_of p) line is), refl),
    record { before = at.before; conn = at.conn; closed = λ i. (at.closed i) ++ reply_of (at.left i) line None ∷ []; left = refl },
  )
  end_leads (Some ending) replies rows line p at is end =
      let mid = step p (output.Last line) in (
        step mid (output.Ending ending),
        ((last_may_come (allowed_of p) line ∙ ap is_some at.conn, last_fits (low_of p) line is), ((refl, end), refl)),
        record { before = at.before; conn = at.conn; closed = ends_last p.replies (reply_of p.rows line None) ending ∙ (λ i. (at.closed i) ++ reply_of (at.left i) line (Some ending) ∷ []); left = refl },
      )

  -- the lines of replies lead on to where these are after those before
  replies_lead : (rs : List Reply) (replies : List Reply) (p : ParserState) → At done n replies [] p → AllByRecursion IsReply rs
      → (q : ParserState) × Leads p (flat_map reply_lines rs) q × At done n (replies ++ rs) [] q
  replies_lead [] replies p at are = (p, refl, record { before = at.before; conn = at.conn; closed = at.closed ∙ sym (append-nil replies); left = at.left })
  replies_lead (r ∷ rs) replies p at are =
      let rows = rows_lead r.rows replies [] p at are.0.0 in
      let end = end_leads r.ending replies r.rows r.last rows.0 rows.2 are.0.1 are.0.2 in
      let more = replies_lead rs (replies ++ r ∷ []) end.0 end.2 are.1 in (
        more.0,
        leads_on p (reply_lines r) (flat_map reply_lines rs) end.0 more.0
            (leads_on p (map output.Row r.rows) (output.Last r.last ∷ ending_lines r.ending) rows.0 end.0 rows.1 end.1) more.1,
        subst (λ (l : List Reply). At done n l [] more.0) (append_assoc replies (r ∷ []) rs) more.2,
      )

-- the numbers rise from the least one on
abbrev Rises : ℕ → List Transcript → Type 0
Rises low [] = Unit {0}
Rises low (t ∷ ts) = (low ≤ t.conn) × Rises (t.conn + 1) ts

-- numbers that rise strictly rise from the first on
rises : (low : ℕ) (t : Transcript) (ts : List Transcript) → low ≤ t.conn → IsStrictlyIncreasing (conns (t ∷ ts)) → Rises low (t ∷ ts)
rises low t [] le up = (le, tt)
rises low t (u ∷ ts) le up =
    let first : t.conn < u.conn = up 0 (omega arith) in (
      le,
      rises (t.conn + 1) u ts (omega (arith, first)) (λ k short.
          let next : suc k + 1 ≡ suc (k + 1) = omega arith in
          subst (λ (i : ℕ). slice_index (conns (u ∷ ts)) k < slice_index (conns (t ∷ u ∷ ts)) i) next (up (suc k) (omega (arith, short)))),
    )

-- a transcript that has replies may close
some_there : (replies : List Reply) → replies ≢ [] → (true && is_filled replies) ≡ true
some_there [] some = absurd (some refl)
some_there (r ∷ replies) some = refl

-- where nothing is left open, the lines of further transcripts lead on to where these are after
all_lead : (ts : List Transcript) (p : ParserState) → is_whole p ≡ true → Rises (low_of p) ts → AllByRecursion IsTranscript ts
    → (q : ParserState) × Leads p (all_lines ts) q × (is_whole q ≡ true) × (finish q ≡ finish p ++ ts)
all_lead [] p whole up are = (p, refl, whole, sym (append-nil (finish p)))
all_lead (t ∷ ts) p whole up are =
    let n = t.conn in
    let here = step p (output.Conn n) in
    let room : low_of p < 2 ^ 32 = omega (arith, up.0, are.0.0) in
    let replies = replies_lead (finish p) n t.replies [] here (record { before = refl; conn = refl; closed = refl; left = refl }) are.0.2 in
    let q = replies.0 in
    let at = replies.2 in
    let closes : is_whole q ≡ true = (λ i. may_close (at.conn i) (at.closed i) (at.left i)) ∙ some_there t.replies are.0.1 in
    let end : finish q ≡ finish p ++ t ∷ [] = λ i. with_open (at.before i) (at.conn i) (at.closed i) in
    let low : low_of q ≡ n + 1 = ap next_low at.conn in
    let more = all_lead ts q closes (subst (λ (l : ℕ). Rises l ts) (sym low) up.1) are.1 in (
      more.0,
      ((both_true (lt-ltb (low_of p) (2 ^ 32) room) whole, (up.0, are.0.0)), leads_on here (flat_map reply_lines t.replies) (all_lines ts) q more.0 replies.1 more.1),
      more.2,
      more.3 ∙ ap (λ (l : List Transcript). l ++ ts) end ∙ append_assoc (finish p) (t ∷ []) ts,
    )

-- the lines of transcripts lead to them
pub whole_leads : (ts : List Transcript) → AreTranscripts ts → (q : ParserState) × Leads start (all_lines ts) q × (is_whole q ≡ true) × (finish q ≡ ts)
whole_leads ts are = all_lead ts start refl (from ts are.0) are.1
  where
    from : (l : List Transcript) → IsStrictlyIncreasing (conns l) → Rises 0 l
    from [] up = tt
    from (t ∷ l) up = rises 0 t l (omega arith) up
