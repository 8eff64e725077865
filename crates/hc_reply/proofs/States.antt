-- One line more: what was read stays right, and its text is longer by the line's.
use Rattle.std.proofs.Common.{slice_index_or, ◌⊎◌, inl, inr, ◌≡◌, ◌≢◌, ◌∙◌, ap, ℕ, ◌+◌, ◌^◌, ◌&&◌, ◌<◌, ◌≤◌, true, false, List, [], ◌∷◌, ◌++◌, Option, Some, None, length, refl, sym, subst, append_assoc, arith, flat_map, map, is_some}
use Rattle.std.specs.Cmp.{second_so}
use Rattle.std.specs.List.{AllByRecursion}
use Rattle.std.specs.List.Sorted.{IsStrictlyIncreasing}
use Rattle.std.proofs.lemmas.Grind.{flat_map-append}
use Rattle.std.proofs.lemmas.Bool.{cases_lt}
use Rattle.std.proofs.lemmas.List.{append-nil, length-append, map-append, get_or_append_left}
use Rattle.std.proofs.Math.Seq.{get_or-append_seam}
use Rattle.hc_transcript.specs.declared.reply.Row.{Row}
use Rattle.hc_transcript.specs.declared.reply.Line.{Line}
use Rattle.hc_transcript.specs.declared.reply.Line.TheVariants as last
use Rattle.hc_transcript.specs.declared.reply.Ending.{Ending}
use Rattle.hc_transcript.specs.declared.reply.Reply.{Reply}
use Rattle.hc_transcript.specs.declared.reply.Transcript.{Transcript}
use Rattle.hc_transcript.specs.declared.tag.LineTag.TheVariants as line
use Rattle.hc_transcript.specs.Text.{line_text, last_text, ending_text, row_text, reply_text, transcript_text, output_text}
use Rattle.hc_transcript.specs.Outputs.{IsRow, IsLast, IsEnding, IsReply, IsTranscript, AreTranscripts}
use Rattle.hc_reply.specs.declared.output_line.OutputLine.{OutputLine}
use Rattle.hc_reply.specs.declared.output_line.OutputLine.TheVariants as output
use Rattle.hc_reply.specs.declared.parser_state.ParserState.{ParserState}
use Rattle.hc_reply.specs.Lines.{tagged, output_line_text, IsExpected, FitsFrom}
use Rattle.hc_reply.specs.ParserStates.{start, reply_of, with_ending, with_open, finish, step, is_filled, is_empty, may_close, is_whole, next_low, low_of, allowed_of}
use Rattle.hc_reply.proofs.Lines.{last_may_come}

-- ---- what holds of all that was read

-- the line may come next
abbrev pub MayFollow : ParserState → OutputLine → Type 0
MayFollow p l = IsExpected (allowed_of p) (low_of p) l

-- the connections' numbers
abbrev pub conns : List Transcript → List ℕ
conns transcripts = map (λ t. t.conn) transcripts

-- nothing at all, or a connection whose number is above those before
abbrev pub IsOpenConn : ParserState → Option ℕ → Type 0
IsOpenConn p None = p ≡ start
IsOpenConn p (Some conn) = (conn < 2 ^ 32) × IsStrictlyIncreasing (conns p.done ++ conn ∷ [])

-- there is a last reply, and it has no ending
abbrev pub HasOpen : List Reply → Type 0
HasOpen [] = ⊥
HasOpen (reply ∷ []) = reply.ending ≡ None
HasOpen (reply ∷ next ∷ replies) = HasOpen (next ∷ replies)

-- each part of what was read is one of an output
pub record IsState (p : ParserState) : Type 0 where
  pub opened : IsOpenConn p p.conn
  pub transcripts : AllByRecursion IsTranscript p.done
  pub replies : AllByRecursion IsReply p.replies
  pub rows : AllByRecursion IsRow p.rows
  pub ends : p.may_end ≡ true → (is_some p.conn ≡ true) × HasOpen p.replies × (p.rows ≡ [])

-- the line of the open connection, where there is one
abbrev pub conn_text_if : Option ℕ → List ℕ
conn_text_if None = []
conn_text_if (Some conn) = line_text line.Conn conn

-- all text that was read
abbrev pub text_of : ParserState → List ℕ
text_of p = output_text p.done ++ conn_text_if p.conn ++ flat_map reply_text p.replies ++ flat_map row_text p.rows

-- ---- texts

-- the text of parts with one more after them
flat_last : {X : Type 0} (f : X → List ℕ) (xs : List X) (x : X) → flat_map f (xs ++ x ∷ []) ≡ flat_map f xs ++ f x
flat_last f xs x = flat_map-append f xs (x ∷ []) ∙ ap (λ (l : List ℕ). flat_map f xs ++ l) (append-nil (f x))

-- one row more adds its text
with_row : (p : ParserState) (row : Row) → text_of (step p (output.Row row)) ≡ text_of p ++ row_text row
with_row p row =
    let front = output_text p.done ++ conn_text_if p.conn ++ flat_map reply_text p.replies in
    ap (λ (l : List ℕ). front ++ l) (flat_last row_text p.rows row) ∙ sym (append_assoc front (flat_map row_text p.rows) (row_text row))

-- one last line more adds its text
with_last : (p : ParserState) (l : Line) → text_of (step p (output.Last l)) ≡ text_of p ++ last_text l
with_last p l =
    let front = output_text p.done ++ conn_text_if p.conn in
    let replies = flat_map reply_text p.replies in
    let rows = flat_map row_text p.rows in
    append-nil _
    ∙ ap (λ (l : List ℕ). front ++ l) (flat_last reply_text p.replies (reply_of p.rows l None))
    ∙ ap (λ (l : List ℕ). front ++ (replies ++ l)) (append-nil (rows ++ last_text l))
    ∙ sym (append_assoc front replies (rows ++ last_text l)) ∙ sym (append_assoc (front ++ replies) rows (last_text l))

-- an ending of the last reply adds its text
with_end : (replies : List Reply) (e : Ending) → HasOpen replies → flat_map reply_text (with_ending replies e) ≡ flat_map reply_text replies ++ ending_text e
with_end [] e last = absurd last
with_end (reply ∷ []) e last =
    let body = flat_map row_text reply.rows ++ last_text reply.last in
    append-nil (body ++ ending_text e)
    ∙ ap (λ (l : List ℕ). l ++ ending_text e)
    (sym (append-nil (reply_text reply) ∙ ap (λ (o : Option Ending). reply_text (reply_of reply.rows reply.last o)) last ∙ append-nil body))
with_end (reply ∷ next ∷ replies) e last =
    ap (λ (l : List ℕ). reply_text reply ++ l) (with_end (next ∷ replies) e last) ∙ sym (append_assoc (reply_text reply) (flat_map reply_text (next ∷ replies)) (ending_text e))

-- the same of all text, where no row follows the reply
with_ending_text : (p : ParserState) (e : Ending) → HasOpen p.replies → p.rows ≡ [] → text_of (step p (output.Ending e)) ≡ text_of p ++ ending_text e
with_ending_text p e last none =
    let front = output_text p.done ++ conn_text_if p.conn in
    let replies = flat_map reply_text p.replies in
    ap (λ (rows : List Row). (front ++ flat_map reply_text (with_ending p.replies e)) ++ flat_map row_text rows) none
    ∙ append-nil (front ++ flat_map reply_text (with_ending p.replies e))
    ∙ ap (λ (l : List ℕ). front ++ l) (with_end p.replies e last)
    ∙ sym (append_assoc front replies (ending_text e))
    ∙ ap (λ (l : List ℕ). l ++ ending_text e) (sym (append-nil (front ++ replies)) ∙ ap (λ (rows : List Row). (front ++ replies) ++ flat_map row_text rows) (sym none))

-- where an open transcript may close, it has replies, and no further row
pub no_row_left : (replies : List Reply) (rows : List Row) → (is_empty rows && is_filled replies) ≡ true → (replies ≢ []) × (rows ≡ [])
no_row_left [] [] h = absurd (let bad = h in cc)
no_row_left [] (w ∷ rows) h = absurd (let bad = h in cc)
no_row_left (r ∷ replies) [] h = ((λ bad. cc), refl)
no_row_left (r ∷ replies) (w ∷ rows) h = absurd (let bad = h in cc)

-- the text of all transcripts, where nothing is left open
pub finished_text : (p : ParserState) → IsState p → is_whole p ≡ true → output_text (finish p) ≡ text_of p
finished_text p is whole = by p.conn is.opened whole
  where
    by : (k : Option ℕ) → IsOpenConn p k → may_close k p.replies p.rows ≡ true
        → output_text (with_open p.done k p.replies) ≡ ((output_text p.done ++ conn_text_if k) ++ flat_map reply_text p.replies) ++ flat_map row_text p.rows
    by None opened whole =
        subst (λ (q : ParserState). output_text q.done ≡ ((output_text q.done ++ []) ++ flat_map reply_text q.replies) ++ flat_map row_text q.rows) (sym opened) refl
    by (Some c) opened whole =
        let all = output_text p.done in
        let conn = line_text line.Conn c in
        let replies = flat_map reply_text p.replies in
        flat_last transcript_text p.done (record { conn = c; replies = p.replies })
        ∙ sym (append_assoc all conn replies) ∙ sym (append-nil ((all ++ conn) ++ replies))
        ∙ ap (λ (rows : List Row). ((all ++ conn) ++ replies) ++ flat_map row_text rows) (sym (no_row_left p.replies p.rows whole).1)

-- one line more adds its text to what was read
pub step_text : (p : ParserState) (l : OutputLine) → IsState p → MayFollow p l → text_of (step p l) ≡ text_of p ++ output_line_text l
step_text p (output.Conn n) is may =
    append-nil _ ∙ append-nil _ ∙ ap (λ (l : List ℕ). l ++ line_text line.Conn n) (finished_text p is (second_so _ _ may.0))
step_text p (output.Row row) is may = with_row p row
step_text p (output.Last (last.Ok count)) is may = with_last p (last.Ok count)
step_text p (output.Last (last.Error refusal)) is may = with_last p (last.Error refusal)
step_text p (output.Ending e) is may = let ends = is.ends may.0 in with_ending_text p e ends.1 ends.2

-- ---- what holds

-- what holds of each element, and of one after them, holds of each
pub all_last : {X : Type 0} (P : X → Type 0) (xs : List X) (x : X) → AllByRecursion P xs → P x → AllByRecursion P (xs ++ x ∷ [])
all_last P [] x all is = (is, tt)
all_last P (y ∷ xs) x all is = (all.0, all_last P xs x all.1 is)

-- a reply without an ending after others is open
has_open : (replies : List Reply) (r : Reply) → r.ending ≡ None → HasOpen (replies ++ r ∷ [])
has_open [] r none = none
has_open (s ∷ []) r none = none
has_open (s ∷ t ∷ replies) r none = has_open (t ∷ replies) r none

-- with an ending, replies stay those of an output
ended_are : (replies : List Reply) (e : Ending) → AllByRecursion IsReply replies → IsEnding e → AllByRecursion IsReply (with_ending replies e)
ended_are [] e all is = tt
ended_are (reply ∷ []) e all is = ((all.0.0, all.0.1, is), tt)
ended_are (reply ∷ next ∷ replies) e all is = (all.0, ended_are (next ∷ replies) e all.1 is)

-- the last reply gets the ending
pub ends_last : (replies : List Reply) (r : Reply) (e : Ending) → with_ending (replies ++ r ∷ []) e ≡ replies ++ reply_of r.rows r.last (Some e) ∷ []
ends_last [] r e = refl
ends_last (s ∷ []) r e = refl
ends_last (s ∷ t ∷ replies) r e = ap (λ (l : List Reply). s ∷ l) (ends_last (t ∷ replies) r e)

-- rising numbers with a greater one after them rise
pub rises_more : (xs : List ℕ) (c n : ℕ) → IsStrictlyIncreasing (xs ++ c ∷ []) → c < n → IsStrictlyIncreasing ((xs ++ c ∷ []) ++ n ∷ [])
rises_more xs c n rises less k short = by (cases_lt (k + 1) (length (xs ++ c ∷ [])))
  where
    by : (k + 1 < length (xs ++ c ∷ [])) ⊎ (length (xs ++ c ∷ []) ≤ k + 1) → slice_index_or ((xs ++ c ∷ []) ++ n ∷ []) k 0 < slice_index_or ((xs ++ c ∷ []) ++ n ∷ []) (k + 1) 0
    by (inl within) =
        subst (λ (x : ℕ). x < slice_index_or ((xs ++ c ∷ []) ++ n ∷ []) (k + 1) 0) (sym (get_or_append_left (xs ++ c ∷ []) (n ∷ []) 0 k (omega (arith, within))))
        (subst (λ (x : ℕ). slice_index_or (xs ++ c ∷ []) k 0 < x) (sym (get_or_append_left (xs ++ c ∷ []) (n ∷ []) 0 (k + 1) within)) (rises k within))
    by (inr past) =
        let long : length (xs ++ c ∷ []) ≡ length xs + 1 = length-append xs (c ∷ []) in
        let all : length ((xs ++ c ∷ []) ++ n ∷ []) ≡ length (xs ++ c ∷ []) + 1 = length-append (xs ++ c ∷ []) (n ∷ []) in
        let at : length xs ≡ k = omega (arith, past, long, all, short) in
        let next : length (xs ++ c ∷ []) ≡ k + 1 = omega (arith, long, at) in
        let low : slice_index_or ((xs ++ c ∷ []) ++ n ∷ []) k 0 ≡ c =
        ap (λ (l : List ℕ). slice_index_or l k 0) (append_assoc xs (c ∷ []) (n ∷ [])) ∙ ap (λ (i : ℕ). slice_index_or (xs ++ c ∷ n ∷ []) i 0) (sym at) ∙ get_or-append_seam xs c (n ∷ []) 0 in
        let high : slice_index_or ((xs ++ c ∷ []) ++ n ∷ []) (k + 1) 0 ≡ n =
        ap (λ (i : ℕ). slice_index_or ((xs ++ c ∷ []) ++ n ∷ []) i 0) (sym next) ∙ get_or-append_seam (xs ++ c ∷ []) n [] 0 in
        omega (arith, low, high, less)

-- a connection stays open, while the transcripts before it are the same
still_open : (p q : ParserState) (k : Option ℕ) → is_some k ≡ true → q.done ≡ p.done → IsOpenConn p k → IsOpenConn q k
still_open p q None some same opened = absurd (let bad = some in cc)
still_open p q (Some c) some same opened = (opened.0, subst (λ (d : List Transcript). IsStrictlyIncreasing (conns d ++ c ∷ [])) (sym same) opened.1)

-- the transcripts, where nothing is left open
pub finished_are : (p : ParserState) → IsState p → is_whole p ≡ true → AllByRecursion IsTranscript (finish p)
finished_are p is whole = by p.conn is.opened whole
  where
    by : (k : Option ℕ) → IsOpenConn p k → may_close k p.replies p.rows ≡ true → AllByRecursion IsTranscript (with_open p.done k p.replies)
    by None opened whole = is.transcripts
    by (Some c) opened whole =
        all_last IsTranscript p.done (record { conn = c; replies = p.replies }) is.transcripts (opened.0, (no_row_left p.replies p.rows whole).0, is.replies)

-- the numbers of transcripts with one more after them
conns_last : (done : List Transcript) (c : ℕ) (replies : List Reply) → conns (done ++ (record { conn = c; replies = replies }) ∷ []) ≡ conns done ++ c ∷ []
conns_last done c replies = map-append (λ (t : Transcript). t.conn) done ((record { conn = c; replies = replies }) ∷ [])

-- a connection of no less than the least number is above those before it
conn_opened : (p : ParserState) (n : ℕ) (k : Option ℕ) → IsOpenConn p k → next_low k ≤ n → IsStrictlyIncreasing (conns (with_open p.done k p.replies) ++ n ∷ [])
conn_opened p n None opened low = subst (λ (q : ParserState). IsStrictlyIncreasing (conns q.done ++ n ∷ [])) (sym opened) (λ k short. omega (arith, short))
conn_opened p n (Some c) opened low =
    subst (λ (l : List ℕ). IsStrictlyIncreasing (l ++ n ∷ [])) (sym (conns_last p.done c p.replies)) (rises_more (conns p.done) c n opened.1 (omega (arith, low)))

-- a last line that may come is one of an output
last_is : (low : ℕ) (l : Line) → FitsFrom low (tagged (output.Last l)).0 (tagged (output.Last l)).1 → IsLast l
last_is low (last.Ok count) fits = fits
last_is low (last.Error refusal) fits = fits

-- nothing may end just before
no_end : {A : Type 0} → false ≡ true → A
no_end bad = absurd (let e = bad in cc)

-- what was read stays right
pub step_is : (p : ParserState) (l : OutputLine) → IsState p → MayFollow p l → IsState (step p l)
step_is p (output.Conn n) is may = record {
  opened = (may.1.1, conn_opened p n p.conn is.opened may.1.0);
  transcripts = finished_are p is (second_so _ _ may.0);
  replies = tt;
  rows = tt;
  ends = λ bad. no_end bad;
}
step_is p (output.Row row) is may = record {
  opened = still_open p (step p (output.Row row)) p.conn may.0 refl is.opened;
  transcripts = is.transcripts;
  replies = is.replies;
  rows = all_last IsRow p.rows row is.rows may.1;
  ends = λ bad. no_end bad;
}
step_is p (output.Last l) is may =
    let some : is_some p.conn ≡ true = sym (last_may_come (allowed_of p) l) ∙ may.0 in
    record {
      opened = still_open p (step p (output.Last l)) p.conn some refl is.opened;
      transcripts = is.transcripts;
      replies = all_last IsReply p.replies (reply_of p.rows l None) is.replies (is.rows, last_is (low_of p) l may.1, tt);
      rows = tt;
      ends = λ e. (some, has_open p.replies (reply_of p.rows l None) refl, refl);
    }
step_is p (output.Ending e) is may = record {
  opened = still_open p (step p (output.Ending e)) p.conn (is.ends may.0).0 refl is.opened;
  transcripts = is.transcripts;
  replies = ended_are p.replies e is.replies may.1;
  rows = is.rows;
  ends = λ bad. no_end bad;
}

-- before the first line, what was read is right
pub start_is : IsState start
start_is = record {
  opened = refl;
  transcripts = tt;
  replies = tt;
  rows = tt;
  ends = λ bad. no_end bad;
}

-- the transcripts that were read, where nothing is left open
pub finished : (p : ParserState) → IsState p → is_whole p ≡ true → AreTranscripts (finish p)
finished p is whole = (by p.conn is.opened, finished_are p is whole)
  where
    by : (k : Option ℕ) → IsOpenConn p k → IsStrictlyIncreasing (conns (with_open p.done k p.replies))
    by None opened = subst (λ (q : ParserState). IsStrictlyIncreasing (conns q.done)) (sym opened) (λ k short. omega (arith, short))
    by (Some c) opened = subst IsStrictlyIncreasing (sym (conns_last p.done c p.replies)) opened.1
