-- What lines that were read say of whole outputs.
use Rattle.std.proofs.Common.{◌≡◌, ◌∙◌, ap, ℕ, ◌+◌, ◌-◌, ◌<◌, ◌≤◌, ◌⊎◌, inl, inr, true, List, [], ◌∷◌, ◌++◌, length, refl, sym, subst, append_assoc, arith}
use Rattle.std.proofs.lemmas.Bool.{cases_lt}
use Rattle.std.proofs.lemmas.Grind.{flat_map-append}
use Rattle.std.proofs.lemmas.List.{append-nil, length-append}
use Rattle.hc_transcript.specs.declared.reply.Transcript.{Transcript}
use Rattle.hc_transcript.specs.Text.{output_text}
use Rattle.hc_transcript.specs.Outputs.{AreTranscripts, IsOutput, BeginsOutput, NoOutputGoesOn, IsFaultAt}
use Rattle.hc_reply.specs.declared.allowed.Allowed.{Allowed}
use Rattle.hc_reply.specs.declared.mismatch.Mismatch.{Mismatch}
use Rattle.hc_reply.specs.declared.mismatch.Mismatch.TheVariants as mismatch
use Rattle.hc_reply.specs.declared.fault.ReplyFault.TheVariants as fault
use Rattle.hc_reply.specs.declared.output_line.OutputLine.{OutputLine}
use Rattle.hc_reply.specs.declared.parser_state.ParserState.{ParserState}
use Rattle.hc_reply.specs.Lines.{IsExpected, output_line_text}
use Rattle.hc_reply.specs.ParserStates.{start, finish, step, is_whole, low_of, allowed_of}
use Rattle.hc_reply.specs.Faults.{IsReplyFault, fault_of}
use Rattle.hc_reply.specs.Mismatches.{Anything, IsMismatch, SameFirst, MismatchIn}
use Rattle.hc_reply.specs.Laws.{OutputsDiffer, OneSpelling, OneFault, OutputsHaveNoFault}
use Rattle.hc_reply.proofs.States.{MayFollow, start_is, finished_text, finished}
use Rattle.hc_reply.proofs.Leading.{Leads, lines_text, leads_is, leads_on, leads_split, leads_fitting, completes, cut, line_long}
use Rattle.hc_reply.proofs.Transcripts.{all_lines, whole_leads}

-- the lines that were read, and that they led here
pub record IsRead (bytes rest : List ℕ) (p : ParserState) : Type 0 where
  pub lines : List OutputLine
  pub leads : Leads start lines p
  pub all : bytes ≡ lines_text lines ++ rest

-- the text of transcripts, line by line
by_lines : (ts : List Transcript) → AreTranscripts ts → output_text ts ≡ lines_text (all_lines ts)
by_lines ts are =
    let w = whole_leads ts are in
    let is = leads_is start (all_lines ts) w.0 start_is w.1 in
    ap output_text (sym w.3) ∙ finished_text w.0 is.0 w.2 ∙ is.1

-- an output that begins with these lines goes on with others
goes_on : (lines : List OutputLine) (p : ParserState) → Leads start lines p → (ts : List Transcript) → AreTranscripts ts → (more : List ℕ) → output_text ts ≡ lines_text lines ++ more
    → (zs : List OutputLine) × (q : ParserState) × Leads p zs q × (is_whole q ≡ true) × (finish q ≡ ts) × (more ≡ lines_text zs)
goes_on lines p leads ts are more e =
    let w = whole_leads ts are in
    let c = cut (all_lines ts) lines more (leads_fitting start (all_lines ts) w.0 w.1) (leads_fitting start lines p leads) (sym (by_lines ts are) ∙ e) in
    (c.0, w.0, leads_split start lines c.0 p w.0 (subst (λ (l : List OutputLine). Leads start l w.0) c.1 w.1) leads, w.2, w.3, c.2)

-- only no lines have no text
no_lines : (zs : List OutputLine) → [] ≡ lines_text zs → zs ≡ []
no_lines [] e = refl
no_lines (z ∷ zs) e = absurd (omega (arith, line_long z, ap length e, length-append (output_line_text z) (lines_text zs)))

-- transcripts have one text, as the law says it
pub one_spelling : OneSpelling
one_spelling one other transcripts a b = a.1 ∙ sym b.1

-- no two lists of transcripts have the same text, as the law says it
pub outputs_differ : OutputsDiffer
outputs_differ one other a b e =
    let w = whole_leads other b in
    let g = goes_on (all_lines other) w.0 w.1 one a [] (e ∙ by_lines other b ∙ sym (append-nil (lines_text (all_lines other)))) in
    let same : w.0 ≡ g.1 = subst (λ (l : List OutputLine). Leads w.0 l g.1) (no_lines g.0 g.5) g.2 in
    sym g.4 ∙ ap finish (sym same) ∙ w.3

-- an output has no fault, as the law says it
pub no_fault : OutputsHaveNoFault
no_fault bytes at output fault = by fault.1 fault.2 fault.5
  where
    by : (after : List ℕ) → bytes ≡ fault.0 ++ after → NoOutputGoesOn fault.0 after → ⊥
    by [] all none = none (subst IsOutput (all ∙ append-nil fault.0) output)
    by (b ∷ after) all none = none (after, subst IsOutput (all ∙ sym (append_assoc fault.0 (b ∷ []) after)) output)

-- the lines are an output, where nothing is left open
pub is_output : (lines : List OutputLine) (p : ParserState) → Leads start lines p → is_whole p ≡ true → AreTranscripts (finish p) × (lines_text lines ≡ output_text (finish p))
is_output lines p leads whole =
    let is = leads_is start lines p start_is leads in
    (finished p is.0 whole, sym is.1 ∙ sym (finished_text p is.0 whole))

module _ (lines : List OutputLine) (p : ParserState) (leads : Leads start lines p) (bytes rest : List ℕ) (all : bytes ≡ lines_text lines ++ rest) where
  -- the lines and the front of one that may follow begin an output
  begins : (line : OutputLine) (before more : List ℕ) → MayFollow p line → output_line_text line ≡ before ++ more → BeginsOutput (lines_text lines ++ before)
  begins line before more may e =
      let c = completes (step p line) in
      let whole = leads_on start lines (line ∷ c.0) p c.1 leads (may, c.2) in
      let out = is_output (lines ++ line ∷ c.0) c.1 whole c.3 in (
        more ++ lines_text c.0,
        (
          finish c.1,
          out.0,
          sym out.1 ∙ flat_map-append output_line_text lines (line ∷ c.0)
              ∙ ap (λ (l : List ℕ). lines_text lines ++ (l ++ lines_text c.0)) e
              ∙ ap (λ (l : List ℕ). lines_text lines ++ l) (append_assoc before more (lines_text c.0))
              ∙ sym (append_assoc (lines_text lines) before (more ++ lines_text c.0)),
        ),
      )

  -- where a line has a mismatch, the output is at fault
  pub fault_there : (rest ≡ [] → is_whole p ≡ true → ⊥) → (stop : List ℕ) → IsMismatch Anything (IsExpected (allowed_of p) (low_of p)) output_line_text rest stop → IsFaultAt bytes (length bytes - length stop)
  fault_there unended stop s = (
    before,
    stop,
    splits,
    (let long : length bytes ≡ length before + length stop = ap length splits ∙ length-append before stop in omega (arith, long)),
    begins s.value s.before s.more s.has s.begins,
    none stop s.splits s.none,
  )
    where
      before : List ℕ
      before = lines_text lines ++ s.before

      splits : bytes ≡ before ++ stop
      splits = all ∙ ap (λ (l : List ℕ). lines_text lines ++ l) s.splits ∙ sym (append_assoc (lines_text lines) s.before stop)

      None : List ℕ → Type 0
      None end = (line : OutputLine) (more other : List ℕ) → MayFollow p line → Anything more → SameFirst end other → output_line_text line ++ more ≡ s.before ++ other → ⊥

      at_end : rest ≡ s.before ++ [] → None [] → (zs : List OutputLine) (q : ParserState) → Leads p zs q → is_whole q ≡ true → s.before ≡ lines_text zs → ⊥
      at_end here none [] q leads whole e = unended (here ∙ append-nil s.before ∙ e) (ap is_whole leads ∙ whole)
      at_end here none (z ∷ zs) q leads whole e = none z (lines_text zs) [] leads.0 tt tt (sym e ∙ sym (append-nil s.before))

      at_byte : (b : ℕ) (after other : List ℕ) → None (b ∷ after) → (zs : List OutputLine) (q : ParserState) → Leads p zs q → s.before ++ b ∷ other ≡ lines_text zs → ⊥
      at_byte b after other none [] q leads e = omega (arith, ap length e, length-append s.before (b ∷ other))
      at_byte b after other none (z ∷ zs) q leads e = none z (lines_text zs) (b ∷ other) leads.0 tt refl (sym e)

      none : (end : List ℕ) → rest ≡ s.before ++ end → None end → NoOutputGoesOn before end
      none [] here free = λ output.
          let g = goes_on lines p leads output.0 output.1 s.before output.2 in
          at_end here free g.0 g.1 g.2 g.3 g.5
      none (b ∷ after) here free = λ output.
          let more = output.0 in
          let g = goes_on lines p leads output.1.0 output.1.1 (s.before ++ b ∷ more)
          (output.1.2 ∙ append_assoc before (b ∷ []) more ∙ append_assoc (lines_text lines) s.before (b ∷ more)) in
          at_byte b after more free g.0 g.1 g.2 g.5

-- ---- the loop's reader

module _ (bytes rest : List ℕ) (p : ParserState) (read : IsRead bytes rest p) where
  -- a mismatch in the next line is a fault of the bytes, or a refusal of memory
  pub stop_is_fault : (rest ≡ [] → is_whole p ≡ true → ⊥) → (stop : Mismatch) → MismatchIn Anything (IsExpected (allowed_of p) (low_of p)) output_line_text rest stop → IsReplyFault bytes (fault_of (length bytes) stop)
  stop_is_fault unended (mismatch.At end) s = fault_there read.lines p read.leads bytes rest read.all unended end.now s
  stop_is_fault unended mismatch.NoMemory s = tt

  -- in an output, a mismatch in the next line is a refusal of memory
  pub fault_of_none : (rest ≡ [] → is_whole p ≡ true → ⊥) → (stop : Mismatch) → MismatchIn Anything (IsExpected (allowed_of p) (low_of p)) output_line_text rest stop → (ts : List Transcript) → AreTranscripts ts
      → bytes ≡ output_text ts → fault_of (length bytes) stop ≡ fault.NoMemory
  fault_of_none unended (mismatch.At end) s ts are e =
      absurd (no_fault bytes (length bytes - length end.now) (ts, are, sym e) (fault_there read.lines p read.leads bytes rest read.all unended end.now s))
  fault_of_none unended mismatch.NoMemory s ts are e = refl

  -- with a line that may follow, one line more was read
  pub read_on : (line : OutputLine) (left : List ℕ) (next : ParserState) → MayFollow p line → rest ≡ output_line_text line ++ left → next ≡ step p line → IsRead bytes left next
  read_on line left next may here is = record {
    lines = read.lines ++ line ∷ [];
    leads = leads_on start read.lines (line ∷ []) p next read.leads (may, sym is);
    all = read.all ∙ ap (λ (l : List ℕ). lines_text read.lines ++ l) here ∙ sym (append_assoc (lines_text read.lines) (output_line_text line) left)
        ∙ ap (λ (l : List ℕ). l ++ left) (ap (λ (l : List ℕ). lines_text read.lines ++ l) (sym (append-nil (output_line_text line))) ∙ sym (flat_map-append output_line_text read.lines (line ∷ [])));
  }

  -- at the end, where nothing is left open, the bytes are the text of the transcripts
  pub read_all : rest ≡ [] → is_whole p ≡ true → (ts : List Transcript) → ts ≡ finish p → AreTranscripts ts × (bytes ≡ output_text ts)
  read_all end whole ts is =
      let out = is_output read.lines p read.leads whole in (
        subst AreTranscripts (sym is) out.0,
        read.all ∙ ap (λ (l : List ℕ). lines_text read.lines ++ l) end ∙ append-nil (lines_text read.lines) ∙ out.1 ∙ ap output_text (sym is),
      )

-- what holds at a turn and a least number holds at the same ones
pub at_turn : (P : Allowed → ℕ → Type 0) {t u : Allowed} {m n : ℕ} → t ≡ u → m ≡ n → P t m → P u n
at_turn P {t} {u} {m} {n} same low holds = subst (P u) low (subst (λ (s : Allowed). P s m) same holds)

-- ---- one fault

-- of two fronts of the same bytes, the longer one goes on from the shorter with its next byte
longer : (xs ys zs others : List ℕ) → xs ++ ys ≡ zs ++ others → length xs < length zs → (b : ℕ) × (x : List ℕ) × (y : List ℕ) × (zs ≡ xs ++ b ∷ x) × (ys ≡ b ∷ y)
longer [] ys [] others e less = absurd (omega (arith, less))
longer [] ys (z ∷ zs) others e less = (z, zs, zs ++ others, refl, e)
longer (x ∷ xs) ys [] others e less = absurd (omega (arith, less))
longer (x ∷ xs) ys (z ∷ zs) others e less =
    let tail : xs ++ ys ≡ zs ++ others = cc in
    let first : z ≡ x = cc in
    let more = longer xs ys zs others tail (omega (arith, less)) in
    (more.0, more.1, more.2, (λ i. (first i) ∷ (more.3 i)), more.4)

-- within what begins an output, there is no place where none goes on
not_before : (xs ys zs others : List ℕ) → xs ++ ys ≡ zs ++ others → length xs < length zs → BeginsOutput zs → NoOutputGoesOn xs ys → ⊥
not_before xs ys zs others e less begun none =
    let l = longer xs ys zs others e less in
    let no_more : BeginsOutput (xs ++ l.0 ∷ []) → ⊥ = subst (NoOutputGoesOn xs) l.4 none in
    no_more (
      l.1 ++ begun.0,
      subst IsOutput (ap (λ (k : List ℕ). k ++ begun.0) (l.3 ∙ sym (append_assoc xs (l.0 ∷ []) l.1)) ∙ append_assoc (xs ++ l.0 ∷ []) l.1 begun.0) begun.1,
    )

-- bytes are at fault at one place at most, as the law says it
pub one_fault : OneFault
one_fault bytes at other f g = by (cases_lt at other)
  where
    same : f.0 ++ f.1 ≡ g.0 ++ g.1
    same = sym f.2 ∙ g.2

    by : (at < other) ⊎ (other ≤ at) → at ≡ other
    by (inl less) = absurd (not_before f.0 f.1 g.0 g.1 same (omega (arith, less, f.3, g.3)) g.4 f.5)
    by (inr past) = last (cases_lt other at)
      where
        last : (other < at) ⊎ (at ≤ other) → at ≡ other
        last (inl less) = absurd (not_before g.0 g.1 f.0 f.1 (sym same) (omega (arith, less, f.3, g.3)) f.4 g.5)
        last (inr le) = omega (arith, past, le)
