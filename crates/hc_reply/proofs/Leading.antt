-- Where lines lead, from what was read before them.
use Rattle.std.proofs.Common.{◌≡◌, ◌∙◌, ap, ℕ, ◌+◌, ◌<◌, Bool, true, false, List, [], ◌∷◌, ◌++◌, Option, Some, None, length, refl, sym, subst, append_assoc, arith, flat_map, is_some}
use Rattle.std.specs.List.{AllByRecursion}
use Rattle.std.proofs.lemmas.List.{append-nil, length-append}
use Rattle.hc_transcript.specs.declared.reply.Line.TheVariants as last
use Rattle.hc_transcript.specs.declared.reply.Reply.{Reply}
use Rattle.hc_transcript.specs.Words.{tag_words}
use Rattle.hc_transcript.specs.Fields.{content_text}
use Rattle.hc_transcript.specs.Table.{fields}
use Rattle.hc_reply.specs.declared.output_line.OutputLine.{OutputLine}
use Rattle.hc_reply.specs.declared.output_line.OutputLine.TheVariants as output
use Rattle.hc_reply.specs.declared.parser_state.ParserState.{ParserState}
use Rattle.hc_reply.specs.Lines.{tagged, output_line_text}
use Rattle.hc_reply.specs.ParserStates.{reply_of, step, may_close, is_whole, low_of}
use Rattle.hc_reply.proofs.Lines.{fits_of, IsFitting, line_free}
use Rattle.hc_reply.proofs.States.{MayFollow, IsState, text_of, step_text, step_is}

-- each of these lines may follow in turn, and leads there
abbrev pub Leads : ParserState → List OutputLine → ParserState → Type 0
Leads p [] q = p ≡ q
Leads p (l ∷ lines) q = MayFollow p l × Leads (step p l) lines q

-- the text of the lines
abbrev pub lines_text : List OutputLine → List ℕ
lines_text lines = flat_map output_line_text lines

-- where lines lead, what was read is right, and its text is longer by theirs
pub leads_is : (p : ParserState) (lines : List OutputLine) (q : ParserState) → IsState p → Leads p lines q → IsState q × (text_of q ≡ text_of p ++ lines_text lines)
leads_is p [] q is leads = (subst IsState leads is, ap text_of (sym leads) ∙ sym (append-nil (text_of p)))
leads_is p (l ∷ lines) q is leads =
    let more = leads_is (step p l) lines q (step_is p l is leads.0) leads.1 in
    (more.0, more.1 ∙ ap (λ (x : List ℕ). x ++ lines_text lines) (step_text p l is leads.0) ∙ append_assoc (text_of p) (output_line_text l) (lines_text lines))

-- lines lead on from where others lead
pub leads_on : (p : ParserState) (xs ys : List OutputLine) (q r : ParserState) → Leads p xs q → Leads q ys r → Leads p (xs ++ ys) r
leads_on p [] ys q r one two = subst (λ (s : ParserState). Leads s ys r) (sym one) two
leads_on p (x ∷ xs) ys q r one two = (one.0, leads_on (step p x) xs ys q r one.1 two)

-- lines after others lead on from where those lead
pub leads_split : (p : ParserState) (xs ys : List OutputLine) (q r : ParserState) → Leads p (xs ++ ys) r → Leads p xs q → Leads q ys r
leads_split p [] ys q r all one = subst (λ (s : ParserState). Leads s ys r) one all
leads_split p (x ∷ xs) ys q r all one = leads_split (step p x) xs ys q r all.1 one.1

-- in lines that lead somewhere, what the fields hold fits
pub leads_fitting : (p : ParserState) (lines : List OutputLine) (q : ParserState) → Leads p lines q → AllByRecursion IsFitting lines
leads_fitting p [] q leads = tt
leads_fitting p (l ∷ lines) q leads = (fits_of (low_of p) (tagged l).0 (tagged l).1 leads.0.1, leads_fitting (step p l) lines q leads.1)

-- after one more reply and no row, nothing is left open
some_closed : (k : Option ℕ) (replies : List Reply) (r : Reply) → may_close k (replies ++ r ∷ []) [] ≡ true
some_closed None replies r = refl
some_closed (Some c) [] r = refl
some_closed (Some c) (s ∷ replies) r = refl

-- what was read can be brought to an end
pub completes : (p : ParserState) → (lines : List OutputLine) × (q : ParserState) × Leads p lines q × (is_whole q ≡ true)
completes p = by (is_whole p) refl
  where
    some_open : (k : Option ℕ) → may_close k p.replies p.rows ≡ false → is_some k ≡ true
    some_open None h = absurd (let bad = h in cc)
    some_open (Some c) h = refl

    by : (b : Bool) → is_whole p ≡ b → (lines : List OutputLine) × (q : ParserState) × Leads p lines q × (is_whole q ≡ true)
    by true h = ([], p, refl, h)
    by false h = (
      (output.Last (last.Ok 0)) ∷ [],
      step p (output.Last (last.Ok 0)),
      ((some_open p.conn h, omega arith), refl),
      some_closed p.conn p.replies (reply_of p.rows (last.Ok 0) None),
    )

-- ---- lists of lines with one text

-- a line has at least one byte
pub line_long : (l : OutputLine) → 0 < length (output_line_text l)
line_long l =
    let words = tag_words (tagged l).0 ++ content_text (fields (tagged l).0) (tagged l).1 in
    let long : length (output_line_text l) ≡ length words + 1 = length-append words (10 ∷ []) in
    omega (arith, long)

-- lines whose text begins with that of others begin with those, and what is left is the text of the rest
pub cut : (xs ys : List OutputLine) (more : List ℕ) → AllByRecursion IsFitting xs → AllByRecursion IsFitting ys → lines_text xs ≡ lines_text ys ++ more
    → (zs : List OutputLine) × (xs ≡ ys ++ zs) × (more ≡ lines_text zs)
cut xs [] more fx fy e = (xs, refl, sym e)
cut [] (y ∷ ys) more fx fy e =
    absurd (omega (arith, line_long y, ap length e, length-append (output_line_text y ++ lines_text ys) more, length-append (output_line_text y) (lines_text ys)))
cut (x ∷ xs) (y ∷ ys) more fx fy e =
    let first = line_free x y (lines_text xs) (lines_text ys ++ more) fx.0 fy.0 tt tt (e ∙ append_assoc (output_line_text y) (lines_text ys) more) in
    let others = cut xs ys more fx.1 fy.1 first.1 in
    (others.0, (λ i. (first.0 i) ∷ (others.1 i)), others.2)
