-- Where a line has a mismatch, in its tag and after it.
use Rattle.std.proofs.Common.{◌≡◌, ◌∙◌, ap, ℕ, ◌^◌, ◌<◌, true, List, [], ◌∷◌, ◌++◌, refl, sym, subst, append_assoc, arith, Result, IfOk, IfErr, Bor}
use Rattle.hc_transcript.specs.declared.refusal.Refusal.{Refusal}
use Rattle.hc_transcript.specs.declared.reply.Line.{Line}
use Rattle.hc_transcript.specs.declared.reply.Line.TheVariants as last
use Rattle.hc_transcript.specs.declared.reply.Ending.TheVariants as end
use Rattle.hc_transcript.specs.declared.tag.EndingTag.TheVariants as ending
use Rattle.hc_transcript.specs.declared.tag.LineTag.{LineTag}
use Rattle.hc_transcript.specs.declared.tag.LineTag.TheVariants as line
use Rattle.hc_transcript.specs.declared.tag.RefusalTag.{RefusalTag}
use Rattle.hc_transcript.specs.Words.{tag_words}
use Rattle.hc_transcript.specs.Fields.{Content, content_text, IsContent}
use Rattle.hc_transcript.specs.Table.{fields}
use Rattle.hc_transcript.specs.Text.{line_text}
use Rattle.hc_transcript.proofs.Tags.{no_tag_begins_another}
use Rattle.hc_transcript.proofs.Rows.{refusal_again, line_again}
use Rattle.hc_reply.specs.declared.allowed.Allowed.{Allowed}
use Rattle.hc_reply.specs.declared.mismatch.Mismatch.{Mismatch}
use Rattle.hc_reply.specs.declared.output_line.OutputLine.{OutputLine}
use Rattle.hc_reply.specs.declared.output_line.OutputLine.TheVariants as output
use Rattle.hc_reply.specs.Fields.{content_end}
use Rattle.hc_reply.specs.Lines.{TaggedLine, tagged, output_line_text, line_with, MayCome, may_come, FitsFrom, IsExpectedTagged, IsExpected, IsLineRead, LineMismatch, IsRefusalRead, RefusalMismatch}
use Rattle.hc_reply.specs.Mismatches.{SameFirst, Anything, IsMismatch}
use Rattle.hc_reply.proofs.FirstBytes.{IsPrefixFree}
use Rattle.hc_reply.proofs.FieldByField.{some_content, content_free}

-- ---- lines and their tags

-- the tag of a line that was made of it
pub tagged_again : (tag : LineTag) (content : Content (fields tag)) → ◌≡◌ {A = TaggedLine} (tagged (line_with tag content)) (tag, content)
tagged_again line.Conn content = refl
tagged_again line.Row content = refl
tagged_again line.Ok content = refl
tagged_again (line.Ending ending.Commit) content = refl
tagged_again (line.Ending ending.Snapshot) content = refl
tagged_again (line.Ending ending.RolledBack) content = refl
tagged_again (line.Refusal t) content = λ i. (line.Refusal (line_again t content i).0, (line_again t content i).1)

-- the line that was made of its tag
pub line_from_tagged : (l : OutputLine) → line_with (tagged l).0 (tagged l).1 ≡ l
line_from_tagged (output.Conn number) = refl
line_from_tagged (output.Row row) = refl
line_from_tagged (output.Last (last.Ok count)) = refl
line_from_tagged (output.Last (last.Error refusal)) = ap (λ (r : Refusal). output.Last (last.Error r)) (refusal_again refusal)
line_from_tagged (output.Ending (end.Commit k)) = refl
line_from_tagged (output.Ending (end.Snapshot s)) = refl
line_from_tagged (output.Ending (end.RolledBack s)) = refl

-- its text
text_again : (tag : LineTag) (content : Content (fields tag)) → output_line_text (line_with tag content) ≡ line_text tag content
text_again tag content = ap (λ (l : TaggedLine). line_text l.0 l.1) (tagged_again tag content)

-- what fits from some number on fits
pub fits_of : (low : ℕ) (tag : LineTag) (content : Content (fields tag)) → FitsFrom low tag content → IsContent (fields tag) content
fits_of low line.Conn content fits = fits.1
fits_of low line.Row content fits = fits
fits_of low line.Ok content fits = fits
fits_of low (line.Ending t) content fits = fits
fits_of low (line.Refusal t) content fits = fits

-- what fits in the line of an ending or of a refusal may come where such lines may
pub last_may_come : (allowed : Allowed) (l : Line) → may_come allowed (tagged (output.Last l)).0 ≡ allowed.reply
last_may_come allowed (last.Ok count) = refl
last_may_come allowed (last.Error refusal) = refl

-- ---- mismatches

-- a line's text, after its words
line_split : (tag : LineTag) (content : Content (fields tag)) (rest : List ℕ) → line_text tag content ++ rest ≡ tag_words tag ++ (content_end (fields tag) content ++ rest)
line_split tag content rest =
    ap (λ (l : List ℕ). l ++ rest) (append_assoc (tag_words tag) (content_text (fields tag) content) (10 ∷ []))
    ∙ append_assoc (tag_words tag) (content_end (fields tag) content) rest

-- something may follow the words of each line
some_from : (low : ℕ) (tag : LineTag) → (tag ≡ line.Conn → low < 2 ^ 32) → (content : Content (fields tag)) × FitsFrom low tag content
some_from low line.Conn small = (low, (omega arith, small refl))
some_from low line.Row small = some_content (fields line.Row)
some_from low line.Ok small = some_content (fields line.Ok)
some_from low (line.Ending t) small = some_content (fields (line.Ending t))
some_from low (line.Refusal t) small = some_content (fields (line.Refusal t))

module _ (allowed : Allowed) (low : ℕ) where
  -- a mismatch in a line that may come
  abbrev Mismatched : List ℕ → List ℕ → Type 0
  Mismatched bytes rest = IsMismatch Anything (IsExpected allowed low) output_line_text bytes rest

  -- the line of a tag that may come and of what fits after it may come
  is_expected : (tag : LineTag) (content : Content (fields tag)) → MayCome allowed tag → FitsFrom low tag content → IsExpected allowed low (line_with tag content)
  is_expected tag content may fits = subst (IsExpectedTagged allowed low) (sym (tagged_again tag content)) (may, fits)

  -- a mismatch in the tag is one in the line
  pub mismatch_in_tag : (allowed.conn ≡ true → low < 2 ^ 32) → (bytes rest : List ℕ) → IsMismatch Anything (MayCome allowed) tag_words bytes rest → Mismatched bytes rest
  mismatch_in_tag small bytes rest s = record {
    before = s.before;
    splits = s.splits;
    value = line_with s.value some.0;
    more = s.more ++ content_end (fields s.value) some.0;
    has = is_expected s.value some.0 s.has some.1;
    begins = text_again s.value some.0 ∙ append_assoc (tag_words s.value) (content_text (fields s.value) some.0) (10 ∷ [])
        ∙ ap (λ (l : List ℕ). l ++ content_end (fields s.value) some.0) s.begins ∙ append_assoc s.before s.more (content_end (fields s.value) some.0);
    none = λ l more other is any same e.
        s.none (tagged l).0 (content_end (fields (tagged l).0) (tagged l).1 ++ more) other is.0 tt same (sym (line_split (tagged l).0 (tagged l).1 more) ∙ e);
  }
    where
      some : (content : Content (fields s.value)) × FitsFrom low s.value content
      some = some_from low s.value (λ conn. small (subst (MayCome allowed) conn s.has))

  -- a mismatch after the tag is one in the line
  pub mismatch_after_tag : (tag : LineTag) (bytes mid rest : List ℕ) → MayCome allowed tag → bytes ≡ tag_words tag ++ mid
      → IsMismatch Anything (FitsFrom low tag) (content_end (fields tag)) mid rest → Mismatched bytes rest
  mismatch_after_tag tag bytes mid rest may all s = record {
    before = tag_words tag ++ s.before;
    splits = all ∙ ap (λ (l : List ℕ). tag_words tag ++ l) s.splits ∙ sym (append_assoc (tag_words tag) s.before rest);
    value = line_with tag s.value;
    more = s.more;
    has = is_expected tag s.value may s.has;
    begins = text_again tag s.value ∙ append_assoc (tag_words tag) (content_text (fields tag) s.value) (10 ∷ [])
        ∙ ap (λ (l : List ℕ). tag_words tag ++ l) s.begins ∙ sym (append_assoc (tag_words tag) s.before s.more);
    none = λ l more other is any same e.
        let t = (tagged l).0 in
        let c = (tagged l).1 in
        let split = no_tag_begins_another t tag (content_end (fields t) c ++ more) (s.before ++ other)
        (sym (line_split t c more) ∙ e ∙ append_assoc (tag_words tag) s.before other) in
        at t split.0 c more other is.1 same split.1;
  }
    where
      at : (t : LineTag) → t ≡ tag → (c : Content (fields t)) (more other : List ℕ) → FitsFrom low t c → SameFirst rest other → content_end (fields t) c ++ more ≡ s.before ++ other → ⊥
      at t is c more other fits same e =
          subst (λ (h : LineTag). (v : Content (fields h)) → FitsFrom low h v → content_end (fields h) v ++ more ≡ s.before ++ other → ⊥) (sym is)
          (λ v f g. s.none v more other f tt same g) c fits e

  -- a line read after its tag may come, and the bytes begin with its text
  pub line_found : (tag : LineTag) (bytes mid rest : List ℕ) (l : OutputLine) → MayCome allowed tag → bytes ≡ tag_words tag ++ mid → IsLineRead low tag mid l rest
      → IsExpected allowed low l × (bytes ≡ output_line_text l ++ rest)
  line_found tag bytes mid rest l may all read = (
    subst (IsExpected allowed low) (sym read.2) (is_expected tag read.0 may read.1),
    all ∙ ap (λ (l : List ℕ). tag_words tag ++ l) read.3 ∙ sym (line_split tag read.0 rest)
        ∙ ap (λ (l : List ℕ). l ++ rest) (sym (text_again tag read.0) ∙ ap output_line_text (sym read.2)),
  )

-- what fits in the fields of the line
abbrev pub IsFitting : OutputLine → Type 0
IsFitting l = IsContent (fields (tagged l).0) (tagged l).1

-- no line begins another
pub line_free : IsPrefixFree Anything IsFitting output_line_text
line_free v w r s p q any more e =
    let a = tagged v in
    let b = tagged w in
    let split = no_tag_begins_another a.0 b.0 (content_end (fields a.0) a.1 ++ r) (content_end (fields b.0) b.1 ++ s) (sym (line_split a.0 a.1 r) ∙ e ∙ line_split b.0 b.1 s) in
    let both = same a.0 b.0 split.0 a.1 b.1 r s p q split.1 in
    (sym (line_from_tagged v) ∙ both.0 ∙ line_from_tagged w, both.1)
  where
    same : (t h : LineTag) → t ≡ h → (x : Content (fields t)) (y : Content (fields h)) (r s : List ℕ) → IsContent (fields t) x → IsContent (fields h) y
        → content_end (fields t) x ++ r ≡ content_end (fields h) y ++ s → (line_with t x ≡ line_with h y) × (r ≡ s)
    same t h is x y r s p q e =
        subst (λ (g : LineTag). (y : Content (fields g)) → IsContent (fields g) y → content_end (fields t) x ++ r ≡ content_end (fields g) y ++ s → (line_with t x ≡ line_with g y) × (r ≡ s)) is
        (λ z fits all. let both = content_free (fields t) x z r s p fits tt tt all in (ap (line_with t) both.0, both.1)) y q e

-- ---- the same, at tags that are the same

-- what was read with one tag was read with another that is the same
pub found_at : (low : ℕ) {tag other : LineTag} {E : Type 0} (bytes : List ℕ) (result : Result (OutputLine × Bor (List ℕ)) E) → tag ≡ other
    → IfOk result (λ x. IsLineRead low other bytes x.0 x.1.now) → IfOk result (λ x. IsLineRead low tag bytes x.0 x.1.now)
found_at low bytes result is found = subst (λ (t : LineTag). IfOk result (λ x. IsLineRead low t bytes x.0 x.1.now)) (sym is) found

pub fails_at : (low : ℕ) {tag other : LineTag} {T : Type 0} (bytes : List ℕ) (result : Result T Mismatch) → tag ≡ other
    → IfErr result (LineMismatch low other bytes) → IfErr result (LineMismatch low tag bytes)
fails_at low bytes result is fails = subst (λ (t : LineTag). IfErr result (LineMismatch low t bytes)) (sym is) fails

pub refusal_found_at : {tag other : RefusalTag} {E : Type 0} (bytes : List ℕ) (result : Result (Refusal × Bor (List ℕ)) E) → tag ≡ other
    → IfOk result (λ x. IsRefusalRead other bytes x.0 x.1.now) → IfOk result (λ x. IsRefusalRead tag bytes x.0 x.1.now)
refusal_found_at bytes result is found = subst (λ (t : RefusalTag). IfOk result (λ x. IsRefusalRead t bytes x.0 x.1.now)) (sym is) found

pub refusal_fails_at : {tag other : RefusalTag} {T : Type 0} (bytes : List ℕ) (result : Result T Mismatch) → tag ≡ other
    → IfErr result (RefusalMismatch other bytes) → IfErr result (RefusalMismatch tag bytes)
refusal_fails_at bytes result is fails = subst (λ (t : RefusalTag). IfErr result (RefusalMismatch t bytes)) (sym is) fails
