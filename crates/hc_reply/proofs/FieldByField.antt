-- The fields of a line, read one after another.
use Rattle.std.proofs.Common.{◌≡◌, ◌∙◌, ap, ℕ, pos, ◌<◌, inl, List, [], ◌∷◌, ◌++◌, Some, refl, sym, append_assoc, arith}
use Rattle.std.proofs.lemmas.Str.{IsUtf8-nil}
use Rattle.hc_range.specs.declared.key.TheConstants.{LONGEST_KEY}
use Rattle.hc_value.specs.declared.value.Value.TheVariants.{Null}
use Rattle.hc_transcript.specs.Fields.{Kind, Nothing, Number32, Number64, Integer, Name, Key, Held, held_text, IsHeld, Fields, Values, Last, Next, Content, content_text, IsContent}
use Rattle.hc_reply.specs.declared.mismatch.Mismatch.{Mismatch}
use Rattle.hc_reply.specs.Fields.{content_end}
use Rattle.hc_reply.specs.Mismatches.{Anything, NoDigit, NoQuote, IsMismatch, MismatchIn}
use Rattle.hc_reply.proofs.FirstBytes.{IsPrefixFree}
use Rattle.hc_reply.proofs.Sequences.{mismatch_as, ended_free}
use Rattle.hc_reply.proofs.Digits.{number_free}
use Rattle.hc_reply.proofs.Integers.{integer_free}
use Rattle.hc_reply.proofs.Texts.{text_free}
use Rattle.hc_reply.proofs.Blobs.{blob_free}
use Rattle.hc_reply.proofs.Rows.{row_free}

-- ---- one field

-- what may follow a field
abbrev pub EndsKind : Kind → List ℕ → Type 0
EndsKind Nothing = Anything
EndsKind Number32 = NoDigit
EndsKind Number64 = NoDigit
EndsKind Integer = NoDigit
EndsKind Name = NoQuote
EndsKind Key = Anything

-- a space and a line feed may
ends_at : (kind : Kind) (b : ℕ) (r : List ℕ) → b < 39 → EndsKind kind (b ∷ r)
ends_at Nothing b r low = tt
ends_at Number32 b r low = inl (omega (arith, low))
ends_at Number64 b r low = inl (omega (arith, low))
ends_at Integer b r low = inl (omega (arith, low))
ends_at Name b r low = λ e. omega (arith, low, e)
ends_at Key b r low = tt

-- no field begins another of its kind
held_free : (kind : Kind) → IsPrefixFree (EndsKind kind) (IsHeld kind) (held_text kind)
held_free Nothing v w r s p q er es e = (refl, e)
held_free Number32 v w r s p q er es e =
    number_free 0 4294967295 (omega arith) (omega arith) v w r s (omega arith, omega (arith, p)) (omega arith, omega (arith, q)) er es e
held_free Number64 v w r s p q er es e =
    number_free 0 18446744073709551615 (omega arith) (omega arith) v w r s (omega arith, omega (arith, p)) (omega arith, omega (arith, q)) er es e
held_free Integer v w r s p q er es e = integer_free v w r s p q er es e
held_free Name v w r s p q er es e = text_free v w r s p q er es e
held_free Key v w r s p q er es e = blob_free (Some LONGEST_KEY) v w r s (p.1, p.0) (q.1, q.0) tt tt e

-- something fits in each field
some_held : (kind : Kind) → (held : Held kind) × IsHeld kind held
some_held Nothing = (tt, tt)
some_held Number32 = (0, omega arith)
some_held Number64 = (0, omega arith)
some_held Integer = (pos 0, (omega arith))
some_held Name = ([], IsUtf8-nil)
some_held Key = ([], (omega arith, tt))

-- no field with a space and words after it begins another
gap_free : (kind : Kind) (words : List ℕ) → IsPrefixFree Anything (IsHeld kind) (λ held. held_text kind held ++ (32 ∷ words))
gap_free kind words = ended_free (EndsKind kind) (IsHeld kind) (held_text kind) (32 ∷ words) (λ rest. ends_at kind 32 (words ++ rest) (omega arith)) (held_free kind)

-- ---- all fields of a line

-- something fits in the fields of each line
pub some_content : (fields : Fields) → (content : Content fields) × IsContent fields content
some_content Values = (Null ∷ [], ((λ bad. cc), ((tt, tt), tt)))
some_content (Last kind) = some_held kind
some_content (Next kind words more) =
    let held = some_held kind in
    let others = some_content more in
    ((held.0, others.0), (held.1, others.1))

module _ (kind : Kind) (words : List ℕ) (more : Fields) where
  -- the first field, with the space and the words after it
  abbrev first_text : Held kind → List ℕ
  first_text held = held_text kind held ++ (32 ∷ words)

  -- the text is that of the first field and of the others
  next_whole : (c : Content (Next kind words more)) → content_end (Next kind words more) c ≡ first_text c.0 ++ content_end more c.1
  next_whole c = append_assoc (first_text c.0) (content_text more c.1) (10 ∷ [])

  -- the same, with what follows
  next_text : (c : Content (Next kind words more)) (r : List ℕ) → content_end (Next kind words more) c ++ r ≡ first_text c.0 ++ (content_end more c.1 ++ r)
  next_text c r = ap (λ (l : List ℕ). l ++ r) (next_whole c) ∙ append_assoc (first_text c.0) (content_end more c.1) r

  -- a mismatch in the first field is one in the line
  first_mismatch : (bytes rest : List ℕ) → IsMismatch Anything (IsHeld kind) first_text bytes rest
      → IsMismatch Anything (IsContent (Next kind words more)) (content_end (Next kind words more)) bytes rest
  first_mismatch bytes rest s =
      let some = some_content more in
      record {
        before = s.before;
        splits = s.splits;
        value = (s.value, some.0);
        more = s.more ++ content_end more some.0;
        has = (s.has, some.1);
        begins = next_whole (s.value, some.0) ∙ ap (λ (l : List ℕ). l ++ content_end more some.0) s.begins ∙ append_assoc s.before s.more (content_end more some.0);
        none = λ c r other is any same e. s.none c.0 (content_end more c.1 ++ r) other is.0 tt same (sym (next_text c r) ∙ e);
      }

  -- a mismatch in the others after a first field is one in the line
  later_mismatch : (bytes mid rest : List ℕ) (held : Held kind) → IsHeld kind held → bytes ≡ first_text held ++ mid → IsMismatch Anything (IsContent more) (content_end more) mid rest
      → IsMismatch Anything (IsContent (Next kind words more)) (content_end (Next kind words more)) bytes rest
  later_mismatch bytes mid rest held is all s = record {
    before = first_text held ++ s.before;
    splits = all ∙ ap (λ (l : List ℕ). first_text held ++ l) s.splits ∙ sym (append_assoc (first_text held) s.before rest);
    value = (held, s.value);
    more = s.more;
    has = (is, s.has);
    begins = next_whole (held, s.value) ∙ ap (λ (l : List ℕ). first_text held ++ l) s.begins ∙ sym (append_assoc (first_text held) s.before s.more);
    none = λ c r other fits any same e.
        let split = gap_free kind words c.0 held (content_end more c.1 ++ r) (s.before ++ other) fits.0 is tt tt
        (sym (next_text c r) ∙ e ∙ append_assoc (first_text held) s.before other) in
        s.none c.1 r other fits.1 tt same split.1;
  }

  -- the same, of an answer that says no more than where
  pub first_fails : (bytes : List ℕ) (mismatch : Mismatch) → MismatchIn Anything (IsHeld kind) first_text bytes mismatch
      → MismatchIn Anything (IsContent (Next kind words more)) (content_end (Next kind words more)) bytes mismatch
  first_fails bytes =
      mismatch_as Anything Anything (IsHeld kind) first_text (IsContent (Next kind words more)) (content_end (Next kind words more)) bytes bytes (first_mismatch bytes)

  pub later_fails : (bytes mid : List ℕ) (held : Held kind) → IsHeld kind held → bytes ≡ first_text held ++ mid → (mismatch : Mismatch) → MismatchIn Anything (IsContent more) (content_end more) mid mismatch
      → MismatchIn Anything (IsContent (Next kind words more)) (content_end (Next kind words more)) bytes mismatch
  later_fails bytes mid held is all =
      mismatch_as Anything Anything (IsContent more) (content_end more) (IsContent (Next kind words more)) (content_end (Next kind words more)) mid bytes
      (λ rest s. later_mismatch bytes mid rest held is all s)

  -- a field and others after it are those of the line
  pub next_found : (bytes mid rest : List ℕ) (held : Held kind) (content : Content more) → bytes ≡ first_text held ++ mid → mid ≡ content_end more content ++ rest
      → bytes ≡ content_end (Next kind words more) (held, content) ++ rest
  next_found bytes mid rest held content all later = all ∙ ap (λ (l : List ℕ). first_text held ++ l) later ∙ sym (next_text (held, content) rest)

-- no fields of a line begin others
pub content_free : (fields : Fields) → IsPrefixFree Anything (IsContent fields) (content_end fields)
content_free Values v w r s p q any other e = row_free v w r s p q any other e
content_free (Last kind) v w r s p q any other e =
    ended_free (EndsKind kind) (IsHeld kind) (held_text kind) (10 ∷ []) (λ rest. ends_at kind 10 rest (omega arith)) (held_free kind) v w r s p q any other e
content_free (Next kind words more) v w r s p q any other e =
    let first = gap_free kind words v.0 w.0 (content_end more v.1 ++ r) (content_end more w.1 ++ s) p.0 q.0 tt tt (sym (next_text kind words more v r) ∙ e ∙ next_text kind words more w s) in
    let second = content_free more v.1 w.1 r s p.1 q.1 tt tt first.1 in
    ((λ i. (first.0 i, second.0 i)), second.1)
