-- The words of lines: every line's tag is in the list, and no line's words begin another's.
use Rattle.std.proofs.Common.{◌≡◌, ◌∙◌, ap, ℕ, suc, Bool, true, false, if◌then◌else◌, ◌==◌, List, [], ◌∷◌, ◌++◌, Option, Some, None, refl, sym, arith}
use Rattle.std.specs.List.{Contains}
use Rattle.std.proofs.lemmas.List.{append_cancel_left}
use Rattle.hc_lex.specs.declared.fault.LexKind.TheVariants as lex
use Rattle.hc_transcript.specs.declared.tag.TheConstants.{LINE_TAGS}
use Rattle.hc_transcript.specs.declared.tag.LineTag.{LineTag}
use Rattle.hc_transcript.specs.declared.tag.LineTag.TheVariants as line
use Rattle.hc_transcript.specs.declared.tag.EndingTag.TheVariants as ending
use Rattle.hc_transcript.specs.declared.tag.BareTag.TheVariants as bare
use Rattle.hc_transcript.specs.declared.tag.NumberTag.TheVariants as number
use Rattle.hc_transcript.specs.declared.tag.NameTag.TheVariants as name
use Rattle.hc_transcript.specs.declared.tag.NamesTag.TheVariants as names
use Rattle.hc_transcript.specs.declared.tag.NumbersTag.TheVariants as numbers
use Rattle.hc_transcript.specs.declared.tag.RefusalTag.TheVariants as tag
use Rattle.hc_transcript.specs.Laws.{NoTagBeginsAnother}
use Rattle.hc_transcript.specs.Words.{tag_words}

-- the bytes begin with a word
begins : List ℕ → List ℕ → Bool
begins [] bytes = true
begins (w ∷ word) [] = false
begins (w ∷ word) (b ∷ bytes) = if w == b then begins word bytes else false

-- the first of these tags with whose words the bytes begin
first_among : List LineTag → List ℕ → Option LineTag
first_among [] bytes = None
first_among (one ∷ others) bytes = if begins (tag_words one) bytes then Some one else first_among others bytes

-- the tag with whose words the bytes begin
found : (tag : LineTag) (r : List ℕ) → first_among LINE_TAGS (tag_words tag ++ r) ≡ Some tag
unfolding begins first_among
found line.Conn r = refl
found line.Row r = refl
found line.Ok r = refl
found (line.Ending ending.Commit) r = refl
found (line.Ending ending.Snapshot) r = refl
found (line.Ending ending.RolledBack) r = refl
found (line.Refusal (tag.Bare bare.Within)) r = refl
found (line.Refusal (tag.Bare bare.NoTransaction)) r = refl
found (line.Refusal (tag.Bare bare.TwoKeys)) r = refl
found (line.Refusal (tag.Bare bare.Mixed)) r = refl
found (line.Refusal (tag.Bare bare.Aggregate)) r = refl
found (line.Refusal (tag.Bare bare.NotItem)) r = refl
found (line.Refusal (tag.Bare bare.Overflow)) r = refl
found (line.Refusal (tag.Bare bare.NoMemory)) r = refl
found (line.Refusal (tag.Bare bare.Trees)) r = refl
found (line.Refusal (tag.Number (number.Lex lex.Char))) r = refl
found (line.Refusal (tag.Number (number.Lex lex.OpenText))) r = refl
found (line.Refusal (tag.Number (number.Lex lex.BadBlob))) r = refl
found (line.Refusal (tag.Number (number.Lex lex.TooLarge))) r = refl
found (line.Refusal (tag.Number number.Syntax)) r = refl
found (line.Refusal (tag.Number number.TooDeep)) r = refl
found (line.Refusal (tag.Number number.Numbers)) r = refl
found (line.Refusal (tag.Number number.Transactions)) r = refl
found (line.Refusal (tag.Name name.NoSavepoint)) r = refl
found (line.Refusal (tag.Name name.NoTable)) r = refl
found (line.Refusal (tag.Name name.NoIndex)) r = refl
found (line.Refusal (tag.Name name.Exists)) r = refl
found (line.Refusal (tag.Name name.Reserved)) r = refl
found (line.Refusal (tag.Name name.TwoColumns)) r = refl
found (line.Refusal (tag.Name name.TooManyColumns)) r = refl
found (line.Refusal (tag.Name name.NoColumn)) r = refl
found (line.Refusal (tag.Name name.Ambiguous)) r = refl
found (line.Refusal (tag.Name name.NoFunction)) r = refl
found (line.Refusal (tag.Name name.Rowid)) r = refl
found (line.Refusal (tag.Names names.NotNull)) r = refl
found (line.Refusal (tag.Names names.Primary)) r = refl
found (line.Refusal (tag.Names names.Unique)) r = refl
found (line.Refusal (tag.Numbers numbers.Arity)) r = refl
found (line.Refusal (tag.Numbers numbers.Pages)) r = refl
found (line.Refusal tag.NoItem) r = refl
found (line.Refusal tag.TooBig) r = refl
found (line.Refusal tag.Busy) r = refl

-- the tag, where there is one
tag_of : Option LineTag → LineTag
tag_of None = line.Conn
tag_of (Some tag) = tag

-- no line's words begin another's, as the law says it
pub no_tag_begins_another : NoTagBeginsAnother
unfolding tag_of
no_tag_begins_another one other rest more e =
    let same : one ≡ other = ap tag_of (sym (found one rest) ∙ ap (first_among LINE_TAGS) e ∙ found other more) in
    (same, append_cancel_left (tag_words other) rest more (ap (λ (t : LineTag). tag_words t ++ rest) (sym same) ∙ e))

-- what is found is one of them
among : (tags : List LineTag) (bytes : List ℕ) (tag : LineTag) → first_among tags bytes ≡ Some tag → Contains tags tag
unfolding first_among
among [] bytes tag e = let bad = e in cc
among (one ∷ others) bytes tag e = by (begins (tag_words one) bytes) (among others bytes tag) e
  where
    by : (b : Bool) → (first_among others bytes ≡ Some tag → Contains others tag) → (if b then Some one else first_among others bytes) ≡ Some tag → Contains (one ∷ others) tag
    by true later e = (0, omega arith, let same : one ≡ tag = cc in same)
    by false later e = let k = later e in (suc k.0, omega (arith, k.1), k.2)

-- every tag is in the list
pub each_is_among : (tag : LineTag) → Contains LINE_TAGS tag
each_is_among tag = among LINE_TAGS (tag_words tag ++ []) tag (found tag [])
