-- Each text has tokens or a fault, and each script has a list of statements.
use Rattle.std.proofs.Common.{◌≡◌, ◌≢◌, ◌⊎◌, ◌∙◌, ◌+◌, ◌<◌, ◌≤◌, ◌%◌, if◌then◌else◌, Bool, true, false, ℕ, zero, suc, List, [], ◌∷◌, ◌++◌, length, Option, None, Some, inl, inr, refl, sym, ap, subst, arith}
use Rattle.std.specs.Prelude.{IsTrue}
use Rattle.std.proofs.lemmas.Bool.{cases_lt, false≢true}
use Rattle.std.proofs.lemmas.Bool.Decides.{eqb_tells}
use Rattle.hc_lex.specs.declared.character.Class.{Class}
use Rattle.hc_lex.specs.declared.character.Class.TheVariants.{Space, Letter, Digit, Dollar, Quote, Sign, Other}
use Rattle.hc_lex.specs.declared.character.Run.{Run}
use Rattle.hc_lex.specs.declared.character.Run.TheVariants as run
use Rattle.hc_lex.specs.declared.fault.LexKind.{LexKind}
use Rattle.hc_lex.specs.declared.fault.LexKind.TheVariants.{Char, OpenText, BadBlob, TooLarge}
use Rattle.hc_lex.specs.declared.keyword.Keyword.{Keyword}
use Rattle.hc_lex.specs.declared.part.Part.{Part}
use Rattle.hc_lex.specs.declared.part.Part.TheVariants.{Blank, Statement, Separator}
use Rattle.hc_lex.specs.declared.token.TokenKind.{TokenKind}
use Rattle.hc_lex.specs.declared.token.TokenKind.TheVariants as kind
use Rattle.hc_lex.specs.Blanks.{IsBlank}
use Rattle.hc_lex.specs.Characters.{Begins, BeginsRun, BeginsWith, GoesOn, class_of, goes_on_with_name, is_in, is_sign}
use Rattle.hc_lex.specs.Flaws.{IsFlaw}
use Rattle.hc_lex.specs.Keywords.{keyword_of}
use Rattle.hc_lex.specs.Laws.{EachScriptHasStatements, EachTextHasTokensOrFault}
use Rattle.hc_lex.specs.Pieces.{Piece, Front, Skips}
use Rattle.hc_lex.specs.Quotes.{IsOpenQuoted, IsQuote, IsQuoted}
use Rattle.hc_lex.specs.Reading.{IsTokenOrBlank, tokens_of}
use Rattle.hc_lex.specs.Statements.{IsPart, spans_of}
use Rattle.hc_lex.specs.Tokens.{BeginsBlob, BeginsSpoiler, IsBlobMark, IsDigits, IsToken, IsWord, greatest_integer, value_of}
use Rattle.hc_lex.proofs.BlankLemmas.{line_comment, one_space}
use Rattle.hc_lex.proofs.BlobLemmas.{bad_blob, blob_here}
use Rattle.hc_lex.proofs.Classes.{bar_is_left, digit_class, quote_class, sign_class}
use Rattle.hc_lex.proofs.Closes.{NoCloseSoFar, closed_here, never_closed, no_close_at_start, no_close_more}
use Rattle.hc_lex.proofs.Fronts.{Front-size, piece, size_of}
use Rattle.hc_lex.proofs.Lengths.{lexeme_moves, part_moves}
use Rattle.hc_lex.proofs.PartLemmas.{open_literal}
use Rattle.hc_lex.proofs.Quoted.{QuotedSoFar, never_quoted, other_within, quote_within, quoted_at_start, quoted_here}
use Rattle.hc_lex.proofs.Runs.{odd_is_no_blob, open_is_no_blob}
use Rattle.hc_lex.proofs.FirstFlaw.{run-split, run_is_run}
use Rattle.hc_lex.proofs.Scans.{after_run, run_of}

-- a run ends somewhere
end_once : (k : Run) (b : ℕ) (after bytes : List ℕ) (t : Bool) → is_in k b ≡ t → ¬ GoesOn k after → ¬ GoesOn k (if t then after else b ∷ bytes)
end_once k b after bytes true e ends = ends
end_once k b after bytes false e ends = λ goes. false≢true (sym e ∙ goes)

-- what follows the run does not go on with it
run_ends : (k : Run) (bytes : List ℕ) → ¬ GoesOn k (after_run k bytes)
run_ends k [] = λ goes. goes
run_ends k (b ∷ bytes) = end_once k b (after_run k bytes) bytes (is_in k b) refl (run_ends k bytes)

-- the run that is found is the run that the bytes begin with
begins_run : (k : Run) (bytes : List ℕ) → BeginsRun k bytes (run_of k bytes) (after_run k bytes)
begins_run k bytes = (sym (run-split k bytes), run_is_run k bytes, run_ends k bytes)

-- this byte is in front or not
begins_tells : (b : ℕ) (bytes : List ℕ) → ((more : List ℕ) × (bytes ≡ b ∷ more)) ⊎ (¬ BeginsWith b bytes)
begins_tells b [] = inr (λ h. h)
begins_tells b (first ∷ bytes) = elim (eqb_tells first b) [ inl is ↦ inl (bytes, ap (λ x. x ∷ bytes) is.1) | inr isnt ↦ inr (λ e. isnt.1 e) ]

-- a literal ends or not
literal_ends : (quote : ℕ) (bytes rest : List ℕ) → QuotedSoFar quote bytes rest → ((tail : List ℕ) × Skips (IsQuoted quote) (quote ∷ bytes) tail) ⊎ IsOpenQuoted quote (quote ∷ bytes)
literal_ends quote bytes [] s = inr (never_quoted quote bytes [] s refl)
literal_ends quote bytes (b ∷ []) s = elim (eqb_tells b quote) [
  | inl is ↦ inl ([], quoted_here quote bytes (b ∷ []) [] s (ap (λ x. x ∷ []) is.1) (λ h. h))
  | inr isnt ↦ literal_ends quote bytes [] (other_within quote bytes (b ∷ []) b [] s refl isnt.1)
]
literal_ends quote bytes (b ∷ c ∷ more) s = elim (eqb_tells b quote) [
  | inl is ↦ elim (eqb_tells c quote) [
    | inl same ↦ literal_ends quote bytes more (quote_within quote bytes (b ∷ c ∷ more) b (c ∷ more) more s refl is.1 (ap (λ x. x ∷ more) same.1))
    | inr other ↦ inl (c ∷ more, quoted_here quote bytes (b ∷ c ∷ more) (c ∷ more) s (ap (λ x. x ∷ c ∷ more) is.1) (λ e. other.1 e))
  ]
  | inr isnt ↦ literal_ends quote bytes (c ∷ more) (other_within quote bytes (b ∷ c ∷ more) b (c ∷ more) s refl isnt.1)
]

-- a block comment ends
comment_ends : (bytes rest : List ℕ) → NoCloseSoFar bytes rest → (after : List ℕ) × Skips IsBlank (47 ∷ 42 ∷ bytes) after
comment_ends bytes [] s = ([], never_closed bytes [] s refl)
comment_ends bytes (b ∷ tail) s = elim (eqb_tells b 42) [
  | inl is ↦ elim (begins_tells 47 tail) [
    | inl closes ↦ (closes.0, closed_here bytes (b ∷ tail) tail closes.0 s (ap (λ x. x ∷ tail) is.1) closes.1)
    | inr no_slash ↦ comment_ends bytes tail (no_close_more bytes (b ∷ tail) b tail s refl (λ p. no_slash p.1))
  ]
  | inr isnt ↦ comment_ends bytes tail (no_close_more bytes (b ∷ tail) b tail s refl (λ p. isnt.1 p.0))
]

-- a lexeme begins here, or a fault is here
abbrev pub HasFirst : List ℕ → Type 0
HasFirst bytes = ((k : Option TokenKind) × (rest : List ℕ) × Skips (IsTokenOrBlank k) bytes rest) ⊎ ((fault : LexKind) × (offset : ℕ) × IsFlaw fault offset bytes)

-- a token in front is a lexeme there
first_token : (k : TokenKind) (bytes text rest : List ℕ) → bytes ≡ text ++ rest → IsToken k text rest → HasFirst bytes
first_token k bytes text rest e is = inl (Some k, rest, (text, e, is))

-- a sign of one character
one_sign : (k : TokenKind) (c : ℕ) (bytes : List ℕ) → IsToken k (c ∷ []) bytes → HasFirst (c ∷ bytes)
one_sign k c bytes is = first_token k (c ∷ bytes) (c ∷ []) bytes refl is

-- a sign of two characters, or what the first of them begins where the second does not follow
two_signs_or : (k : TokenKind) (c d : ℕ) (bytes : List ℕ) → ((rest : List ℕ) → IsToken k (c ∷ d ∷ []) rest) → (¬ BeginsWith d bytes → HasFirst (c ∷ bytes)) → HasFirst (c ∷ bytes)
two_signs_or k c d bytes is otherwise = elim (begins_tells d bytes) [
  | inl second ↦ first_token k (c ∷ bytes) (c ∷ d ∷ []) second.0 (ap (λ bs. c ∷ bs) second.1) (is second.0)
  | inr alone ↦ otherwise alone
]

-- a space or a comment in front is a lexeme there
first_blank : (bytes rest : List ℕ) → Skips IsBlank bytes rest → HasFirst bytes
first_blank bytes rest skips = inl (None, rest, skips)

-- a run that begins with this character has it in front
run_head : (k : Run) (P : ℕ → Type 0) (b : ℕ) (bytes text rest : List ℕ) → b ∷ bytes ≡ text ++ rest → IsTrue (is_in k b) → ¬ GoesOn k rest → P b → Begins P text
run_head k P b bytes [] rest e is ends p = absurd (ends (subst (λ bs. GoesOn k bs) e is))
run_head k P b bytes (x ∷ text) rest e is ends p = let same : b ≡ x = cc in subst P same p

-- words and blobs
word_by : (bytes text rest : List ℕ) (found : Option Keyword) → keyword_of text ≡ found → bytes ≡ text ++ rest → IsWord text rest → HasFirst bytes
word_by bytes text rest None keyword e is = first_token kind.Name bytes text rest e (is, keyword)
word_by bytes text rest (Some k) keyword e is = first_token (kind.Keyword k) bytes text rest e (is, keyword)

-- a letter that begins no blob begins a lexeme or a fault
first_word : (b : ℕ) (bytes : List ℕ) → class_of b ≡ Letter → ¬ BeginsBlob (b ∷ bytes) → HasFirst (b ∷ bytes)
first_word b bytes is no_blob =
    let run_is : BeginsRun run.Name (b ∷ bytes) (run_of run.Name (b ∷ bytes)) (after_run run.Name (b ∷ bytes)) = begins_run run.Name (b ∷ bytes) in
    word_by (b ∷ bytes) (run_of run.Name (b ∷ bytes)) (after_run run.Name (b ∷ bytes)) (keyword_of (run_of run.Name (b ∷ bytes))) refl run_is.0 (
      run_head run.Name (λ x. class_of x ≡ Letter) b bytes (run_of run.Name (b ∷ bytes)) (after_run run.Name (b ∷ bytes)) run_is.0 (ap goes_on_with_name is) run_is.2 is,
      run_is.1,
      run_is.2,
      subst (λ bs. ¬ BeginsBlob bs) run_is.0 no_blob,
    )

-- a mark with a quote after it begins a lexeme or a fault
blob_or_bad : (b : ℕ) (bytes digits : List ℕ) → IsBlobMark b → bytes ≡ 39 ∷ digits → HasFirst (b ∷ bytes)
blob_or_bad b bytes digits mark e =
    let run_is : BeginsRun run.Blob digits (run_of run.Blob digits) (after_run run.Blob digits) = begins_run run.Blob digits in
    elim (eqb_tells (length (run_of run.Blob digits) % 2) 0) [
      | inl even ↦ elim (begins_tells 39 (after_run run.Blob digits)) [
        | inl quote ↦ inl (
          Some kind.Blob,
          quote.0,
          blob_here (b ∷ bytes) b bytes digits quote.0 refl mark e
              (run_of run.Blob digits, run_is.1, even.1, run_is.0 ∙ ap (λ r. run_of run.Blob digits ++ r) quote.1),
        )
        | inr unquoted ↦ inr (BadBlob, 0, bad_blob (b ∷ bytes) b bytes digits refl mark e (open_is_no_blob digits (run_of run.Blob digits) (after_run run.Blob digits) run_is unquoted))
      ]
      | inr odd ↦ inr (BadBlob, 0, bad_blob (b ∷ bytes) b bytes digits refl mark e (odd_is_no_blob digits (run_of run.Blob digits) (after_run run.Blob digits) run_is odd.1))
    ]

-- what begins a blob is a mark with a quote after it
quote_next : (b : ℕ) (bytes : List ℕ) → BeginsBlob (b ∷ bytes) → BeginsWith 39 bytes
quote_next b bytes (mark, tail, is, e) = let same : bytes ≡ 39 ∷ tail = cc in subst (λ bs. BeginsWith 39 bs) (sym same) refl

mark_of : (b : ℕ) (bytes : List ℕ) → BeginsBlob (b ∷ bytes) → IsBlobMark b
mark_of b bytes (mark, tail, is, e) = let same : b ≡ mark = cc in subst (λ x. IsBlobMark x) (sym same) is

-- a mark begins a lexeme or a fault, with a quote after it or without
marked : (b : ℕ) (bytes : List ℕ) → class_of b ≡ Letter → IsBlobMark b → HasFirst (b ∷ bytes)
marked b bytes is mark = elim (begins_tells 39 bytes) [
  | inl quote ↦ blob_or_bad b bytes quote.0 mark quote.1
  | inr unquoted ↦ first_word b bytes is (λ blob. unquoted (quote_next b bytes blob))
]

-- a letter begins a lexeme or a fault
first_letter : (b : ℕ) (bytes : List ℕ) → class_of b ≡ Letter → HasFirst (b ∷ bytes)
first_letter b bytes is = elim (eqb_tells b 120) [
  | inl small ↦ marked b bytes is (inl small.1)
  | inr no_small ↦ elim (eqb_tells b 88) [
    | inl large ↦ marked b bytes is (inr large.1)
    | inr no_large ↦ first_word b bytes is (λ blob. neither (mark_of b bytes blob) no_small.1 no_large.1)
  ]
]
  where
    neither : IsBlobMark b → b ≢ 120 → b ≢ 88 → ⊥
    neither (inl e) no_small no_large = no_small e
    neither (inr e) no_small no_large = no_large e

-- numbers
spoiler_by : (b : ℕ) (rest : List ℕ) (t : Bool) → is_in run.Name b ≡ t → b ≢ 46 → BeginsSpoiler (b ∷ rest) ⊎ (¬ BeginsSpoiler (b ∷ rest))
spoiler_by b rest true e point = inl (inr e)
spoiler_by b rest false e point = inr (λ spoils. no_spoiler spoils)
  where
    no_spoiler : BeginsSpoiler (b ∷ rest) → ⊥
    no_spoiler (inl h) = point h
    no_spoiler (inr h) = false≢true (sym e ∙ h)

nothing_spoils : BeginsSpoiler [] → ⊥
nothing_spoils (inl h) = h
nothing_spoils (inr h) = h

-- what follows digits spoils a number or does not
spoiler_tells : (rest : List ℕ) → BeginsSpoiler rest ⊎ (¬ BeginsSpoiler rest)
spoiler_tells [] = inr nothing_spoils
spoiler_tells (b ∷ rest) = elim (eqb_tells b 46) [ inl point ↦ inl (inl point.1) | inr no_point ↦ spoiler_by b rest (is_in run.Name b) refl no_point.1 ]

-- digits begin a number or a fault
number_by : (bytes digits rest : List ℕ) → bytes ≡ digits ++ rest → IsDigits digits rest → HasFirst bytes
number_by bytes digits rest e is = elim (cases_lt greatest_integer (value_of digits)) [
  | inl high ↦ inr (TooLarge, 0, (refl, digits, rest, (e, is), high))
  | inr fits ↦ elim (spoiler_tells rest) [
    | inl spoils ↦ inr (Char, length digits, inr (digits, rest, (e, is), fits, spoils, refl))
    | inr alone ↦ first_token (kind.Integer (value_of digits)) bytes digits rest e (is, alone, refl, fits)
  ]
]

-- a digit begins a lexeme or a fault
first_digit : (b : ℕ) (bytes : List ℕ) → class_of b ≡ Digit → HasFirst (b ∷ bytes)
first_digit b bytes is =
    let run_is : BeginsRun run.Number (b ∷ bytes) (run_of run.Number (b ∷ bytes)) (after_run run.Number (b ∷ bytes)) = begins_run run.Number (b ∷ bytes) in
    let head : Begins (λ x. IsTrue (is_in run.Number x)) (run_of run.Number (b ∷ bytes)) =
    run_head run.Number (λ x. IsTrue (is_in run.Number x)) b bytes (run_of run.Number (b ∷ bytes)) (after_run run.Number (b ∷ bytes)) run_is.0 (digit_class b is) run_is.2 (digit_class b is) in
    number_by (b ∷ bytes) (run_of run.Number (b ∷ bytes)) (after_run run.Number (b ∷ bytes)) run_is.0
    ((λ none. subst (λ bs. Begins (λ x. IsTrue (is_in run.Number x)) bs) none head), run_is.1, run_is.2)

-- texts and quoted names
quote_kind : (b : ℕ) (bytes rest : List ℕ) → IsQuote b → Skips (IsQuoted b) (b ∷ bytes) rest → HasFirst (b ∷ bytes)
quote_kind b bytes rest (inl e) skips = first_token kind.QuotedName (b ∷ bytes) skips.0 rest skips.1 (subst (λ q. IsQuoted q skips.0 rest) e skips.2)
quote_kind b bytes rest (inr e) skips = first_token kind.Text (b ∷ bytes) skips.0 rest skips.1 (subst (λ q. IsQuoted q skips.0 rest) e skips.2)

-- a quote begins a lexeme or a fault
first_quote : (b : ℕ) (bytes : List ℕ) → class_of b ≡ Quote → HasFirst (b ∷ bytes)
first_quote b bytes is = elim (literal_ends b bytes bytes (quoted_at_start b bytes)) [
  | inl closed ↦ quote_kind b bytes closed.0 (quote_class b is) closed.1
  | inr never ↦ inr (OpenText, 0, (refl, b, quote_class b is, never))
]

-- signs and comments
line_first : (bytes inner : List ℕ) → bytes ≡ 45 ∷ inner → Skips IsBlank (45 ∷ bytes) (after_run run.Line inner)
line_first bytes inner e = line_comment bytes inner (run_of run.Line inner) (after_run run.Line inner) e (begins_run run.Line inner)

-- `/*` in front is skipped as a blank
block_first : (bytes inner : List ℕ) → bytes ≡ 42 ∷ inner → (after : List ℕ) × Skips IsBlank (47 ∷ bytes) after
block_first bytes inner e =
    let ends : (after : List ℕ) × Skips IsBlank (47 ∷ 42 ∷ inner) after = comment_ends inner inner (no_close_at_start inner) in
    (ends.0, subst (λ bs. Skips IsBlank (47 ∷ bs) ends.0) (sym e) ends.1)

-- a minus, a slash and each sign that may be of two characters begin a lexeme or a fault
first_minus : (bytes : List ℕ) → HasFirst (45 ∷ bytes)
first_minus bytes = elim (begins_tells 45 bytes) [
  | inl comment ↦ first_blank (45 ∷ bytes) (after_run run.Line comment.0) (line_first bytes comment.0 comment.1)
  | inr alone ↦ one_sign kind.Minus 45 bytes (refl, alone)
]

first_slash : (bytes : List ℕ) → HasFirst (47 ∷ bytes)
first_slash bytes = elim (begins_tells 42 bytes) [
  | inl comment ↦ let block = block_first bytes comment.0 comment.1 in first_blank (47 ∷ bytes) block.0 block.1
  | inr alone ↦ one_sign kind.Slash 47 bytes (refl, alone)
]

first_equal : (bytes : List ℕ) → HasFirst (61 ∷ bytes)
first_equal bytes = two_signs_or kind.DoubleEqual 61 61 bytes (λ rest. refl) (λ alone. one_sign kind.Equal 61 bytes (refl, alone))

first_less : (bytes : List ℕ) → HasFirst (60 ∷ bytes)
first_less bytes =
    two_signs_or kind.LessEqual 60 61 bytes (λ rest. refl) (λ no_equal.
    two_signs_or kind.LessGreater 60 62 bytes (λ rest. refl) (λ alone. one_sign kind.Less 60 bytes (refl, no_equal, alone)))

first_greater : (bytes : List ℕ) → HasFirst (62 ∷ bytes)
first_greater bytes = two_signs_or kind.GreaterEqual 62 61 bytes (λ rest. refl) (λ alone. one_sign kind.Greater 62 bytes (refl, alone))

first_not : (bytes : List ℕ) → HasFirst (33 ∷ bytes)
first_not bytes = two_signs_or kind.NotEqual 33 61 bytes (λ rest. refl) (λ alone. inr (Char, 0, inl (refl, inr (inr (inl (refl, alone))))))

first_bar : (bytes : List ℕ) → HasFirst (124 ∷ bytes)
first_bar bytes = two_signs_or kind.DoubleBar 124 124 bytes (λ rest. refl) (λ alone. inr (Char, 0, inl (refl, inr (inr (inr (refl, alone))))))

module _ (b : ℕ) (bytes : List ℕ) where
  -- what holds of a byte holds of one that is equal
  as_is : (c : ℕ) → b ≡ c → HasFirst (c ∷ bytes) → HasFirst (b ∷ bytes)
  as_is c e first = subst (λ x. HasFirst (x ∷ bytes)) (sym e) first

  -- the byte is c, or another
  is_or : (c : ℕ) → HasFirst (c ∷ bytes) → (b ≢ c → HasFirst (b ∷ bytes)) → HasFirst (b ∷ bytes)
  is_or c first otherwise = elim (eqb_tells b c) [ inl e ↦ as_is c e.1 first | inr isnt ↦ otherwise isnt.1 ]

  -- a sign begins a lexeme or a fault
  first_sign : is_sign b ≡ true → HasFirst (b ∷ bytes)
  first_sign is =
      is_or 40 (one_sign kind.LeftParen 40 bytes refl) (λ n40.
      is_or 41 (one_sign kind.RightParen 41 bytes refl) (λ n41.
      is_or 44 (one_sign kind.Comma 44 bytes refl) (λ n44.
      is_or 46 (one_sign kind.Dot 46 bytes refl) (λ n46.
      is_or 43 (one_sign kind.Plus 43 bytes refl) (λ n43.
      is_or 45 (first_minus bytes) (λ n45.
      is_or 42 (one_sign kind.Star 42 bytes refl) (λ n42.
      is_or 47 (first_slash bytes) (λ n47.
      is_or 37 (one_sign kind.Percent 37 bytes refl) (λ n37.
      is_or 59 (one_sign kind.Semicolon 59 bytes refl) (λ n59.
      is_or 61 (first_equal bytes) (λ n61.
      is_or 60 (first_less bytes) (λ n60.
      is_or 62 (first_greater bytes) (λ n62.
      is_or 33 (first_not bytes) (λ n33.
      as_is 124 (bar_is_left b is n40 n41 n44 n46 n43 n45 n42 n47 n37 n59 n61 n60 n62 n33) (first_bar bytes)))))))))))))))

-- a byte begins a lexeme or a fault, whatever its class
first_by : (b : ℕ) (bytes : List ℕ) (k : Class) → class_of b ≡ k → HasFirst (b ∷ bytes)
first_by b bytes Space e = first_blank (b ∷ bytes) bytes (one_space (b ∷ bytes) b bytes refl e)
first_by b bytes Letter e = first_letter b bytes e
first_by b bytes Digit e = first_digit b bytes e
first_by b bytes Dollar e = inr (Char, 0, inl (refl, inr (inl e)))
first_by b bytes Quote e = first_quote b bytes e
first_by b bytes Sign e = first_sign b bytes (sign_class b e)
first_by b bytes Other e = inr (Char, 0, inl (refl, inl e))

-- a whole text
abbrev pub IsWhole : List ℕ → Type 0
IsWhole bytes = ((ps : List (Piece (Option TokenKind))) × Front IsTokenOrBlank ps bytes [])
    ⊎ ((ps : List (Piece (Option TokenKind))) × (rest : List ℕ) × (fault : LexKind) × (offset : ℕ) × Front IsTokenOrBlank ps bytes rest × IsFlaw fault offset rest)

-- a lexeme in front of a whole text leaves it whole
with_first : (bytes rest : List ℕ) (k : Option TokenKind) → Skips (IsTokenOrBlank k) bytes rest → IsWhole rest → IsWhole bytes
with_first bytes rest k skips (inl (ps, front)) = inl (piece k skips.0 ∷ ps, (rest, skips.1, skips.2, front))
with_first bytes rest k skips (inr (ps, left, fault, offset, front, flaw)) = inr (piece k skips.0 ∷ ps, left, fault, offset, (rest, skips.1, skips.2, front), flaw)

-- each text is whole
whole : (n : ℕ) (bytes : List ℕ) → length bytes ≤ n → IsWhole bytes
whole n [] fits = inl ([], refl)
whole zero (b ∷ bytes) fits = absurd (omega arith)
whole (suc n) (b ∷ bytes) fits = elim (first_by b bytes (class_of b) refl) [
  | inl found ↦ with_first (b ∷ bytes) found.1 found.0 found.2
      (whole n found.1 (let less : length found.1 < length (b ∷ bytes) = lexeme_moves found.0 (b ∷ bytes) found.1 found.2 in omega arith))
  | inr flaw ↦ inr ([], b ∷ bytes, flaw.0, flaw.1, refl, flaw.2)
]

-- each text has tokens, or it has a fault
pub each_text : EachTextHasTokensOrFault
each_text text = elim (whole (length text) text (omega arith)) [
  | inl read ↦ inl (tokens_of 0 read.0, (read.0, read.1, refl))
  | inr faulty ↦
      let size : length text ≡ size_of faulty.0 + length faulty.1 = Front-size IsTokenOrBlank faulty.0 text faulty.1 faulty.4 in
      inr (size_of faulty.0 + faulty.3, faulty.2, (faulty.0, faulty.1, faulty.3, faulty.4, faulty.5, omega arith))
]

-- scripts
quote_has_class : (b : ℕ) → IsQuote b → class_of b ≡ Quote
unfolding class_of
quote_has_class b (inl e) = ap class_of e
quote_has_class b (inr e) = ap class_of e

-- a part of a script begins here
abbrev pub HasPart : List ℕ → Type 0
HasPart bytes = (k : Part) × (rest : List ℕ) × Skips (IsPart k) bytes rest

-- a byte that is plain is a part
plain_part : (b : ℕ) (bytes : List ℕ) → class_of b ≢ Space → class_of b ≢ Quote → b ≢ 59 → ¬ ((b ≡ 45) × BeginsWith 45 bytes) → ¬ ((b ≡ 47) × BeginsWith 42 bytes) → HasPart (b ∷ bytes)
plain_part b bytes space quote end line block = (Statement, bytes, (b ∷ [], refl, inr (b, refl, ((space, line, block), (λ q. quote (quote_has_class b q)), end))))

-- a byte that is neither a space nor a quote begins a part
other_part : (b : ℕ) (bytes : List ℕ) → class_of b ≢ Space → class_of b ≢ Quote → HasPart (b ∷ bytes)
other_part b bytes space quote =
    elim (eqb_tells b 59) [
      | inl e ↦ (Separator, bytes, (59 ∷ [], ap (λ x. x ∷ bytes) e.1, refl))
      | inr end ↦
          elim (eqb_tells b 45) [
            | inl e ↦ elim (begins_tells 45 bytes) [
              | inl comment ↦ (Blank, after_run run.Line comment.0, subst (λ x. Skips IsBlank (x ∷ bytes) (after_run run.Line comment.0)) (sym e.1) (line_first bytes comment.0 comment.1))
              | inr alone ↦ plain_part b bytes space quote end.1 (λ p. alone p.1) (λ p. let wrong : 45 ≡ 47 = sym e.1 ∙ p.0 in omega arith)
            ]
            | inr minus ↦
                elim (eqb_tells b 47) [
                  | inl e ↦ elim (begins_tells 42 bytes) [
                    | inl comment ↦ (let block = block_first bytes comment.0 comment.1 in (Blank, block.0, subst (λ x. Skips IsBlank (x ∷ bytes) block.0) (sym e.1) block.1))
                    | inr alone ↦ plain_part b bytes space quote end.1 (λ p. minus.1 p.0) (λ p. alone p.1)
                  ]
                  | inr slash ↦ plain_part b bytes space quote end.1 (λ p. minus.1 p.0) (λ p. slash.1 p.0)
                ]
          ]
    ]

-- a quote begins a part
literal_part : (b : ℕ) (bytes : List ℕ) → IsQuote b → HasPart (b ∷ bytes)
literal_part b bytes is = elim (literal_ends b bytes bytes (quoted_at_start b bytes)) [
  | inl closed ↦ (Statement, closed.0, (closed.1.0, closed.1.1, inl (b, is, inl closed.1.2)))
  | inr never ↦ (Statement, [], open_literal (b ∷ bytes) b bytes refl is never)
]

-- a byte begins a part, whatever its class
part_by : (b : ℕ) (bytes : List ℕ) (k : Class) → class_of b ≡ k → HasPart (b ∷ bytes)
part_by b bytes Space e = (Blank, bytes, one_space (b ∷ bytes) b bytes refl e)
part_by b bytes Letter e = other_part b bytes (λ f. cc) (λ f. cc)
part_by b bytes Digit e = other_part b bytes (λ f. cc) (λ f. cc)
part_by b bytes Dollar e = other_part b bytes (λ f. cc) (λ f. cc)
part_by b bytes Quote e = literal_part b bytes (quote_class b e)
part_by b bytes Sign e = other_part b bytes (λ f. cc) (λ f. cc)
part_by b bytes Other e = other_part b bytes (λ f. cc) (λ f. cc)

-- each script is parts
all_parts : (n : ℕ) (bytes : List ℕ) → length bytes ≤ n → (ps : List (Piece Part)) × Front IsPart ps bytes []
all_parts n [] fits = ([], refl)
all_parts zero (b ∷ bytes) fits = absurd (omega arith)
all_parts (suc n) (b ∷ bytes) fits =
    let found : HasPart (b ∷ bytes) = part_by b bytes (class_of b) refl in
    let less : length found.1 < length (b ∷ bytes) = part_moves found.0 (b ∷ bytes) found.1 found.2 in
    let later : (ps : List (Piece Part)) × Front IsPart ps found.1 [] = all_parts n found.1 (omega arith) in
    (piece found.0 found.2.0 ∷ later.0, (found.1, found.2.1, found.2.2, later.1))

-- each script has statements
pub each_script : EachScriptHasStatements
each_script text = let parts = all_parts (length text) text (omega arith) in (spans_of parts.0, (parts.0, parts.1, refl))
