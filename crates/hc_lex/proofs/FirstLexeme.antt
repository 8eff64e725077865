-- A function that finds the lexeme at the front, and that it finds what the definitions say.
use Rattle.std.proofs.Common.{◌≡◌, ◌∙◌, ◌==◌, ◌&&◌, ◌||◌, ◌≤◌, ◌%◌, if◌then◌else◌, nat_le, not, Bool, true, false, ℕ, List, [], ◌∷◌, ◌++◌, drop, length, Option, None, Some, inl, inr, refl, sym, ap, append_assoc, arith}
use Rattle.std.proofs.lemmas.Bool.{eq-eqb, eqb-true, false≢true, false_from_ne_true}
use Rattle.std.proofs.lemmas.List.{append-nil}
use Rattle.std.proofs.lemmas.Bool.Decides.{nat_tests}
use Rattle.hc_lex.specs.declared.character.Class.{Class}
use Rattle.hc_lex.specs.declared.character.Class.TheVariants.{Space, Letter, Digit, Dollar, Quote, Sign, Other}
use Rattle.hc_lex.specs.declared.character.Run.TheVariants as run
use Rattle.hc_lex.specs.declared.keyword.Keyword.{Keyword}
use Rattle.hc_lex.specs.declared.token.TokenKind.{TokenKind}
use Rattle.hc_lex.specs.declared.token.TokenKind.TheVariants as kind
use Rattle.hc_lex.specs.Blanks.{IsBlank}
use Rattle.hc_lex.specs.Characters.{IsRun, class_of, is_in}
use Rattle.hc_lex.specs.Keywords.{keyword_of}
use Rattle.hc_text.specs.Quotes.{doubled}
use Rattle.hc_lex.specs.Quotes.{IsQuoted}
use Rattle.hc_lex.specs.Reading.{IsTokenOrBlank}
use Rattle.hc_lex.specs.Tokens.{BeginsBlob, BeginsSpoiler, IsBlob, IsBlobMark, IsToken, IsWord, greatest_integer, value_of}
use Rattle.hc_lex.proofs.Classes.{digit_has_class, mark_has_class}
use Rattle.hc_lex.proofs.Runs.{quote_is_no_hex}
use Rattle.hc_lex.proofs.Scans.{after_close, after_close-closed, after_close-open, after_quote, after_quote-closed, after_run, after_run-run, begins_byte, begins_is, begins_not, both, run_of, run_of-run}

-- a kind, with what follows it, or nothing where none begins
abbrev pub Found : Type 0
Found = Option (Option TokenKind × List ℕ)

-- a token of this kind, and `rest` after it
abbrev pub found : TokenKind → List ℕ → Found
found k rest = Some (Some k, rest)

-- the kind of a word: the keyword, or a name where it is none
abbrev pub word_kind : Option Keyword → TokenKind
word_kind None = kind.Name
word_kind (Some k) = kind.Keyword k

-- the blob whose digits these bytes are, where they close it
abbrev pub blob_in : List ℕ → Found
blob_in bytes = if (length (run_of run.Blob bytes) % 2 == 0) && begins_byte 39 (after_run run.Blob bytes) then found kind.Blob (drop 1 (after_run run.Blob bytes)) else None

-- `x` or `X` with a quote after it
abbrev pub is_blob_start : ℕ → List ℕ → Bool
is_blob_start b bytes = (b == 120 || b == 88) && begins_byte 39 bytes

-- the blob or the word that begins with this letter
abbrev pub word_in : ℕ → List ℕ → Found
word_in b bytes =
    if is_blob_start b bytes then blob_in (drop 1 bytes)
    else found (word_kind (keyword_of (run_of run.Name (b ∷ bytes)))) (after_run run.Name (b ∷ bytes))

-- whether what follows a number may not follow it
abbrev pub is_spoiler : List ℕ → Bool
is_spoiler [] = false
is_spoiler (b ∷ bytes) = b == 46 || is_in run.Name b

-- the number at the front
abbrev pub number_in : List ℕ → Found
number_in bytes =
    if nat_le (value_of (run_of run.Number bytes)) greatest_integer && not (is_spoiler (after_run run.Number bytes))
    then found (kind.Integer (value_of (run_of run.Number bytes))) (after_run run.Number bytes) else None

-- a literal of this kind, where its quote closes
abbrev pub closed_by : TokenKind → Option (List ℕ) → Found
closed_by k None = None
closed_by k (Some rest) = found k rest

-- the text or the quoted name after this quote
abbrev pub quoted_in : ℕ → List ℕ → Found
quoted_in b bytes = closed_by (if b == 34 then kind.QuotedName else kind.Text) (after_quote b false bytes)

-- the sign at the front, or the comment, or nothing
abbrev pub sign_in : ℕ → List ℕ → Found
sign_in b bytes =
    if b == 40 then found kind.LeftParen bytes
    else (if b == 41 then found kind.RightParen bytes
    else (if b == 42 then found kind.Star bytes
    else (if b == 43 then found kind.Plus bytes
    else (if b == 44 then found kind.Comma bytes
    else (if b == 45 then (if begins_byte 45 bytes then Some (None, after_run run.Line (drop 1 bytes)) else found kind.Minus bytes)
    else (if b == 46 then found kind.Dot bytes
    else (if b == 47 then (if begins_byte 42 bytes then Some (None, after_close (drop 1 bytes)) else found kind.Slash bytes)
    else (if b == 37 then found kind.Percent bytes
    else (if b == 59 then found kind.Semicolon bytes
    else (if b == 61 then (if begins_byte 61 bytes then found kind.DoubleEqual (drop 1 bytes) else found kind.Equal bytes)
    else (if b == 60 then (if begins_byte 61 bytes then found kind.LessEqual (drop 1 bytes) else (if begins_byte 62 bytes then found kind.LessGreater (drop 1 bytes) else found kind.Less bytes))
    else (if b == 62 then (if begins_byte 61 bytes then found kind.GreaterEqual (drop 1 bytes) else found kind.Greater bytes)
    else (if b == 33 then (if begins_byte 61 bytes then found kind.NotEqual (drop 1 bytes) else None)
    else (if b == 124 then (if begins_byte 124 bytes then found kind.DoubleBar (drop 1 bytes) else None)
    else None))))))))))))))

-- the lexeme that begins with a character of this class
abbrev pub lexeme_in : Class → ℕ → List ℕ → Found
lexeme_in Space b bytes = Some (None, bytes)
lexeme_in Letter b bytes = word_in b bytes
lexeme_in Digit b bytes = number_in (b ∷ bytes)
lexeme_in Dollar b bytes = None
lexeme_in Quote b bytes = quoted_in b bytes
lexeme_in Sign b bytes = sign_in b bytes
lexeme_in Other b bytes = None

-- the lexeme at the front, or nothing
unfoldable pub first_lexeme : List ℕ → Found
first_lexeme [] = None
first_lexeme (b ∷ bytes) = lexeme_in (class_of b) b bytes

-- the lexeme of this kind is found, with `rest` after it
abbrev Finds : List ℕ → Option TokenKind → List ℕ → Type 0
Finds bytes k rest = first_lexeme bytes ≡ Some (k, rest)

-- the lexeme at the front is that of the first character's class
pub by_class : (b : ℕ) (bytes : List ℕ) (k : Class) → class_of b ≡ k → first_lexeme (b ∷ bytes) ≡ lexeme_in k b bytes
unfolding first_lexeme
by_class b bytes k e = ap (λ c. lexeme_in c b bytes) e

-- the lexeme at a minus or a slash is that of the sign
sign_45 : (bytes : List ℕ) → first_lexeme (45 ∷ bytes) ≡ sign_in 45 bytes
unfolding first_lexeme class_of
sign_45 bytes = refl

sign_47 : (bytes : List ℕ) → first_lexeme (47 ∷ bytes) ≡ sign_in 47 bytes
unfolding first_lexeme class_of
sign_47 bytes = refl

-- the lexeme at a quote is the text or the name it begins
pub quote_34 : (bytes : List ℕ) → first_lexeme (34 ∷ bytes) ≡ quoted_in 34 bytes
unfolding first_lexeme class_of
quote_34 bytes = refl

pub quote_39 : (bytes : List ℕ) → first_lexeme (39 ∷ bytes) ≡ quoted_in 39 bytes
unfolding first_lexeme class_of
quote_39 bytes = refl

-- a space and a comment in front are found
blank_found : (text rest : List ℕ) → IsBlank text rest → Finds (text ++ rest) None rest
blank_found text rest (inl (b, is, e)) = ap (λ t. first_lexeme (t ++ rest)) e ∙ by_class b rest Space is
blank_found text rest (inr (inl (inner, e, is, ends))) =
    ap (λ t. first_lexeme (t ++ rest)) e ∙ sign_45 (45 ∷ inner ++ rest) ∙ ap (λ r. Some (None, r)) (after_run-run run.Line inner rest is ends)
blank_found text rest (inr (inr (inner, none, inl e))) =
    ap (λ t. first_lexeme (t ++ rest)) e ∙ sign_47 (42 ∷ (inner ++ 42 ∷ 47 ∷ []) ++ rest)
    ∙ ap (λ r. Some (None, after_close r)) (append_assoc inner (42 ∷ 47 ∷ []) rest) ∙ ap (λ r. Some (None, r)) (after_close-closed inner rest none)
blank_found text rest (inr (inr (inner, none, inr (e, ends)))) =
    ap (λ t. first_lexeme (t ++ rest)) e ∙ ap (λ r. first_lexeme (47 ∷ 42 ∷ inner ++ r)) ends ∙ ap (λ r. first_lexeme (47 ∷ 42 ∷ r)) (append-nil inner)
    ∙ sign_47 (42 ∷ inner) ∙ ap (λ r. Some (None, r)) (after_close-open inner none ∙ sym ends)

-- quotes
quoted_found : (quote : ℕ) (k : TokenKind) (text rest : List ℕ) → ((bytes : List ℕ) → first_lexeme (quote ∷ bytes) ≡ closed_by k (after_quote quote false bytes)) → IsQuoted quote text rest → Finds (text ++ rest) (Some k) rest
quoted_found quote k text rest begins is =
    ap (λ t. first_lexeme (t ++ rest)) is.1
    ∙ begins ((doubled quote is.0 ++ quote ∷ []) ++ rest)
    ∙ ap (λ bytes. closed_by k (after_quote quote false bytes)) (append_assoc (doubled quote is.0) (quote ∷ []) rest)
    ∙ ap (closed_by k) (after_quote-closed quote is.0 rest is.2)

-- words
mark_test : (b : ℕ) → (b == 120 || b == 88) ≡ true → IsBlobMark b
mark_test b e = grind (arith, nat_tests)

-- a mark passes the test
pub is_mark : (b : ℕ) → IsBlobMark b → (b == 120 || b == 88) ≡ true
is_mark b e = grind (arith, nat_tests)

-- a mark and a quote that pass the test begin a blob
begins_blob : (b : ℕ) (bytes : List ℕ) → (b == 120 || b == 88) ≡ true → begins_byte 39 bytes ≡ true → BeginsBlob (b ∷ bytes)
begins_blob b [] mark quote = absurd (false≢true quote)
begins_blob b (c ∷ bytes) mark quote = (b, bytes, mark_test b mark, ap (λ x. b ∷ x ∷ bytes) (begins_is 39 (c ∷ bytes) quote))

-- where no blob begins, the test of one fails
no_blob_start : (b : ℕ) (bytes : List ℕ) → ¬ BeginsBlob (b ∷ bytes) → is_blob_start b bytes ≡ false
no_blob_start b bytes ne =
    false_from_ne_true (is_blob_start b bytes)
    (λ e. let two : ((b == 120 || b == 88) ≡ true) × (begins_byte 39 bytes ≡ true) = both (b == 120 || b == 88) (begins_byte 39 bytes) e in ne (begins_blob b bytes two.0 two.1))

-- a word in front is found, with its keyword or as a name
word_found : (text rest : List ℕ) → IsWord text rest → Finds (text ++ rest) (Some (word_kind (keyword_of text))) rest
word_found [] rest is = absurd is.0
word_found (b ∷ text) rest is =
    by_class b (text ++ rest) Letter is.0
    ∙ ap (λ t. if t then blob_in (drop 1 (text ++ rest)) else found (word_kind (keyword_of (run_of run.Name (b ∷ text ++ rest)))) (after_run run.Name (b ∷ text ++ rest)))
    (no_blob_start b (text ++ rest) is.3)
    ∙ ap (λ word. found (word_kind (keyword_of word)) (after_run run.Name (b ∷ text ++ rest))) (run_of-run run.Name (b ∷ text) rest is.1 is.2)
    ∙ ap (λ r. found (word_kind (keyword_of (b ∷ text))) r) (after_run-run run.Name (b ∷ text) rest is.1 is.2)

-- blobs
blob_ends : (digits rest : List ℕ) → IsRun run.Blob digits → length digits % 2 ≡ 0 → blob_in (digits ++ 39 ∷ rest) ≡ found kind.Blob rest
blob_ends digits rest is even =
    let run_is : run_of run.Blob (digits ++ 39 ∷ rest) ≡ digits = run_of-run run.Blob digits (39 ∷ rest) is (quote_is_no_hex rest) in
    let rest_is : after_run run.Blob (digits ++ 39 ∷ rest) ≡ 39 ∷ rest = after_run-run run.Blob digits (39 ∷ rest) is (quote_is_no_hex rest) in
    ap (λ ds. if (length ds % 2 == 0) && begins_byte 39 (after_run run.Blob (digits ++ 39 ∷ rest)) then found kind.Blob (drop 1 (after_run run.Blob (digits ++ 39 ∷ rest))) else None) run_is
    ∙ ap (λ r. if (length digits % 2 == 0) && begins_byte 39 r then found kind.Blob (drop 1 r) else None) rest_is
    ∙ ap (λ t. if t && true then found kind.Blob rest else None) (eq-eqb (length digits % 2) 0 even)

-- a blob in front is found
blob_found : (text rest : List ℕ) → IsBlob text → Finds (text ++ rest) (Some kind.Blob) rest
blob_found text rest is =
    ap (λ t. first_lexeme (t ++ rest)) is.5
    ∙ by_class is.0 (39 ∷ (is.1 ++ 39 ∷ []) ++ rest) Letter (mark_has_class is.0 is.2)
    ∙ ap (λ t. if t && true then blob_in ((is.1 ++ 39 ∷ []) ++ rest)
    else found (word_kind (keyword_of (run_of run.Name (is.0 ∷ 39 ∷ (is.1 ++ 39 ∷ []) ++ rest)))) (after_run run.Name (is.0 ∷ 39 ∷ (is.1 ++ 39 ∷ []) ++ rest))) (is_mark is.0 is.2)
    ∙ ap blob_in (append_assoc is.1 (39 ∷ []) rest)
    ∙ blob_ends is.1 rest is.3 is.4

-- numbers
neither : (s t : Bool) → (s ≡ true → ⊥) → (t ≡ true → ⊥) → (s || t) ≡ false
neither true t no_s no_t = absurd (no_s refl)
neither false t no_s no_t = false_from_ne_true t no_t

-- a number that is at most another passes the test
pub le_test : (a b : ℕ) → a ≤ b → nat_le a b ≡ true
le_test a b h = grind (arith, nat_tests)

-- what may follow a number fails the test
no_spoiler : (rest : List ℕ) → ¬ BeginsSpoiler rest → is_spoiler rest ≡ false
no_spoiler [] ne = refl
no_spoiler (b ∷ rest) ne = neither (b == 46) (is_in run.Name b) (λ e. ne (inl (eqb-true b 46 e))) (λ e. ne (inr e))

-- a number in front is found
number_found : (n : ℕ) (text rest : List ℕ) → IsToken (kind.Integer n) text rest → Finds (text ++ rest) (Some (kind.Integer n)) rest
number_found n [] rest is = absurd (is.0.0 refl)
number_found n (b ∷ text) rest is =
    let run_is : run_of run.Number (b ∷ text ++ rest) ≡ b ∷ text = run_of-run run.Number (b ∷ text) rest is.0.1 is.0.2 in
    let rest_is : after_run run.Number (b ∷ text ++ rest) ≡ rest = after_run-run run.Number (b ∷ text) rest is.0.1 is.0.2 in
    by_class b (text ++ rest) Digit (digit_has_class b is.0.1.0)
    ∙ ap (λ ds. if nat_le (value_of ds) greatest_integer && not (is_spoiler (after_run run.Number (b ∷ text ++ rest))) then found (kind.Integer (value_of ds)) (after_run run.Number (b ∷ text ++ rest)) else None) run_is
    ∙ ap (λ r. if nat_le (value_of (b ∷ text)) greatest_integer && not (is_spoiler r) then found (kind.Integer (value_of (b ∷ text))) r else None) rest_is
    ∙ ap (λ v. if nat_le v greatest_integer && not (is_spoiler rest) then found (kind.Integer v) rest else None) (sym is.2)
    ∙ ap (λ t. if t && not (is_spoiler rest) then found (kind.Integer n) rest else None) (le_test n greatest_integer is.3)
    ∙ ap (λ t. if not t then found (kind.Integer n) rest else None) (no_spoiler rest is.1)

-- each token in front is found
token_found : (k : TokenKind) (text rest : List ℕ) → IsToken k text rest → Finds (text ++ rest) (Some k) rest
unfolding first_lexeme class_of
token_found kind.Name text rest is = word_found text rest is.0 ∙ ap (λ o. found (word_kind o) rest) is.1
token_found (kind.Keyword k) text rest is = word_found text rest is.0 ∙ ap (λ o. found (word_kind o) rest) is.1
token_found kind.QuotedName text rest is = quoted_found 34 kind.QuotedName text rest quote_34 is
token_found kind.Text text rest is = quoted_found 39 kind.Text text rest quote_39 is
token_found kind.Blob text rest is = blob_found text rest is
token_found (kind.Integer n) text rest is = number_found n text rest is
token_found kind.LeftParen text rest is = ap (λ t. first_lexeme (t ++ rest)) is
token_found kind.RightParen text rest is = ap (λ t. first_lexeme (t ++ rest)) is
token_found kind.Comma text rest is = ap (λ t. first_lexeme (t ++ rest)) is
token_found kind.Dot text rest is = ap (λ t. first_lexeme (t ++ rest)) is
token_found kind.Plus text rest is = ap (λ t. first_lexeme (t ++ rest)) is
token_found kind.Minus text rest is =
    ap (λ t. first_lexeme (t ++ rest)) is.0 ∙ ap (λ t. if t then Some (None, after_run run.Line (drop 1 rest)) else found kind.Minus rest) (begins_not 45 rest is.1)
token_found kind.Star text rest is = ap (λ t. first_lexeme (t ++ rest)) is
token_found kind.Slash text rest is =
    ap (λ t. first_lexeme (t ++ rest)) is.0 ∙ ap (λ t. if t then Some (None, after_close (drop 1 rest)) else found kind.Slash rest) (begins_not 42 rest is.1)
token_found kind.Percent text rest is = ap (λ t. first_lexeme (t ++ rest)) is
token_found kind.Equal text rest is =
    ap (λ t. first_lexeme (t ++ rest)) is.0 ∙ ap (λ t. if t then found kind.DoubleEqual (drop 1 rest) else found kind.Equal rest) (begins_not 61 rest is.1)
token_found kind.DoubleEqual text rest is = ap (λ t. first_lexeme (t ++ rest)) is
token_found kind.Less text rest is =
    ap (λ t. first_lexeme (t ++ rest)) is.0
    ∙ ap (λ t. if t then found kind.LessEqual (drop 1 rest) else (if begins_byte 62 rest then found kind.LessGreater (drop 1 rest) else found kind.Less rest)) (begins_not 61 rest is.1)
    ∙ ap (λ t. if t then found kind.LessGreater (drop 1 rest) else found kind.Less rest) (begins_not 62 rest is.2)
token_found kind.LessEqual text rest is = ap (λ t. first_lexeme (t ++ rest)) is
token_found kind.Greater text rest is =
    ap (λ t. first_lexeme (t ++ rest)) is.0 ∙ ap (λ t. if t then found kind.GreaterEqual (drop 1 rest) else found kind.Greater rest) (begins_not 61 rest is.1)
token_found kind.GreaterEqual text rest is = ap (λ t. first_lexeme (t ++ rest)) is
token_found kind.LessGreater text rest is = ap (λ t. first_lexeme (t ++ rest)) is
token_found kind.NotEqual text rest is = ap (λ t. first_lexeme (t ++ rest)) is
token_found kind.DoubleBar text rest is = ap (λ t. first_lexeme (t ++ rest)) is
token_found kind.Semicolon text rest is = ap (λ t. first_lexeme (t ++ rest)) is

-- each token and blank in front is the one that is found
pub lexeme_found : (k : Option TokenKind) (text rest : List ℕ) → IsTokenOrBlank k text rest → first_lexeme (text ++ rest) ≡ Some (k, rest)
lexeme_found None text rest is = blank_found text rest is
lexeme_found (Some k) text rest is = token_found k text rest is

-- where the text ends, no lexeme is found
pub no_lexeme_at_end : first_lexeme [] ≡ None
unfolding first_lexeme
no_lexeme_at_end = refl
