-- Tokens: what each is, and what may not follow it, so that it is the longest one that begins there.
--
-- The longest token is taken: SQLite's tokenizer requirements, tokenreq.html. Literals are after lang_expr.html,
-- quoted names after lang_keywords.html, signs after lang_expr.html, on operators. Rules of our own are: a
-- number has no point and no exponent, neither `.` nor a character of a name may follow it, and it is at most
-- 9223372036854775808 (SQLite reads such numbers as reals); `;` is a token like other signs; a quoted name may be
-- empty; no quote is within a blob, so a text may follow at once; SQLite's further signs are no tokens.
use Rattle.std.specs.Prelude.{◌≡◌, ◌≢◌, ◌⊎◌, ◌≤◌, ℕ, ◌+◌, ◌-◌, ◌*◌, ◌%◌, List, [], ◌∷◌, ◌++◌, length, Some, None, codes}
use Rattle.hc_lex.specs.declared.character.Class.TheVariants.{Letter}
use Rattle.hc_lex.specs.declared.character.Run.TheVariants as run
use Rattle.hc_lex.specs.declared.token.TokenKind.{TokenKind}
use Rattle.hc_lex.specs.declared.token.TokenKind.TheVariants.{Name, QuotedName, Keyword, Integer, Text, Blob, LeftParen, RightParen, Comma, Dot, Plus, Minus, Star, Slash, Percent, Equal, DoubleEqual, Less, LessEqual, Greater, GreaterEqual, LessGreater, NotEqual, DoubleBar, Semicolon}
use Rattle.hc_lex.specs.Characters.{class_of, Begins, BeginsWith, IsRun, GoesOn}
use Rattle.hc_lex.specs.Quotes.{IsQuoted}
use Rattle.hc_lex.specs.Keywords.{keyword_of}

-- `x` or `X`
abbrev pub IsBlobMark : ℕ → Type 0
IsBlobMark b = (b ≡ 120) ⊎ (b ≡ 88)

-- `x'` or `X'` begins a blob, and no word
abbrev pub BeginsBlob : List ℕ → Type 0
BeginsBlob bytes = (mark : ℕ) × (tail : List ℕ) × IsBlobMark mark × (bytes ≡ mark ∷ 39 ∷ tail)

-- a word: a letter, and all letters, digits and `$` that follow
abbrev pub IsWord : List ℕ → List ℕ → Type 0
IsWord text rest = Begins (λ b. class_of b ≡ Letter) text × IsRun run.Name text × ¬ GoesOn run.Name rest × ¬ BeginsBlob (text ++ rest)

-- the value of decimal digits that follow others of the value `high`
abbrev pub value_after : ℕ → List ℕ → ℕ
value_after high [] = high
value_after high (b ∷ bytes) = value_after (10 * high + (b - 48)) bytes

-- the value of decimal digits
abbrev pub value_of : List ℕ → ℕ
value_of digits = value_after 0 digits

-- the digits of a number, one or more, and all that are there
abbrev pub IsDigits : List ℕ → List ℕ → Type 0
IsDigits text rest = (text ≢ []) × IsRun run.Number text × ¬ GoesOn run.Number rest

-- `.` and a character of a name may not follow a number
abbrev pub BeginsSpoiler : List ℕ → Type 0
BeginsSpoiler rest = BeginsWith 46 rest ⊎ GoesOn run.Name rest

-- the least integer without its minus
abbrev pub greatest_integer : ℕ
greatest_integer = 9223372036854775808

-- `x` or `X`, and in quotes a pair of hexadecimal digits for each byte
abbrev pub IsBlob : List ℕ → Type 0
IsBlob text = (mark : ℕ) × (digits : List ℕ) × IsBlobMark mark × IsRun run.Blob digits × (length digits % 2 ≡ 0)
    × (text ≡ mark ∷ 39 ∷ digits ++ 39 ∷ [])

-- `text` is a token of this kind, where `rest` follows it
abbrev pub IsToken : TokenKind → List ℕ → List ℕ → Type 0
IsToken Name text rest = IsWord text rest × (keyword_of text ≡ None)
IsToken (Keyword k) text rest = IsWord text rest × (keyword_of text ≡ Some k)
IsToken QuotedName text rest = IsQuoted 34 text rest
IsToken Text text rest = IsQuoted 39 text rest
IsToken Blob text rest = IsBlob text
IsToken (Integer n) text rest = IsDigits text rest × ¬ BeginsSpoiler rest × (n ≡ value_of text) × (n ≤ greatest_integer)
IsToken LeftParen text rest = text ≡ codes "("
IsToken RightParen text rest = text ≡ codes ")"
IsToken Comma text rest = text ≡ codes ","
IsToken Dot text rest = text ≡ codes "."
IsToken Plus text rest = text ≡ codes "+"
IsToken Minus text rest = (text ≡ codes "-") × ¬ BeginsWith 45 rest
IsToken Star text rest = text ≡ codes "*"
IsToken Slash text rest = (text ≡ codes "/") × ¬ BeginsWith 42 rest
IsToken Percent text rest = text ≡ codes "%"
IsToken Equal text rest = (text ≡ codes "=") × ¬ BeginsWith 61 rest
IsToken DoubleEqual text rest = text ≡ codes "=="
IsToken Less text rest = (text ≡ codes "<") × ¬ BeginsWith 61 rest × ¬ BeginsWith 62 rest
IsToken LessEqual text rest = text ≡ codes "<="
IsToken Greater text rest = (text ≡ codes ">") × ¬ BeginsWith 61 rest
IsToken GreaterEqual text rest = text ≡ codes ">="
IsToken LessGreater text rest = text ≡ codes "<>"
IsToken NotEqual text rest = text ≡ codes "!="
IsToken DoubleBar text rest = text ≡ codes "||"
IsToken Semicolon text rest = text ≡ codes ";"

-- The same of blobs, as a reader meets it: after the opening quote come such digits and a quote, and then `rest`.
abbrev pub ClosesBlob : List ℕ → List ℕ → Type 0
ClosesBlob bytes rest = (digits : List ℕ) × IsRun run.Blob digits × (length digits % 2 ≡ 0) × (bytes ≡ digits ++ 39 ∷ rest)

-- what follows the opening quote is not the rest of a blob
abbrev pub ClosesNoBlob : List ℕ → Type 0
ClosesNoBlob bytes = (rest : List ℕ) → ¬ ClosesBlob bytes rest
