-- Terminals: the phrases of one lexeme. `Means` says what a lexeme means, and `value_of` finds it.
use Rattle.std.specs.Prelude.{◌≡◌, ◌⊎◌, ℕ, ℤ, zero, suc, pos, negsuc, ◌<◌, ◌^◌, ◌==◌, ◌+◌, ◌-◌, ◌*◌, Bool, true, false, if◌then◌else◌, List, [], ◌∷◌, Option, Some, None, IsTrue, codes}
use Rattle.std.specs.Char.{digit_value}
use Rattle.std.specs.Str.{str_eq_ignore_ascii_case}
use Rattle.hc_lex.specs.declared.token.TokenKind.{TokenKind}
use Rattle.hc_lex.specs.declared.token.TokenKind.TheVariants as kind
use Rattle.hc_lex.specs.declared.keyword.Keyword.TheVariants as word
use Rattle.hc_value.specs.declared.value.Value.{Value}
use Rattle.hc_value.specs.declared.value.Value.TheVariants as value
use Rattle.hc_grammar.specs.Lexemes.{Lexeme, IsName, IsLiteral}
use Rattle.hc_grammar.specs.Kinds.{is}

-- A name; a literal; an integer, and one after a minus; ASC or DESC, which are plain names; one of some kinds, each with
-- its value.
pub data Terminal : Type 0 → Type 1 where
  Name : Terminal (List ℕ)
  Literal : Terminal Value
  Integer : Terminal ℤ
  Negative : Terminal ℤ
  Direction : Terminal Bool
  Kinds : {A : Type 0} → List (TokenKind × A) → Terminal A

-- an integer without a minus
abbrev pub IsInteger : ℤ → TokenKind → Type 0
IsInteger (pos n) of = (of ≡ kind.Integer n) × (n < 2 ^ 63)
IsInteger (negsuc n) of = ⊥

-- the number after a minus
abbrev pub IsNegative : ℤ → TokenKind → Type 0
IsNegative (pos n) of = (of ≡ kind.Integer 0) × (n ≡ 0)
IsNegative (negsuc n) of = (of ≡ kind.Integer (suc n)) × (n < 2 ^ 63)

-- one of these kinds has the value
abbrev pub IsOneOf : {A : Type 0} → TokenKind → A → List (TokenKind × A) → Type 0
IsOneOf of x [] = ⊥
IsOneOf of x (one ∷ others) = ((of ≡ one.0) × (x ≡ one.1)) ⊎ IsOneOf of x others

-- a plain name of these letters, whatever their case
abbrev pub IsPlainName : List ℕ → Lexeme → Type 0
IsPlainName letters lexeme = (lexeme.kind ≡ kind.Name) × IsTrue (str_eq_ignore_ascii_case letters lexeme.text)

-- what a lexeme means
abbrev pub Means : {A : Type 0} → Terminal A → A → Lexeme → Type 0
Means Name x lexeme = IsName lexeme x
Means Literal x lexeme = IsLiteral lexeme x
Means Integer x lexeme = IsInteger x lexeme.kind
Means Negative x lexeme = IsNegative x lexeme.kind
Means Direction true lexeme = IsPlainName (codes "DESC") lexeme
Means Direction false lexeme = IsPlainName (codes "ASC") lexeme
Means (Kinds table) x lexeme = IsOneOf lexeme.kind x table

-- an option's value made into another
abbrev pub also : {A B : Type 0} → (A → B) → Option A → Option B
also f None = None
also f (Some x) = Some (f x)

-- what is before a closing quote, each quote within written twice
abbrev pub undoubled : ℕ → List ℕ → Option (List ℕ)
undoubled quote [] = None
undoubled quote (b ∷ []) = if b == quote then Some [] else None
undoubled quote (b ∷ c ∷ rest) =
    if b == quote then (if c == quote then also (λ inner. b ∷ inner) (undoubled quote rest) else None)
    else also (λ inner. b ∷ inner) (undoubled quote (c ∷ rest))

-- what is within quotes
abbrev pub unquoted : ℕ → List ℕ → Option (List ℕ)
unquoted quote [] = None
unquoted quote (b ∷ rest) = if b == quote then undoubled quote rest else None

-- the name that a lexeme is
abbrev pub name_of : Lexeme → Option (List ℕ)
name_of lexeme =
    if is kind.Name lexeme then Some lexeme.text
    else (if is kind.QuotedName lexeme then unquoted 34 lexeme.text else None)

-- the bytes of which these are the digits, up to a quote at the end
abbrev pub digit_bytes : List ℕ → Option (List ℕ)
digit_bytes [] = None
digit_bytes (high ∷ []) = if high == 39 then Some [] else None
digit_bytes (high ∷ low ∷ rest) = also (λ bytes. (16 * digit_value high + digit_value low) ∷ bytes) (digit_bytes rest)

-- the bytes of a blob
abbrev pub blob_of : List ℕ → Option (List ℕ)
blob_of [] = None
blob_of (mark ∷ []) = None
blob_of (mark ∷ quote ∷ digits) = if quote == 39 then digit_bytes digits else None

-- the number of an integer, and 0 else
abbrev pub number_of : TokenKind → ℕ
number_of (kind.Integer n) = n
number_of other = 0

-- the integer that a lexeme is, where it is a literal
abbrev pub integer_of : Lexeme → Option ℤ
integer_of lexeme = if is (kind.Integer 0) lexeme then Some (pos (number_of lexeme.kind)) else None

-- the integer that has this number after a minus
abbrev pub negative_of : ℕ → ℤ
negative_of zero = pos 0
negative_of (suc n) = negsuc n

-- the integer that a lexeme is after a minus
abbrev pub after_minus : Lexeme → Option ℤ
after_minus lexeme =
    if is (kind.Integer 0) lexeme then Some (negative_of (number_of lexeme.kind))
    else (if is (kind.Integer (2 ^ 63)) lexeme then Some (negsuc (2 ^ 63 - 1)) else None)

-- the literal that a lexeme is
abbrev pub literal_of : Lexeme → Option Value
literal_of lexeme =
    if is (kind.Keyword word.Null) lexeme then Some value.Null
    else (if is kind.Text lexeme then also value.Text (unquoted 39 lexeme.text)
    else (if is kind.Blob lexeme then also value.Blob (blob_of lexeme.text)
    else also value.Int (integer_of lexeme)))

-- the value of a lexeme's kind
abbrev pub of_kind : {A : Type 0} → List (TokenKind × A) → Lexeme → Option A
of_kind [] lexeme = None
of_kind (one ∷ others) lexeme = if is one.0 lexeme then Some one.1 else of_kind others lexeme

-- whether the order is turned round, as the letters say
abbrev pub direction_of : List ℕ → Option Bool
direction_of text =
    if str_eq_ignore_ascii_case (codes "DESC") text then Some true
    else (if str_eq_ignore_ascii_case (codes "ASC") text then Some false else None)

-- what is found as the meaning of a lexeme
abbrev pub value_of : {A : Type 0} → Terminal A → Lexeme → Option A
value_of Name lexeme = name_of lexeme
value_of Literal lexeme = literal_of lexeme
value_of Integer lexeme = integer_of lexeme
value_of Negative lexeme = after_minus lexeme
value_of Direction lexeme = if is kind.Name lexeme then direction_of lexeme.text else None
value_of (Kinds table) lexeme = of_kind table lexeme

abbrev pub left_of : {A : Type 0} → List (TokenKind × A) → List TokenKind
left_of [] = []
left_of (one ∷ others) = one.0 ∷ left_of others

-- the kinds that a terminal may be of
abbrev pub kinds_of : {A : Type 0} → Terminal A → List TokenKind
kinds_of Name = kind.Name ∷ kind.QuotedName ∷ []
kinds_of Literal = kind.Keyword word.Null ∷ kind.Text ∷ kind.Blob ∷ kind.Integer 0 ∷ []
kinds_of Integer = kind.Integer 0 ∷ []
kinds_of Negative = kind.Integer 0 ∷ kind.Integer (2 ^ 63) ∷ []
kinds_of Direction = kind.Name ∷ []
kinds_of (Kinds table) = left_of table
