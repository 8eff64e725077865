-- Kinds of tokens by number, so that a reader tells them apart by a test.
use Rattle.std.specs.Prelude.{◌≡◌, ℕ, ◌+◌, ◌^◌, ◌==◌, nat_lt, if◌then◌else◌, ◌||◌, Bool, true, false, List, [], ◌∷◌}
use Rattle.hc_lex.specs.declared.keyword.Keyword.{Keyword}
use Rattle.hc_lex.specs.declared.keyword.Keyword.TheVariants as word
use Rattle.hc_lex.specs.declared.token.TokenKind.{TokenKind}
use Rattle.hc_lex.specs.declared.token.TokenKind.TheVariants as kind
use Rattle.hc_grammar.specs.Lexemes.{Lexeme}

-- each keyword has a number of its own
abbrev pub keyword_number : Keyword → ℕ
keyword_number word.And = 0
keyword_number word.As = 1
keyword_number word.Begin = 2
keyword_number word.Between = 3
keyword_number word.Blob = 4
keyword_number word.By = 5
keyword_number word.Commit = 6
keyword_number word.Concurrent = 7
keyword_number word.Create = 8
keyword_number word.Cross = 9
keyword_number word.Deferred = 10
keyword_number word.Delete = 11
keyword_number word.Distinct = 12
keyword_number word.Drop = 13
keyword_number word.End = 14
keyword_number word.Exists = 15
keyword_number word.From = 16
keyword_number word.Group = 17
keyword_number word.Having = 18
keyword_number word.If = 19
keyword_number word.In = 20
keyword_number word.Index = 21
keyword_number word.Inner = 22
keyword_number word.Insert = 23
keyword_number word.Integer = 24
keyword_number word.Into = 25
keyword_number word.Is = 26
keyword_number word.Join = 27
keyword_number word.Key = 28
keyword_number word.Like = 29
keyword_number word.Limit = 30
keyword_number word.Not = 31
keyword_number word.Null = 32
keyword_number word.Offset = 33
keyword_number word.On = 34
keyword_number word.Or = 35
keyword_number word.Order = 36
keyword_number word.Primary = 37
keyword_number word.Release = 38
keyword_number word.Rollback = 39
keyword_number word.Savepoint = 40
keyword_number word.Select = 41
keyword_number word.Set = 42
keyword_number word.Strict = 43
keyword_number word.Table = 44
keyword_number word.Text = 45
keyword_number word.To = 46
keyword_number word.Transaction = 47
keyword_number word.Unique = 48
keyword_number word.Update = 49
keyword_number word.Values = 50
keyword_number word.Where = 51

-- Each kind has a number of its own. Integers have one, but 9223372036854775808 has another, since it is no literal,
-- and greater ones have a third.
abbrev pub kind_number : TokenKind → ℕ
kind_number kind.Name = 0
kind_number kind.QuotedName = 1
kind_number (kind.Integer n) = if nat_lt n (2 ^ 63) then 2 else (if n == 2 ^ 63 then 76 else 77)
kind_number kind.Text = 3
kind_number kind.Blob = 4
kind_number kind.LeftParen = 5
kind_number kind.RightParen = 6
kind_number kind.Comma = 7
kind_number kind.Dot = 8
kind_number kind.Plus = 9
kind_number kind.Minus = 10
kind_number kind.Star = 11
kind_number kind.Slash = 12
kind_number kind.Percent = 13
kind_number kind.Equal = 14
kind_number kind.DoubleEqual = 15
kind_number kind.Less = 16
kind_number kind.LessEqual = 17
kind_number kind.Greater = 18
kind_number kind.GreaterEqual = 19
kind_number kind.LessGreater = 20
kind_number kind.NotEqual = 21
kind_number kind.DoubleBar = 22
kind_number kind.Semicolon = 23
kind_number (kind.Keyword k) = 24 + keyword_number k

-- the lexeme is of this kind
abbrev pub is : TokenKind → Lexeme → Bool
is expected lexeme = kind_number lexeme.kind == kind_number expected

-- the lexeme is of one of these kinds
abbrev pub among : List TokenKind → Lexeme → Bool
among [] lexeme = false
among (expected ∷ others) lexeme = is expected lexeme || among others lexeme

-- the first lexeme passes the test, and there is one
abbrev pub head_is : (Lexeme → Bool) → List Lexeme → Bool
head_is test [] = false
head_is test (lexeme ∷ rest) = test lexeme

-- none of these kinds is first
abbrev pub Ends : List TokenKind → List Lexeme → Type 0
Ends kinds rest = head_is (among kinds) rest ≡ false

-- one of these kinds is first
abbrev pub Starts : List TokenKind → List Lexeme → Type 0
Starts kinds front = head_is (among kinds) front ≡ true
