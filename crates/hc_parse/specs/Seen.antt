-- What the code has left to read.
use Rattle.std.specs.Prelude.{ℕ, ◌≡◌, Bool, true, ◌==◌, if◌then◌else◌, List, [], ◌∷◌, drop, Option, Some, None}
use Rattle.hc_lex.specs.declared.token.TokenKind.{TokenKind}
use Rattle.hc_lex.specs.declared.token.Token.{Token}
use Rattle.hc_parse.specs.declared.cursor.Cursor.{Cursor}
use Rattle.hc_parse.specs.declared.source.Source.{Source}
use Rattle.hc_parse.specs.declared.source.Piece.{Piece}
use Rattle.hc_grammar.specs.Lexemes.{Lexeme, lexemes_of}
use Rattle.hc_grammar.specs.Runs.{Budget}

-- the lexemes of a text from the cursor on
abbrev pub left : Source → Cursor → List Lexeme
left source cursor = lexemes_of source.text.now (drop cursor.at source.tokens.now)

-- the kind of the first lexeme
abbrev pub next_kind : List Lexeme → Option TokenKind
next_kind [] = None
next_kind (lexeme ∷ rest) = Some lexeme.kind

-- how many operators and tables may still come
abbrev pub budget_of : Cursor → Budget
budget_of cursor = record { operators = cursor.operators; tables = cursor.tables }

-- the first lexeme
abbrev pub head_of : List Lexeme → Option Lexeme
head_of [] = None
head_of (lexeme ∷ rest) = Some lexeme

-- a token with its text as a lexeme
abbrev pub lexeme_seen : Piece → Lexeme
lexeme_seen piece = record { kind = piece.kind; text = piece.text.now }
