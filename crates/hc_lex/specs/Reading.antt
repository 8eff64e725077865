-- The tokens of a text, and its fault of least place.
use Rattle.std.specs.Prelude.{◌≡◌, ◌≤◌, ◌<◌, ℕ, ◌+◌, drop, List, [], ◌∷◌, ◌++◌, length, Option, Some, None, Result, Ok, Err, ⊤}
use Rattle.hc_lex.specs.declared.fault.LexFault.{LexFault}
use Rattle.hc_lex.specs.declared.fault.LexFault.TheVariants.{Bad, NoMemory}
use Rattle.hc_lex.specs.declared.fault.LexKind.{LexKind}
use Rattle.hc_lex.specs.declared.token.Token.{Token}
use Rattle.hc_lex.specs.declared.token.TokenKind.{TokenKind}
use Rattle.hc_lex.specs.Blanks.{IsBlank}
use Rattle.hc_lex.specs.Flaws.{IsFlaw}
use Rattle.hc_lex.specs.Pieces.{Piece, Front}
use Rattle.hc_lex.specs.Tokens.{IsToken}

-- a token of this kind, or what is between tokens
abbrev pub IsTokenOrBlank : Option TokenKind → List ℕ → List ℕ → Type 0
IsTokenOrBlank None text rest = IsBlank text rest
IsTokenOrBlank (Some kind) text rest = IsToken kind text rest

-- the token that a piece is, with its place
abbrev pub token_if : Option TokenKind → ℕ → ℕ → List Token
token_if None from to = []
token_if (Some kind) from to = record { kind = kind; from = from; to = to } ∷ []

-- the tokens among pieces of which the first is at the place `at`
abbrev pub tokens_of : ℕ → List (Piece (Option TokenKind)) → List Token
tokens_of at [] = []
tokens_of at (piece ∷ pieces) =
    token_if piece.kind at (at + length piece.text) ++ tokens_of (at + length piece.text) pieces

-- the bytes begin with spaces and comments, and `rest` follows them
abbrev pub AreBlanks : List ℕ → List ℕ → Type 0
AreBlanks bytes rest = (pieces : List (Piece (Option TokenKind))) × Front IsTokenOrBlank pieces bytes rest × ((at : ℕ) → tokens_of at pieces ≡ [])

-- from one place of the text up to another there are tokens, spaces and comments, and these are the tokens
abbrev pub HasTokensBetween : List ℕ → ℕ → ℕ → List Token → Type 0
HasTokensBetween text from to tokens = (pieces : List (Piece (Option TokenKind))) × Front IsTokenOrBlank pieces (drop from text) (drop to text)
    × (tokens ≡ tokens_of from pieces) × (from ≤ to) × (to ≤ length text)

-- from a place on there is nothing but spaces and comments, or after them comes this token
abbrev pub IsNextToken : List ℕ → ℕ → Option Token → Type 0
IsNextToken text from None = HasTokensBetween text from (length text) []
IsNextToken text from (Some token) = HasTokensBetween text from token.to (token ∷ []) × (from < token.to)

-- the text is tokens, spaces and comments, and these are its tokens
abbrev pub HasTokens : List ℕ → List Token → Type 0
HasTokens text tokens = (pieces : List (Piece (Option TokenKind))) × Front IsTokenOrBlank pieces text [] × (tokens ≡ tokens_of 0 pieces)

-- After a place there are spaces and comments up to `rest`, and there no token begins.
abbrev pub HasFaultAfter : List ℕ → ℕ → LexFault → Type 0
HasFaultAfter text from (Bad at kind) = (rest : List ℕ) × (offset : ℕ) × AreBlanks (drop from text) rest
    × IsFlaw kind offset rest × (at + length rest ≡ length text + offset)
HasFaultAfter text from NoMemory = ⊥

-- The text begins with tokens, spaces and comments up to `rest`, where none begins. So no fault has a lower
-- place than this one.
abbrev pub HasFault : List ℕ → ℕ → LexKind → Type 0
HasFault text at kind = (pieces : List (Piece (Option TokenKind))) × (rest : List ℕ) × (offset : ℕ) × Front IsTokenOrBlank pieces text rest
    × IsFlaw kind offset rest × (at + length rest ≡ length text + offset)

-- the cause of a fault that is answered for the text
abbrev pub IsFaultOf : List ℕ → LexFault → Type 0
IsFaultOf text (Bad at kind) = HasFault text at kind
IsFaultOf text NoMemory = ⊤

-- the answer is this one, unless memory ran out
abbrev pub IsUnlessNoMemory : Result (List Token) LexFault → Result (List Token) LexFault → Type 0
IsUnlessNoMemory (Err NoMemory) answer = ⊤
IsUnlessNoMemory (Err (Bad at kind)) answer = answer ≡ Err (Bad at kind)
IsUnlessNoMemory (Ok tokens) answer = answer ≡ Ok tokens
