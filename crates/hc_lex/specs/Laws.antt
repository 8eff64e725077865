-- Laws of these definitions, each shown by a function of `laws` with an empty body.
use Rattle.std.specs.Prelude.{◌≡◌, ◌≢◌, ◌⊎◌, ℕ, List, ◌∷◌, ◌++◌, length}
use Rattle.std.specs.List.{AllByRecursion, slice_range}
use Rattle.std.specs.Str.{IsUtf8}
use Rattle.hc_lex.specs.declared.fault.LexFault.{LexFault}
use Rattle.hc_lex.specs.declared.fault.LexKind.{LexKind}
use Rattle.hc_lex.specs.declared.statements.Span.{Span}
use Rattle.hc_lex.specs.declared.token.Token.{Token}
use Rattle.hc_lex.specs.declared.token.TokenKind.TheVariants.{Semicolon}
use Rattle.hc_lex.specs.Places.{SpansAscend, SpansAtCharacters, TokensAscend, TokensAtCharacters}
use Rattle.hc_lex.specs.Reading.{HasFault, HasFaultAfter, HasTokens, HasTokensBetween, IsFaultOf}
use Rattle.hc_lex.specs.Statements.{HasStatements}

-- whatever the text is, one list of tokens at most is its own
abbrev pub HasOneListOfTokens : Type 0
HasOneListOfTokens = (text : List ℕ) (one other : List Token) → HasTokens text one → HasTokens text other → one ≡ other

-- a text that has tokens has no fault
abbrev pub HasNotTokensAndFault : Type 0
HasNotTokensAndFault = (text : List ℕ) (tokens : List Token) (at : ℕ) (kind : LexKind) → HasTokens text tokens → HasFault text at kind → ⊥

-- a text has one fault of least place at most, of one kind
abbrev pub HasOneFault : Type 0
HasOneFault = (text : List ℕ) (at place : ℕ) (kind other : LexKind) → HasFault text at kind → HasFault text place other → (at ≡ place) × (kind ≡ other)

-- whatever the script is, one list of statements at most is its own
abbrev pub HasOneListOfStatements : Type 0
HasOneListOfStatements = (text : List ℕ) (one other : List Span) → HasStatements text one → HasStatements text other → one ≡ other

-- tokens lie in their text, one after another
abbrev pub TokensLieInOrder : Type 0
TokensLieInOrder = (text : List ℕ) (tokens : List Token) → HasTokens text tokens → TokensAscend 0 (length text) tokens

-- statements lie in their script, one after another
abbrev pub StatementsLieInOrder : Type 0
StatementsLieInOrder = (text : List ℕ) (spans : List Span) → HasStatements text spans → SpansAscend 0 (length text) spans

-- tokens of UTF-8 begin and end between its characters
abbrev pub TokensLieAtCharacters : Type 0
TokensLieAtCharacters = (text : List ℕ) (tokens : List Token) → IsUtf8 text → HasTokens text tokens → TokensAtCharacters text tokens

-- statements of UTF-8 begin and end between its characters
abbrev pub StatementsLieAtCharacters : Type 0
StatementsLieAtCharacters = (text : List ℕ) (spans : List Span) → IsUtf8 text → HasStatements text spans → SpansAtCharacters text spans

-- each text has tokens or a fault
abbrev pub EachTextHasTokensOrFault : Type 0
EachTextHasTokensOrFault = (text : List ℕ) → ((tokens : List Token) × HasTokens text tokens) ⊎ ((at : ℕ) × (kind : LexKind) × HasFault text at kind)

-- each script has a list of statements, which may be empty
abbrev pub EachScriptHasStatements : Type 0
EachScriptHasStatements = (text : List ℕ) → (spans : List Span) × HasStatements text spans

-- what a statement's text is read as: none of its tokens is a `;`, and there is a first one, at the first byte
abbrev pub IsOneStatement : List Token → Type 0
IsOneStatement tokens = AllByRecursion (λ token. token.kind ≢ Semicolon) tokens
    × (first : Token) × (others : List Token) × (tokens ≡ first ∷ others) × (first.from ≡ 0)

-- each statement of a script whose bytes have tokens is one by itself
abbrev pub StatementsAreCutOut : Type 0
StatementsAreCutOut = (text : List ℕ) (spans : List Span) → HasStatements text spans
    → AllByRecursion (λ span. (tokens : List Token) → HasTokens (slice_range text span.from span.to) tokens → IsOneStatement tokens) spans

-- what was read of a text's tokens are its first ones, and the others are after it
abbrev pub ReadTokensComeFirst : Type 0
ReadTokensComeFirst = (text : List ℕ) (tokens read : List Token) (at : ℕ) → HasTokens text tokens → HasTokensBetween text 0 at read
    → (others : List Token) × (tokens ≡ read ++ others) × HasTokensBetween text at (length text) others

-- tokens up to a place and those from there on are those of both stretches
abbrev pub TokensAreJoined : Type 0
TokensAreJoined = (text : List ℕ) (from at to : ℕ) (tokens others : List Token) → HasTokensBetween text from at tokens → HasTokensBetween text at to others → HasTokensBetween text from to (tokens ++ others)

-- the tokens from the start of a text to its end are those of the text
abbrev pub AllTokensAreRead : Type 0
AllTokensAreRead = (text : List ℕ) (tokens : List Token) → HasTokensBetween text 0 (length text) tokens → HasTokens text tokens

-- a fault after tokens is the text's
abbrev pub FaultAfterTokens : Type 0
FaultAfterTokens = (text : List ℕ) (at : ℕ) (tokens : List Token) (fault : LexFault) → HasTokensBetween text 0 at tokens → HasFaultAfter text at fault → IsFaultOf text fault
