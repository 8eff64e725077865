-- Places of tokens and statements in their text.
use Rattle.std.specs.Prelude.{ℕ, ◌<◌, ◌≤◌, List, [], ◌∷◌}
use Rattle.std.specs.List.{AllByRecursion}
use Rattle.std.specs.Str.{IsCharBoundary}
use Rattle.hc_lex.specs.declared.statements.Span.{Span}
use Rattle.hc_lex.specs.declared.token.Token.{Token}

-- From the place `low` up to `high`: each token has a byte at least, and none begins before the one in front ends.
abbrev pub TokensAscend : ℕ → ℕ → List Token → Type 0
TokensAscend low high [] = low ≤ high
TokensAscend low high (token ∷ tokens) = (low ≤ token.from) × (token.from < token.to) × TokensAscend token.to high tokens

-- the same of statements
abbrev pub SpansAscend : ℕ → ℕ → List Span → Type 0
SpansAscend low high [] = low ≤ high
SpansAscend low high (span ∷ spans) = (low ≤ span.from) × (span.from < span.to) × SpansAscend span.to high spans

-- each token begins and ends between characters of the text, so its bytes are a text
abbrev pub TokensAtCharacters : List ℕ → List Token → Type 0
TokensAtCharacters text tokens = AllByRecursion (λ token. IsCharBoundary text token.from × IsCharBoundary text token.to) tokens

-- the same of statements
abbrev pub SpansAtCharacters : List ℕ → List Span → Type 0
SpansAtCharacters text spans = AllByRecursion (λ span. IsCharBoundary text span.from × IsCharBoundary text span.to) spans
