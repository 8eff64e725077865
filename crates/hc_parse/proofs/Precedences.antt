-- Operators by the kinds of their first lexemes.
use Rattle.std.proofs.Common.{◌≡◌, refl, ℕ, ◌==◌, ◌||◌, Bool, true, false, if◌then◌else◌, List, [], ◌∷◌}
use Rattle.std.specs.Prelude.{nat_lt, ◌^◌}
use Rattle.hc_lex.specs.declared.token.TokenKind.{TokenKind}
use Rattle.hc_lex.specs.declared.token.TokenKind.TheVariants as kind
use Rattle.hc_lex.specs.declared.keyword.Keyword.{Keyword}
use Rattle.hc_lex.specs.declared.keyword.Keyword.TheVariants as word
use Rattle.hc_grammar.specs.Lexemes.{Lexeme}
use Rattle.hc_grammar.specs.Climbing.{next_precedence}
use Rattle.std.specs.Option.{option_map_or}
use Rattle.std.proofs.Common.{Option, Some, None}
use Rattle.hc_ast.specs.declared.operator.BinaryOp.{BinaryOp}
use Rattle.hc_parse.specs.Seen.{next_kind}
use Rattle.hc_parse.specs.Tails.{next_sign, precedence_of, sign_of}

-- what is found for a kind of this number
abbrev by_number : ℕ → ℕ
by_number m =
    if m == 59 || false then 1
    else (if m == 24 || false then 2
    else (if m == 14 || (m == 15 || (m == 20 || (m == 21 || (m == 50 || (m == 55 || (m == 44 || (m == 53 || (m == 27 || false)))))))) then 4
    else (if m == 16 || (m == 17 || (m == 18 || (m == 19 || false))) then 5
    else (if m == 9 || (m == 10 || false) then 6
    else (if m == 11 || (m == 12 || (m == 13 || false)) then 7
    else (if m == 22 || false then 8 else 0))))))

no_integer : (a b : Bool) → by_number (if a then 2 else (if b then 76 else 77)) ≡ 0
no_integer true b = refl
no_integer false true = refl
no_integer false false = refl

word_is : (k : Keyword) (text : List ℕ) (rest : List Lexeme) → next_precedence (record { kind = kind.Keyword k; text = text } ∷ rest) ≡ precedence_of (kind.Keyword k)
word_is word.Or text rest = refl
word_is other text rest = refl

kind_is : (k : TokenKind) (text : List ℕ) (rest : List Lexeme) → next_precedence (record { kind = k; text = text } ∷ rest) ≡ precedence_of k
kind_is (kind.Keyword k) text rest = word_is k text rest
kind_is (kind.Integer n) text rest = no_integer (nat_lt n (2 ^ 63)) (n == 2 ^ 63)
kind_is other text rest = refl

pub lexeme_is : (lexeme : Lexeme) (rest : List Lexeme) → next_precedence (lexeme ∷ rest) ≡ precedence_of lexeme.kind
lexeme_is lexeme rest = kind_is lexeme.kind lexeme.text rest

-- by the kind that is next
pub next_is : (tokens : List Lexeme) → next_precedence tokens ≡ option_map_or precedence_of (next_kind tokens) 0
next_is [] = refl
next_is (lexeme ∷ rest) = lexeme_is lexeme rest

pub sign_is : (tokens : List Lexeme) → next_sign tokens ≡ elim (next_kind tokens) [ None ↦ None | Some k ↦ sign_of k ]
sign_is [] = refl
sign_is (lexeme ∷ rest) = refl
