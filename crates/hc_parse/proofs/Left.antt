-- What is left after one lexeme more, and tests of the first one.
use Rattle.std.proofs.Common.{length, ◌-◌, length-drop, ◌≡◌, refl, sym, ap, ◌∙◌, ℕ, zero, suc, ◌+◌, Bool, true, false, ◌||◌, ◌&&◌, List, [], ◌∷◌, drop, add-one}
use Rattle.hc_lex.specs.declared.token.Token.{Token}
use Rattle.std.proofs.lemmas.List.{length-map}
use Rattle.hc_lex.specs.declared.token.TokenKind.{TokenKind}
use Rattle.hc_grammar.specs.Kinds.{is, among, head_is}
use Rattle.hc_lex.specs.declared.token.TokenKind.TheVariants as kind
use Rattle.hc_grammar.specs.Places.{begins_all_of}
use Rattle.hc_grammar.specs.Lexemes.{Lexeme, lexemes_of}

after_suc : (text : List ℕ) (n : ℕ) (tokens : List Token) → lexemes_of text (drop (suc n) tokens) ≡ drop 1 (lexemes_of text (drop n tokens))
after_suc text zero [] = refl
after_suc text zero (token ∷ tokens) = refl
after_suc text (suc n) [] = refl
after_suc text (suc n) (token ∷ tokens) = after_suc text n tokens

pub after_one : (text : List ℕ) (n : ℕ) (tokens : List Token) → lexemes_of text (drop (n + 1) tokens) ≡ drop 1 (lexemes_of text (drop n tokens))
after_one text n tokens = rw add-one (after_suc text n tokens)

pub among_none : (tokens : List Lexeme) → head_is (among []) tokens ≡ false
among_none [] = refl
among_none (lexeme ∷ rest) = refl

or_false : (b : Bool) → (b || false) ≡ b
or_false true = refl
or_false false = refl

pub among_one : (kind : TokenKind) (tokens : List Lexeme) → head_is (among (kind ∷ [])) tokens ≡ head_is (is kind) tokens
among_one kind [] = refl
among_one kind (lexeme ∷ rest) = or_false (is kind lexeme)

pub among_more : (kind : TokenKind) (kinds : List TokenKind) (tokens : List Lexeme) →
    head_is (among (kind ∷ kinds)) tokens ≡ (head_is (is kind) tokens || head_is (among kinds) tokens)
among_more kind kinds [] = refl
among_more kind kinds (lexeme ∷ rest) = refl

and_false : (b : Bool) → (b && false) ≡ false
and_false true = refl
and_false false = refl

pub all_of_is : (tokens : List Lexeme) → begins_all_of tokens
    ≡ (head_is (among (kind.Name ∷ kind.QuotedName ∷ [])) tokens && (head_is (is kind.Dot) (drop 1 tokens) && head_is (is kind.Star) (drop 1 (drop 1 tokens))))
all_of_is [] = refl
all_of_is (a ∷ []) = sym (and_false (among (kind.Name ∷ kind.QuotedName ∷ []) a))
all_of_is (a ∷ b ∷ []) = sym (ap (λ t. among (kind.Name ∷ kind.QuotedName ∷ []) a && t) (and_false (is kind.Dot b)) ∙ and_false (among (kind.Name ∷ kind.QuotedName ∷ []) a))
all_of_is (a ∷ b ∷ c ∷ rest) = refl

-- how many are left
pub length_left : (text : List ℕ) (n : ℕ) (tokens : List Token) → length (lexemes_of text (drop n tokens)) ≡ length tokens - n
length_left text n tokens = simp (length-map, length-drop)
