-- Keywords, signs, names and texts, as canonical text writes them, are tokens before a space or the end.
use Rattle.std.proofs.Common.{◌≡◌, ◌<◌, refl, subst, ℕ, arith, ◌==◌, ◌&&◌, Bool, true, false, List, [], ◌∷◌, ◌++◌, codes, Some}
use Rattle.std.specs.Prelude.{if◌then◌else◌}
use Rattle.std.proofs.lemmas.Bool.{and_parts}
use Rattle.hc_text.specs.Quotes.{quoted}
use Rattle.hc_lex.specs.declared.character.Class.{Class}
use Rattle.hc_lex.specs.declared.character.Class.TheVariants as class
use Rattle.hc_lex.specs.declared.character.Run.TheVariants as run
use Rattle.hc_lex.specs.declared.keyword.Keyword.{Keyword}
use Rattle.hc_lex.specs.declared.keyword.Keyword.TheVariants as word
use Rattle.hc_lex.specs.declared.token.TokenKind.{TokenKind}
use Rattle.hc_lex.specs.declared.token.TokenKind.TheVariants as kind
use Rattle.hc_lex.specs.Characters.{class_of, Begins, BeginsWith, IsRun, is_in, goes_on_with_name}
use Rattle.hc_lex.specs.Keywords.{keyword_of, table}
use Rattle.hc_lex.specs.Quotes.{IsQuoted}
use Rattle.hc_lex.specs.Tokens.{IsWord, BeginsBlob}
use Rattle.hc_ast.specs.Words.{name_word}
use Rattle.hc_grammar.specs.Lexemes.{Lexeme}
use Rattle.hc_grammar.specs.Kinds.{keyword_number}
use Rattle.hc_grammar.proofs.Again.Apart.{IsApart}

-- a lexeme of a kind with a text
abbrev pub of : TokenKind → List ℕ → Lexeme
of k text = record { kind = k; text = text }

-- the letters of a keyword, in the table of keywords
abbrev letters_in : List (List ℕ × Keyword) → Keyword → List ℕ
letters_in [] k = []
letters_in (entry ∷ entries) k = if keyword_number entry.1 == keyword_number k then entry.0 else letters_in entries k

unfoldable pub spelled : Keyword → List ℕ
unfolding table
spelled k = letters_in table k

abbrev is_letter : ℕ → Bool
is_letter b = elim (class_of b) [ class.Letter ↦ true | c ↦ false ]

-- a letter, and letters after it
abbrev are_letters : List ℕ → Bool
are_letters [] = true
are_letters (b ∷ bytes) = is_letter b && are_letters bytes

abbrev begins_so : List ℕ → Bool
begins_so [] = false
begins_so (b ∷ bytes) = is_letter b && are_letters bytes

-- they are letters, and the keyword's
letters : (k : Keyword) → begins_so (spelled k) ≡ true
unfolding spelled table class_of
letters word.And = refl
letters _ = refl

is_keyword : (k : Keyword) → keyword_of (spelled k) ≡ Some k
unfolding spelled table keyword_of
is_keyword word.And = refl
is_keyword _ = refl

letter_class : (c : Class) → elim c [ class.Letter ↦ true | d ↦ false ] ≡ true → c ≡ class.Letter
letter_class class.Letter h = refl
letter_class class.Space h = absurd (cc)
letter_class _ h = absurd (cc)

is_name : (b : ℕ) → is_letter b ≡ true → is_in run.Name b ≡ true
is_name b h = by (class_of b) h
  where
    by : (c : Class) → elim c [ class.Letter ↦ true | d ↦ false ] ≡ true → goes_on_with_name c ≡ true
    by class.Letter h = refl
    by class.Space h = absurd (cc)
    by _ h = absurd (cc)

run_of_letters : (text : List ℕ) → are_letters text ≡ true → IsRun run.Name text
run_of_letters [] h = tt
run_of_letters (b ∷ bytes) h = let p = and_parts (is_letter b) (are_letters bytes) h in (is_name b p.0, run_of_letters bytes p.1)

-- a quote is no part of a name
no_quote : (b : ℕ) → is_in run.Name b ≡ true → b ≡ 39 → ⊥
unfolding class_of
no_quote b is same = absurd (let bad : is_in run.Name 39 ≡ true = subst (λ c. is_in run.Name c ≡ true) same is in cc)

second : (b c mark : ℕ) (bytes following : List ℕ) → b ∷ c ∷ bytes ≡ mark ∷ 39 ∷ following → c ≡ 39
second b c mark bytes following e = cc

-- letters begin no blob where the end or a space follows
no_blob_at_end : (text : List ℕ) → begins_so text ≡ true → ¬ BeginsBlob (text ++ [])
no_blob_at_end [] is blob = absurd (cc)
no_blob_at_end (b ∷ []) is blob = absurd (let bad : b ∷ [] ≡ blob.0 ∷ 39 ∷ blob.1 = blob.3 in cc)
no_blob_at_end (b ∷ c ∷ bytes) is blob =
    let p = and_parts (is_letter b) (are_letters (c ∷ bytes)) is in
    let q = and_parts (is_letter c) (are_letters bytes) p.1 in
    no_quote c (is_name c q.0) (second b c blob.0 (bytes ++ []) blob.1 blob.3)

no_blob_at_space : (text more : List ℕ) → begins_so text ≡ true → ¬ BeginsBlob (text ++ 32 ∷ more)
no_blob_at_space [] more is blob = absurd (cc)
no_blob_at_space (b ∷ []) more is blob = absurd (let bad : 32 ≡ 39 = second b 32 blob.0 more blob.1 blob.3 in omega (arith, bad))
no_blob_at_space (b ∷ c ∷ bytes) more is blob =
    let p = and_parts (is_letter b) (are_letters (c ∷ bytes)) is in
    let q = and_parts (is_letter c) (are_letters bytes) p.1 in
    no_quote c (is_name c q.0) (second b c blob.0 (bytes ++ 32 ∷ more) blob.1 blob.3)

begins_word : (text : List ℕ) → begins_so text ≡ true → Begins (λ b. class_of b ≡ class.Letter) text × IsRun run.Name text
begins_word [] h = absurd (cc)
begins_word (b ∷ bytes) h =
    let p = and_parts (is_letter b) (are_letters bytes) h in (letter_class (class_of b) p.0, (is_name b p.0, run_of_letters bytes p.1))

-- letters are a word before the end or a space
word_at_end : (text : List ℕ) → begins_so text ≡ true → IsWord text []
word_at_end text is = let p = begins_word text is in (p.0, p.1, (λ b. b), no_blob_at_end text is)

word_at_space : (text more : List ℕ) → begins_so text ≡ true → IsWord text (32 ∷ more)
unfolding class_of
word_at_space text more is = let p = begins_word text is in (p.0, p.1, (λ b. absurd (let bad : false ≡ true = b in cc)), no_blob_at_space text more is)

-- a keyword
pub keyword : (k : Keyword) → IsApart (of (kind.Keyword k) (spelled k))
keyword k = ((word_at_end (spelled k) (letters k), is_keyword k), λ more. (word_at_space (spelled k) more (letters k), is_keyword k))

-- ASC and DESC
pub asc : IsApart (of kind.Name (codes "ASC"))
unfolding class_of keyword_of table
asc = ((word_at_end (codes "ASC") refl, refl), λ more. (word_at_space (codes "ASC") more refl, refl))

pub desc : IsApart (of kind.Name (codes "DESC"))
unfolding class_of keyword_of table
desc = ((word_at_end (codes "DESC") refl, refl), λ more. (word_at_space (codes "DESC") more refl, refl))

-- a space is no other sign
not_before_space : (b : ℕ) (more : List ℕ) → 32 < b → ¬ BeginsWith b (32 ∷ more)
not_before_space b more above same = omega (arith, same)

-- what is quoted is a quoted token
is_quoted : (quote : ℕ) (inner rest : List ℕ) → ¬ BeginsWith quote rest → IsQuoted quote (quoted quote inner) rest
is_quoted quote inner rest ends = (inner, refl, ends)

-- a name
pub name : (letters : List ℕ) → IsApart (of kind.QuotedName (name_word letters))
name letters = (is_quoted 34 letters [] (λ b. b), λ more. is_quoted 34 letters (32 ∷ more) (not_before_space 34 more (omega arith)))

-- a text
pub text : (value : List ℕ) → IsApart (of kind.Text (quoted 39 value))
text value = (is_quoted 39 value [] (λ b. b), λ more. is_quoted 39 value (32 ∷ more) (not_before_space 39 more (omega arith)))

-- signs that no other sign begins
pub left_paren : IsApart (of kind.LeftParen (codes "("))
left_paren = (refl, λ more. refl)

abbrev pub paren : Lexeme
paren = of kind.RightParen (codes ")")

pub right_paren : IsApart (of kind.RightParen (codes ")"))
right_paren = (refl, λ more. refl)

pub comma : IsApart (of kind.Comma (codes ","))
comma = (refl, λ more. refl)

pub dot : IsApart (of kind.Dot (codes "."))
dot = (refl, λ more. refl)

pub plus : IsApart (of kind.Plus (codes "+"))
plus = (refl, λ more. refl)

pub star : IsApart (of kind.Star (codes "*"))
star = (refl, λ more. refl)

pub percent : IsApart (of kind.Percent (codes "%"))
percent = (refl, λ more. refl)

pub less_equal : IsApart (of kind.LessEqual (codes "<="))
less_equal = (refl, λ more. refl)

pub greater_equal : IsApart (of kind.GreaterEqual (codes ">="))
greater_equal = (refl, λ more. refl)

pub less_greater : IsApart (of kind.LessGreater (codes "<>"))
less_greater = (refl, λ more. refl)

pub double_bar : IsApart (of kind.DoubleBar (codes "||"))
double_bar = (refl, λ more. refl)

-- signs that begin others
pub minus : IsApart (of kind.Minus (codes "-"))
minus = ((refl, λ b. b), λ more. (refl, not_before_space 45 more (omega arith)))

pub slash : IsApart (of kind.Slash (codes "/"))
slash = ((refl, λ b. b), λ more. (refl, not_before_space 42 more (omega arith)))

pub equal : IsApart (of kind.Equal (codes "="))
equal = ((refl, λ b. b), λ more. (refl, not_before_space 61 more (omega arith)))

pub less : IsApart (of kind.Less (codes "<"))
less = ((refl, (λ b. b), λ b. b), λ more. (refl, not_before_space 61 more (omega arith), not_before_space 62 more (omega arith)))

pub greater : IsApart (of kind.Greater (codes ">"))
greater = ((refl, λ b. b), λ more. (refl, not_before_space 61 more (omega arith)))
