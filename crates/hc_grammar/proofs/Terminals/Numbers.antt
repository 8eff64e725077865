-- A kind is told by its number, but for integers below 2^63 and above.
use Rattle.std.proofs.Common.{◌≡◌, ◌⊎◌, inl, inr, ap, ◌-◌, ◌^◌, ◌∙◌, ◌&&◌, not, ℕ, ◌==◌, Bool, true, false, List, [], ◌∷◌, cond, refl, sym}
use Rattle.std.specs.Prelude.{nat_lt, if◌then◌else◌}
use Rattle.std.proofs.lemmas.Bool.{eqb-true, eq-eqb}
use Rattle.hc_lex.specs.declared.keyword.Keyword.{Keyword}
use Rattle.hc_lex.specs.declared.keyword.Keyword.TheVariants as word
use Rattle.hc_lex.specs.declared.token.TokenKind.{TokenKind}
use Rattle.hc_lex.specs.declared.token.TokenKind.TheVariants as kind
use Rattle.hc_grammar.specs.Lexemes.{Lexeme}
use Rattle.hc_grammar.specs.Kinds.{keyword_number, kind_number, is}
use Rattle.hc_grammar.specs.First.{is_plain}

-- all keywords
abbrev keywords : List Keyword
keywords =
    word.And ∷ word.As ∷ word.Begin ∷ word.Between ∷ word.Blob ∷ word.By ∷ word.Commit ∷ word.Concurrent ∷ word.Create ∷ word.Cross ∷ word.Deferred ∷
    word.Delete ∷ word.Distinct ∷ word.Drop ∷ word.End ∷ word.Exists ∷ word.From ∷ word.Group ∷ word.Having ∷ word.If ∷ word.In ∷ word.Index ∷
    word.Inner ∷ word.Insert ∷ word.Integer ∷ word.Into ∷ word.Is ∷ word.Join ∷ word.Key ∷ word.Like ∷ word.Limit ∷ word.Not ∷ word.Null ∷
    word.Offset ∷ word.On ∷ word.Or ∷ word.Order ∷ word.Primary ∷ word.Release ∷ word.Rollback ∷ word.Savepoint ∷ word.Select ∷ word.Set ∷
    word.Strict ∷ word.Table ∷ word.Text ∷ word.To ∷ word.Transaction ∷ word.Unique ∷ word.Update ∷ word.Values ∷ word.Where ∷ []

-- all kinds that are told by their number, but keywords
abbrev signs : List TokenKind
signs =
    kind.Name ∷ kind.QuotedName ∷ kind.Text ∷ kind.Blob ∷ kind.LeftParen ∷ kind.RightParen ∷ kind.Comma ∷ kind.Dot ∷ kind.Plus ∷ kind.Minus ∷
    kind.Star ∷ kind.Slash ∷ kind.Percent ∷ kind.Equal ∷ kind.DoubleEqual ∷ kind.Less ∷ kind.LessEqual ∷ kind.Greater ∷ kind.GreaterEqual ∷
    kind.LessGreater ∷ kind.NotEqual ∷ kind.DoubleBar ∷ kind.Semicolon ∷ kind.Integer (2 ^ 63) ∷ []

-- the keyword with this number
abbrev keyword_of : List Keyword → ℕ → Keyword
keyword_of [] n = word.And
keyword_of (k ∷ ks) n = cond (keyword_number k == n) k (keyword_of ks n)

-- the kind with this number
abbrev kind_of : List TokenKind → ℕ → TokenKind
kind_of [] n = kind.Keyword (keyword_of keywords (n - 24))
kind_of (k ∷ ks) n = cond (kind_number k == n) k (kind_of ks n)

-- the number of a kind tells it, or the kind is not plain
abbrev Told : TokenKind → Type 0
Told k = (is_plain k ≡ false) ⊎ (kind_of signs (kind_number k) ≡ k)

integer_told : (n : ℕ) (small least : Bool) → nat_lt n (2 ^ 63) ≡ small → (n == 2 ^ 63) ≡ least → Told (kind.Integer n)
integer_told n true least s l = inl (ap (λ b. let m : ℕ = if b then 2 else (if n == 2 ^ 63 then 76 else 77) in not (m == 2) && not (m == 77)) s)
integer_told n false false s l = inl (ap (λ b. let m : ℕ = if b then 2 else (if n == 2 ^ 63 then 76 else 77) in not (m == 2) && not (m == 77)) s ∙ ap (λ b. let m : ℕ = if b then 76 else 77 in not (m == 2) && not (m == 77)) l)
integer_told n false true s l = inr (ap (λ m. kind_of signs (kind_number (kind.Integer m))) (eqb-true n (2 ^ 63) l) ∙ ap (λ m. kind.Integer m) (sym (eqb-true n (2 ^ 63) l)))

word_told : (w : Keyword) → Told (kind.Keyword w)
word_told word.And = inr refl
word_told _ = inr refl

told : (k : TokenKind) → Told k
told (kind.Integer n) = integer_told n (nat_lt n (2 ^ 63)) (n == 2 ^ 63) refl refl
told (kind.Keyword w) = word_told w
told _ = inr refl

-- plain kinds with the same number are the same
same_kind : (this other : TokenKind) → is_plain other ≡ true → kind_number this ≡ kind_number other → this ≡ other
same_kind this other is same = by (told this) (told other)
  where
    by : Told this → Told other → this ≡ other
    by (inl h) x = absurd (let worse : false ≡ true = sym h ∙ ap (λ n. not (n == 2) && not (n == 77)) same ∙ is in cc)
    by (inr _) (inl h) = absurd (let worse : false ≡ true = sym h ∙ is in cc)
    by (inr h) (inr g) = sym h ∙ ap (kind_of signs) same ∙ g

-- a lexeme that passes the test of a plain kind is of this kind
pub kind_is : (kind : TokenKind) (lexeme : Lexeme) → is_plain kind ≡ true → is kind lexeme ≡ true → lexeme.kind ≡ kind
kind_is kind lexeme plain h = same_kind lexeme.kind kind plain (eqb-true (kind_number lexeme.kind) (kind_number kind) h)

-- a lexeme of a kind passes the test of it
pub is_of_kind : (kind : TokenKind) (lexeme : Lexeme) → lexeme.kind ≡ kind → is kind lexeme ≡ true
is_of_kind kind lexeme same = ap (λ k. kind_number k == kind_number kind) same ∙ eq-eqb (kind_number kind) (kind_number kind) refl
