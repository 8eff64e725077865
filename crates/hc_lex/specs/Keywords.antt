-- The keywords: a table of words, in which letters of either case are the same.
--
-- SQLite's lang_keywords.html has a longer list. Which words are keywords here is a rule of our own: those of the
-- statements that are read, also BLOB, CONCURRENT, INTEGER, STRICT and TEXT, which SQLite takes for names. Every
-- other word is a name, as are ASC, DESC and those of functions.
use Rattle.std.specs.Prelude.{◌≡◌, ℕ, if◌then◌else◌, List, [], ◌∷◌, Option, Some, None, codes, ⊤}
use Rattle.std.specs.Ordering.{nat_cmp}
use Rattle.std.specs.Cmp.Lexicographic.{slice_cmp}
use Rattle.std.specs.List.{AllByRecursion}
use Rattle.std.specs.Str.{str_eq_ignore_ascii_case, str_to_ascii_lowercase}
use Rattle.std.specs.declared.cmp.Ordering.{Ordering}
use Rattle.std.specs.declared.cmp.Ordering.TheVariants.{Less}
use Rattle.hc_lex.specs.declared.keyword.Keyword.{Keyword}
use Rattle.hc_lex.specs.declared.keyword.Keyword.TheVariants as word

unfoldable pub table : List (List ℕ × Keyword)
table =
    (codes "AND", word.And) ∷
    (codes "AS", word.As) ∷
    (codes "BEGIN", word.Begin) ∷
    (codes "BETWEEN", word.Between) ∷
    (codes "BLOB", word.Blob) ∷
    (codes "BY", word.By) ∷
    (codes "COMMIT", word.Commit) ∷
    (codes "CONCURRENT", word.Concurrent) ∷
    (codes "CREATE", word.Create) ∷
    (codes "CROSS", word.Cross) ∷
    (codes "DEFERRED", word.Deferred) ∷
    (codes "DELETE", word.Delete) ∷
    (codes "DISTINCT", word.Distinct) ∷
    (codes "DROP", word.Drop) ∷
    (codes "END", word.End) ∷
    (codes "EXISTS", word.Exists) ∷
    (codes "FROM", word.From) ∷
    (codes "GROUP", word.Group) ∷
    (codes "HAVING", word.Having) ∷
    (codes "IF", word.If) ∷
    (codes "IN", word.In) ∷
    (codes "INDEX", word.Index) ∷
    (codes "INNER", word.Inner) ∷
    (codes "INSERT", word.Insert) ∷
    (codes "INTEGER", word.Integer) ∷
    (codes "INTO", word.Into) ∷
    (codes "IS", word.Is) ∷
    (codes "JOIN", word.Join) ∷
    (codes "KEY", word.Key) ∷
    (codes "LIKE", word.Like) ∷
    (codes "LIMIT", word.Limit) ∷
    (codes "NOT", word.Not) ∷
    (codes "NULL", word.Null) ∷
    (codes "OFFSET", word.Offset) ∷
    (codes "ON", word.On) ∷
    (codes "OR", word.Or) ∷
    (codes "ORDER", word.Order) ∷
    (codes "PRIMARY", word.Primary) ∷
    (codes "RELEASE", word.Release) ∷
    (codes "ROLLBACK", word.Rollback) ∷
    (codes "SAVEPOINT", word.Savepoint) ∷
    (codes "SELECT", word.Select) ∷
    (codes "SET", word.Set) ∷
    (codes "STRICT", word.Strict) ∷
    (codes "TABLE", word.Table) ∷
    (codes "TEXT", word.Text) ∷
    (codes "TO", word.To) ∷
    (codes "TRANSACTION", word.Transaction) ∷
    (codes "UNIQUE", word.Unique) ∷
    (codes "UPDATE", word.Update) ∷
    (codes "VALUES", word.Values) ∷
    (codes "WHERE", word.Where) ∷
    []

-- the keyword beside a word in a table, where ASCII letters of either case are the same
abbrev pub lookup : List (List ℕ × Keyword) → List ℕ → Option Keyword
lookup [] text = None
lookup (entry ∷ entries) text = if str_eq_ignore_ascii_case entry.0 text then Some entry.1 else lookup entries text

-- how a word compares with another, where ASCII letters of either case are the same
abbrev pub word_cmp : List ℕ → List ℕ → Ordering
word_cmp one other = slice_cmp nat_cmp (str_to_ascii_lowercase one) (str_to_ascii_lowercase other)

-- each word of a table is below those after it
abbrev pub Rises : List (List ℕ × Keyword) → Type 0
Rises [] = ⊤
Rises (entry ∷ entries) = AllByRecursion (λ other. word_cmp entry.0 other.0 ≡ Less) entries × Rises entries

-- the keyword that a word is
unfoldable pub keyword_of : List ℕ → Option Keyword
keyword_of text = lookup table text
