-- Canonical text: one text for each statement. Keywords are in upper case, each name is in `"`, and one space
-- is between two words. Words that may be left out are, but AS and ASC. A rule of our own.
use Rattle.std.specs.Prelude.{ℕ, ℤ, Bool, List, [], ◌∷◌, ◌++◌, if◌then◌else◌, Option, Some, None, codes, map}
use Rattle.std.specs.List.{flat_map}
use Rattle.hc_value.specs.declared.storage.Class.{Class}
use Rattle.hc_value.specs.declared.storage.Class.TheVariants as class
use Rattle.hc_ast.specs.declared.expression.Expr.{Expr}
use Rattle.hc_ast.specs.declared.query.Select.{Select}
use Rattle.hc_ast.specs.declared.query.Item.{Item}
use Rattle.hc_ast.specs.declared.query.Item.TheVariants.{All, AllOf, One}
use Rattle.hc_ast.specs.declared.query.FromTable.{FromTable}
use Rattle.hc_ast.specs.declared.query.Term.{Term}
use Rattle.hc_ast.specs.declared.table.ColumnDef.{ColumnDef}
use Rattle.hc_ast.specs.declared.table.ColumnRule.{ColumnRule}
use Rattle.hc_ast.specs.declared.table.ColumnRule.TheVariants.{PrimaryKey, NotNull, Unique}
use Rattle.hc_ast.specs.declared.table.KeyRule.{KeyRule}
use Rattle.hc_ast.specs.declared.statement.Assign.{Assign}
use Rattle.hc_ast.specs.declared.statement.ExprRow.{ExprRow}
use Rattle.hc_ast.specs.declared.statement.Stmt.{Stmt}
use Rattle.hc_ast.specs.declared.statement.Stmt.TheVariants as stmt
use Rattle.hc_ast.specs.Words.{Words, text_of, name_word, integer_words, words_if, listed, enclosed, name_list}
use Rattle.hc_ast.specs.Expressions.{expression_words}

-- an alias, where there is one
abbrev pub alias_words : Option (List ℕ) → Words
alias_words None = []
alias_words (Some alias) = codes "AS" ∷ name_word alias ∷ []

-- a keyword and an expression, where there is one
abbrev pub clause_words : List ℕ → Option Expr → Words
clause_words keyword None = []
clause_words keyword (Some value) = keyword ∷ expression_words value

-- a keyword and an integer, where there is one
abbrev pub limit_words : List ℕ → Option ℤ → Words
limit_words keyword None = []
limit_words keyword (Some n) = keyword ∷ integer_words n

-- two words and a list, where it has something
abbrev pub by_words : List ℕ → List Words → Words
by_words keyword [] = []
by_words keyword (part ∷ parts) = keyword ∷ codes "BY" ∷ listed (part ∷ parts)

abbrev pub item_words : Item → Words
item_words All = codes "*" ∷ []
item_words (AllOf table) = name_word table ∷ codes "." ∷ codes "*" ∷ []
item_words (One value alias) = expression_words value ++ alias_words alias

-- a table with its alias
abbrev pub source_words : FromTable → Words
source_words table = name_word table.name ∷ alias_words table.alias

-- a table after another one
abbrev pub joined_words : FromTable → Words
joined_words table = (if table.joined then codes "JOIN" else codes ",") ∷ source_words table ++ clause_words (codes "ON") table.on

abbrev pub from_words : List FromTable → Words
from_words [] = []
from_words (first ∷ others) = codes "FROM" ∷ source_words first ++ flat_map joined_words others

abbrev pub term_words : Term → Words
term_words term = expression_words term.value ++ (if term.desc then codes "DESC" else codes "ASC") ∷ []

-- what a query asks for, of which tables and rows
abbrev pub rows_words : Select → Words
rows_words query =
    words_if query.distinct (codes "DISTINCT" ∷ [])
    ++ listed (map item_words query.items)
    ++ from_words query.tables
    ++ clause_words (codes "WHERE") query.filter

-- its groups, its order, and how many rows it gives
abbrev pub order_words : Select → Words
order_words query =
    by_words (codes "GROUP") (map expression_words query.groups)
    ++ clause_words (codes "HAVING") query.having
    ++ by_words (codes "ORDER") (map term_words query.order)
    ++ limit_words (codes "LIMIT") query.limit
    ++ limit_words (codes "OFFSET") query.offset

-- a query after its SELECT
abbrev pub select_words : Select → Words
select_words query = rows_words query ++ order_words query

-- the columns that an INSERT names
abbrev pub columns_words : Option (List (List ℕ)) → Words
columns_words None = []
columns_words (Some names) = name_list names

abbrev pub row_words : ExprRow → Words
row_words row = enclosed (listed (map expression_words row.values))

abbrev pub assign_words : Assign → Words
assign_words set = name_word set.column ∷ codes "=" ∷ expression_words set.value

-- a column's type; no column has the class of NULL
abbrev pub type_word : Class → List ℕ
type_word class.Int = codes "INTEGER"
type_word class.Text = codes "TEXT"
type_word class.Blob = codes "BLOB"
type_word class.Null = codes "NULL"

abbrev pub column_rule_words : ColumnRule → Words
column_rule_words PrimaryKey = codes "PRIMARY" ∷ codes "KEY" ∷ []
column_rule_words NotNull = codes "NOT" ∷ codes "NULL" ∷ []
column_rule_words Unique = codes "UNIQUE" ∷ []

abbrev pub column_words : ColumnDef → Words
column_words column = name_word column.name ∷ type_word column.class ∷ flat_map column_rule_words column.rules

abbrev pub key_rule_words : KeyRule → Words
key_rule_words rule = (if rule.primary then codes "PRIMARY" ∷ codes "KEY" ∷ [] else codes "UNIQUE" ∷ []) ++ name_list rule.columns

abbrev pub if_not_exists : Bool → Words
if_not_exists maybe = words_if maybe (codes "IF" ∷ codes "NOT" ∷ codes "EXISTS" ∷ [])

abbrev pub if_exists : Bool → Words
if_exists maybe = words_if maybe (codes "IF" ∷ codes "EXISTS" ∷ [])

-- the word that a statement begins with
abbrev pub first_word : Stmt → List ℕ
first_word (stmt.Select query) = codes "SELECT"
first_word (stmt.Insert table columns rows) = codes "INSERT"
first_word (stmt.Update table sets filter) = codes "UPDATE"
first_word (stmt.Delete table filter) = codes "DELETE"
first_word (stmt.CreateTable maybe name columns rules) = codes "CREATE"
first_word (stmt.CreateIndex unique maybe name table columns) = codes "CREATE"
first_word (stmt.DropTable maybe name) = codes "DROP"
first_word (stmt.DropIndex maybe name) = codes "DROP"
first_word stmt.Begin = codes "BEGIN"
first_word stmt.Commit = codes "COMMIT"
first_word stmt.Rollback = codes "ROLLBACK"
first_word (stmt.RollbackTo name) = codes "ROLLBACK"
first_word (stmt.Savepoint name) = codes "SAVEPOINT"
first_word (stmt.Release name) = codes "RELEASE"

-- the words after it
abbrev pub other_words : Stmt → Words
other_words (stmt.Select query) = select_words query
other_words (stmt.Insert table columns rows) =
    codes "INTO" ∷ name_word table ∷ columns_words columns ++ codes "VALUES" ∷ listed (map row_words rows)
other_words (stmt.Update table sets filter) =
    name_word table ∷ codes "SET" ∷ listed (map assign_words sets) ++ clause_words (codes "WHERE") filter
other_words (stmt.Delete table filter) = codes "FROM" ∷ name_word table ∷ clause_words (codes "WHERE") filter
other_words (stmt.CreateTable maybe name columns rules) =
    codes "TABLE" ∷ if_not_exists maybe
    ++ name_word name ∷ enclosed (listed (map column_words columns) ++ flat_map (λ rule. codes "," ∷ key_rule_words rule) rules)
    ++ codes "STRICT" ∷ []
other_words (stmt.CreateIndex unique maybe name table columns) =
    words_if unique (codes "UNIQUE" ∷ []) ++ codes "INDEX" ∷ if_not_exists maybe
    ++ name_word name ∷ codes "ON" ∷ name_word table ∷ name_list columns
other_words (stmt.DropTable maybe name) = codes "TABLE" ∷ if_exists maybe ++ name_word name ∷ []
other_words (stmt.DropIndex maybe name) = codes "INDEX" ∷ if_exists maybe ++ name_word name ∷ []
other_words stmt.Begin = []
other_words stmt.Commit = []
other_words stmt.Rollback = []
other_words (stmt.RollbackTo name) = codes "TO" ∷ name_word name ∷ []
other_words (stmt.Savepoint name) = name_word name ∷ []
other_words (stmt.Release name) = name_word name ∷ []

-- the canonical text of a statement
abbrev pub canonical : Stmt → List ℕ
canonical statement = text_of (first_word statement ∷ other_words statement)
