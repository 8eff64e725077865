-- Statements, a part of those of SQLite's lang.html: lang_insert.html, lang_update.html, lang_delete.html,
-- lang_createtable.html with stricttables.html, lang_createindex.html, lang_droptable.html, lang_dropindex.html,
-- lang_transaction.html and lang_savepoint.html.
use Rattle.std.specs.Prelude.{ℕ, Bool, true, false, List, [], ◌∷◌}
use Rattle.hc_lex.specs.declared.token.TokenKind.TheVariants as kind
use Rattle.hc_lex.specs.declared.keyword.Keyword.TheVariants as word
use Rattle.hc_value.specs.declared.storage.Class.{Class}
use Rattle.hc_value.specs.declared.storage.Class.TheVariants as class
use Rattle.hc_ast.specs.declared.expression.Expr.{Expr}
use Rattle.hc_ast.specs.declared.table.ColumnDef.{ColumnDef}
use Rattle.hc_ast.specs.declared.table.ColumnRule.{ColumnRule}
use Rattle.hc_ast.specs.declared.table.ColumnRule.TheVariants.{PrimaryKey, NotNull, Unique}
use Rattle.hc_ast.specs.declared.table.KeyRule.{KeyRule}
use Rattle.hc_ast.specs.declared.statement.Assign.{Assign}
use Rattle.hc_ast.specs.declared.statement.ExprRow.{ExprRow}
use Rattle.hc_ast.specs.declared.statement.Stmt.{Stmt}
use Rattle.hc_ast.specs.declared.statement.Stmt.TheVariants as stmt
use Rattle.hc_grammar.specs.Marks.{Plain}
use Rattle.hc_grammar.specs.Terminals.{Kinds}
use Rattle.hc_grammar.specs.Grammar.{Grammar, Nothing, One, Word, Both, Made, Choice, Chain, Phased}
use Rattle.hc_grammar.specs.Phrases.{◌⊛◌, name, names, after_words, before, maybe, flag, pushed, listed, enclosed}
use Rattle.hc_grammar.specs.Expressions.{expression}
use Rattle.hc_grammar.specs.Queries.{clause, query}

abbrev pub row_of : List Expr → ExprRow
row_of values = record { values = values }

-- a row of VALUES
abbrev pub row : Grammar ExprRow
row = Made row_of (enclosed (listed expression))

abbrev pub insert : Grammar Stmt
insert = after_words (word.Insert ∷ word.Into ∷ [])
    (Made (λ table columns rows. stmt.Insert table columns rows) name ⊛ maybe names ⊛ after_words (word.Values ∷ []) (listed row))

abbrev pub assign_of : List ℕ → Expr → Assign
assign_of column value = record { column = column; value = value }

-- a column and its new value
abbrev pub assign : Grammar Assign
assign = Both assign_of name (Word Plain kind.Equal expression)

abbrev pub update : Grammar Stmt
update = after_words (word.Update ∷ [])
    (Made (λ table sets filter. stmt.Update table sets filter) name ⊛ after_words (word.Set ∷ []) (listed assign) ⊛ clause (word.Where ∷ []))

abbrev pub delete : Grammar Stmt
delete = after_words (word.Delete ∷ word.From ∷ []) (Made (λ table filter. stmt.Delete table filter) name ⊛ clause (word.Where ∷ []))

-- a column's type
abbrev pub column_type : Grammar Class
column_type = One Plain (Kinds ((kind.Keyword word.Integer, class.Int) ∷ (kind.Keyword word.Text, class.Text) ∷ (kind.Keyword word.Blob, class.Blob) ∷ []))

-- a rule on one column
abbrev pub column_rule : Grammar ColumnRule
column_rule =
    Choice (after_words (word.Primary ∷ word.Key ∷ []) (Nothing PrimaryKey))
    (Choice (after_words (word.Not ∷ word.Null ∷ []) (Nothing NotNull)) (after_words (word.Unique ∷ []) (Nothing Unique)))

abbrev pub column_of : List ℕ → Class → List ColumnRule → ColumnDef
column_of called of rules = record { name = called; class = of; rules = rules }

-- a column of a new table
abbrev pub column : Grammar ColumnDef
column = Made column_of name ⊛ column_type ⊛ Chain (Nothing []) column_rule pushed

abbrev pub key_rule_of : Bool → List (List ℕ) → KeyRule
key_rule_of primary columns = record { primary = primary; columns = columns }

-- a rule of the table
abbrev pub key_rule : Grammar KeyRule
key_rule = Both key_rule_of (Choice (after_words (word.Primary ∷ word.Key ∷ []) (Nothing true)) (after_words (word.Unique ∷ []) (Nothing false))) names

-- what a table has: its columns, and the rules after them
abbrev pub Parts : Type 0
Parts = List ColumnDef × List KeyRule

-- one column or rule more
pub data Part : Type 0 where
  OneColumn : ColumnDef → Part
  OneRule : KeyRule → Part

abbrev pub with_part : Parts → Part → Parts
with_part parts (OneColumn column) = (pushed parts.0 column, parts.1)
with_part parts (OneRule rule) = (parts.0, pushed parts.1 rule)

-- no rule has come
abbrev pub has_no_rule : Parts → Bool
has_no_rule parts = elim parts.1 [ [] ↦ true | rule ∷ rules ↦ false ]

-- columns with commas between them, and then rules with a comma before each
abbrev pub parts : Grammar Parts
parts = Phased (Made (λ column. (column ∷ [], [])) column) has_no_rule
    (Word Plain kind.Comma (Choice (Made OneColumn column) (Made OneRule key_rule)))
    (Word Plain kind.Comma (Made OneRule key_rule)) with_part

abbrev pub if_not_exists : Grammar Bool
if_not_exists = flag (word.If ∷ word.Not ∷ word.Exists ∷ [])

abbrev pub if_exists : Grammar Bool
if_exists = flag (word.If ∷ word.Exists ∷ [])

abbrev pub table_of : Bool → List ℕ → Parts → Stmt
table_of maybe called parts = stmt.CreateTable maybe called parts.0 parts.1

abbrev pub create_table : Grammar Stmt
create_table = after_words (word.Table ∷ [])
    (Made table_of if_not_exists ⊛ name ⊛ before (enclosed parts) (kind.Keyword word.Strict))

-- an index, after UNIQUE or without it
abbrev pub create_index : Bool → Grammar Stmt
create_index unique = after_words (word.Index ∷ [])
    (Made (λ maybe called table columns. stmt.CreateIndex unique maybe called table columns) if_not_exists ⊛ name ⊛ after_words (word.On ∷ []) name ⊛ names)

abbrev pub create : Grammar Stmt
create = after_words (word.Create ∷ []) (Choice create_table (Choice (after_words (word.Unique ∷ []) (create_index true)) (create_index false)))

abbrev pub drop_statement : Grammar Stmt
drop_statement = after_words (word.Drop ∷ [])
    (Choice (after_words (word.Table ∷ []) (Both stmt.DropTable if_exists name)) (after_words (word.Index ∷ []) (Both stmt.DropIndex if_exists name)))

-- TRANSACTION may follow, and then a phrase
abbrev pub transaction : {A : Type 0} → Grammar A → Grammar A
transaction g = Both (λ is_there x. x) (flag (word.Transaction ∷ [])) g

abbrev pub begin : Grammar Stmt
begin = after_words (word.Begin ∷ [])
    (Both (λ kind statement. statement) (Choice (after_words (word.Deferred ∷ []) (Nothing true)) (flag (word.Concurrent ∷ []))) (transaction (Nothing stmt.Begin)))

abbrev pub commit : Grammar Stmt
commit = Choice (after_words (word.Commit ∷ []) (transaction (Nothing stmt.Commit))) (after_words (word.End ∷ []) (transaction (Nothing stmt.Commit)))

-- SAVEPOINT may come before the savepoint's name
abbrev pub savepoint_name : Grammar (List ℕ)
savepoint_name = Both (λ is_there x. x) (flag (word.Savepoint ∷ [])) name

abbrev pub rollback : Grammar Stmt
rollback = after_words (word.Rollback ∷ [])
    (transaction (Choice (after_words (word.To ∷ []) (Made stmt.RollbackTo savepoint_name)) (Nothing stmt.Rollback)))

abbrev pub savepoint : Grammar Stmt
savepoint = after_words (word.Savepoint ∷ []) (Made stmt.Savepoint name)

abbrev pub release : Grammar Stmt
release = after_words (word.Release ∷ []) (Made stmt.Release savepoint_name)

-- a statement, by its first word
abbrev pub statement : Grammar Stmt
statement =
    Choice (after_words (word.Select ∷ []) (Made stmt.Select query))
    (Choice insert (Choice update (Choice delete (Choice create (Choice drop_statement
    (Choice begin (Choice commit (Choice rollback (Choice savepoint release)))))))))
