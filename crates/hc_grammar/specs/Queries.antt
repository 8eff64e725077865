-- Queries, a part of those of SQLite's lang_select.html. That `*` wants FROM and HAVING wants GROUP BY in the grammar is a
-- rule of our own.
use Rattle.std.specs.Prelude.{ℕ, ℤ, Bool, true, false, List, [], ◌∷◌, Option, Some, None}
use Rattle.std.specs.List.{list_any}
use Rattle.hc_lex.specs.declared.token.TokenKind.TheVariants as kind
use Rattle.hc_lex.specs.declared.keyword.Keyword.{Keyword}
use Rattle.hc_lex.specs.declared.keyword.Keyword.TheVariants as word
use Rattle.hc_ast.specs.declared.expression.Expr.{Expr}
use Rattle.hc_ast.specs.declared.query.Select.{Select}
use Rattle.hc_ast.specs.declared.query.Item.{Item}
use Rattle.hc_ast.specs.declared.query.Item.TheVariants as choice
use Rattle.hc_ast.specs.declared.query.FromTable.{FromTable}
use Rattle.hc_ast.specs.declared.query.Term.{Term}
use Rattle.hc_grammar.specs.Marks.{Plain, Table}
use Rattle.hc_grammar.specs.Terminals.{Name, Integer, Negative, Direction}
use Rattle.hc_grammar.specs.Grammar.{Grammar, Nothing, One, Word, Both, Depending, Made, Choice, Chain, Within, Begin, Asked}
use Rattle.hc_grammar.specs.Phrases.{◌⊛◌, name, after_words, maybe, flag, pushed, listed}
use Rattle.hc_grammar.specs.Expressions.{expression}

-- an alias, with AS or without
abbrev pub alias : Grammar (List ℕ)
alias = Choice (after_words (word.As ∷ []) name) name

-- keywords and an expression, or nothing
abbrev pub clause : List Keyword → Grammar (Option Expr)
clause words = maybe (after_words words expression)

-- an expression that is asked for, with its alias
abbrev pub one_item : Grammar Item
one_item = Both choice.One expression (maybe alias)

-- all columns of a table
abbrev pub all_of : Grammar Item
all_of = Begin (Made choice.AllOf (Both (λ table star. table) name (Word Plain kind.Dot (Word Plain kind.Star (Nothing true)))))

-- `*`, or an expression
abbrev pub item : Grammar Item
item = Choice (Word Plain kind.Star (Nothing choice.All)) one_item

-- `*` and `name.*` want FROM
abbrev pub wants_from : Item → Bool
wants_from choice.All = true
wants_from (choice.AllOf table) = true
wants_from (choice.One value named) = false

abbrev pub table_of : Bool → List ℕ → Option (List ℕ) → Option Expr → FromTable
table_of joined called alias condition = record { name = called; alias = alias; joined = joined; on = condition }

-- a table's name, and its alias where it has one
abbrev pub source : Bool → Grammar (Option Expr → FromTable)
source joined = Both (table_of joined) (One Table Name) (maybe alias)

-- JOIN, INNER JOIN and CROSS JOIN are one
abbrev pub join : Grammar Bool
join = Choice (after_words (word.Inner ∷ word.Join ∷ []) (Nothing true))
    (Choice (after_words (word.Cross ∷ word.Join ∷ []) (Nothing true)) (after_words (word.Join ∷ []) (Nothing true)))

-- a comma and a table, or a JOIN and a table with its condition
abbrev pub joined : Grammar FromTable
joined =
    Choice (Word Plain kind.Comma (Made (λ table. table None) (source false)))
    (Both (λ words table. table) join (source true ⊛ clause (word.On ∷ [])))

-- the tables of FROM
abbrev pub tables : Grammar (List FromTable)
tables = after_words (word.From ∷ []) (Chain (Made (λ table. table None ∷ []) (source false)) joined pushed)

-- ASC and DESC are plain names; whether the order is turned round
abbrev pub direction : Grammar Bool
direction = Choice (One Plain Direction) (Nothing false)

abbrev pub term_of : Expr → Bool → Term
term_of value desc = record { value = value; desc = desc }

-- a term of ORDER BY
abbrev pub term : Grammar Term
term = Both term_of expression direction

-- the integer of LIMIT and OFFSET; its minus is no operator
abbrev pub integer : Grammar ℤ
integer = Choice (Word Plain kind.Minus (One Plain Negative)) (One Plain Integer)

-- GROUP BY with its expressions, and HAVING
abbrev pub Groups : Type 0
Groups = List Expr × Option Expr

abbrev pub grouping : Grammar Groups
grouping = Choice (after_words (word.Group ∷ word.By ∷ []) (Both (λ groups having. (groups, having)) (listed expression) (clause (word.Having ∷ []))))
    (Nothing ([], None))

abbrev pub ordering : Grammar (List Term)
ordering = Choice (after_words (word.Order ∷ word.By ∷ []) (listed term)) (Nothing [])

-- LIMIT with its number, and OFFSET
abbrev pub Bounds : Type 0
Bounds = Option ℤ × Option ℤ

abbrev pub limiting : Grammar Bounds
limiting = Choice (after_words (word.Limit ∷ []) (Both (λ limit offset. (Some limit, offset)) integer (maybe (after_words (word.Offset ∷ []) integer))))
    (Nothing (None, None))

abbrev pub select_of : Bool → List Item × List FromTable → Option Expr → Groups → List Term → Bounds → Select
select_of distinct rows filter groups order bounds = record {
  distinct = distinct;
  items = rows.0;
  tables = rows.1;
  filter = filter;
  groups = groups.0;
  having = groups.1;
  order = order;
  limit = bounds.0;
  offset = bounds.1;
}

-- what is asked for, and the tables, without which `*` asks for nothing
abbrev pub rows : Grammar (List Item × List FromTable)
rows = Depending (λ items tables. (items, tables)) (listed (Within Asked)) (list_any wants_from) tables (Choice tables (Nothing []))

-- a query after its SELECT
abbrev pub query : Grammar Select
query = Made select_of (flag (word.Distinct ∷ [])) ⊛ rows ⊛ clause (word.Where ∷ []) ⊛ grouping ⊛ ordering ⊛ limiting
