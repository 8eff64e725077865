use Rattle.std.proofs.Common.{◌≡◌, ◌∙◌, ◌∷◌, [], rules, ap, List, Option, Err, Ok}
use Rattle.hc_lex.specs.declared.keyword.Keyword.TheVariants as word
use Rattle.hc_ast.specs.declared.expression.Expr.{Expr}
use Rattle.hc_ast.specs.declared.query.Item.{Item}
use Rattle.hc_ast.specs.declared.query.FromTable.{FromTable}
use Rattle.hc_ast.specs.declared.query.Select.{Select}
use Rattle.hc_ast.specs.declared.query.Term.{Term}
use Rattle.hc_grammar.specs.Grammar.{Grammar, Made}
use Rattle.hc_grammar.specs.Phrases.{◌⊛◌, flag}
use Rattle.hc_grammar.specs.Queries.{Bounds, Groups, clause, grouping, limiting, ordering, query, rows, select_of}
use Rattle.hc_grammar.specs.Runs.{made}
use Rattle.hc_parse.specs.Coded.{Gives, from}
use Rattle.hc_parse.specs.Seen.{left, budget_of}
use Rattle.hc_parse.proofs.Sequences.{seq_all, seq_halt, seq_skip}
use Rattle.hc_parse.proofs.query.read_query.Goals as goal

-- the parts up to each place
abbrev distinct : Grammar (List Item × List FromTable → Option Expr → Groups → List Term → Bounds → Select)
distinct = Made select_of (flag (word.Distinct ∷ []))

abbrev asked : Grammar (Option Expr → Groups → List Term → Bounds → Select)
asked = distinct ⊛ rows

abbrev filtered : Grammar (Groups → List Term → Bounds → Select)
filtered = asked ⊛ clause (word.Where ∷ [])

abbrev grouped : Grammar (List Term → Bounds → Select)
grouped = filtered ⊛ grouping

abbrev ordered : Grammar (Bounds → Select)
ordered = grouped ⊛ ordering

pub returns-in_err-items : goal.returns-in_err-items
returns-in_err-items c =
    let s : Gives {A = Select} c.args.source.now (Err c.in_err-items.field-0.0) c.read_rows.new.cursor (from c.args.source.now query c.args.cursor.now) =
    (seq_skip ordered limiting 100 (budget_of c.args.cursor.now) (left c.args.source.now c.args.cursor.now) c.args.source.now c.read_rows.new.cursor c.in_err-items.field-0.0
    (seq_skip grouped ordering 100 (budget_of c.args.cursor.now) (left c.args.source.now c.args.cursor.now) c.args.source.now c.read_rows.new.cursor c.in_err-items.field-0.0
    (seq_skip filtered grouping 100 (budget_of c.args.cursor.now) (left c.args.source.now c.args.cursor.now) c.args.source.now c.read_rows.new.cursor c.in_err-items.field-0.0
    (seq_skip asked (clause (word.Where ∷ [])) 100 (budget_of c.args.cursor.now) (left c.args.source.now c.args.cursor.now) c.args.source.now c.read_rows.new.cursor c.in_err-items.field-0.0
    (seq_halt distinct rows 100 (budget_of c.args.cursor.now) (budget_of c.read_distinct-distinct.new.cursor) (left c.args.source.now c.args.cursor.now) (left c.args.source.now c.read_distinct-distinct.new.cursor) (select_of c.read_distinct-distinct.result) c.args.source.now c.read_rows.new.cursor c.in_err-items.field-0.0
    (ap (made select_of) c.read_distinct-distinct.ensures) c.in_err-items.ensures))))) in
    search rules

pub returns-in_err-filter : goal.returns-in_err-filter
returns-in_err-filter c =
    let s : Gives {A = Select} c.args.source.now (Err c.in_err-filter.field-0.0) c.read_clause.new.cursor (from c.args.source.now query c.args.cursor.now) =
    (seq_skip ordered limiting 100 (budget_of c.args.cursor.now) (left c.args.source.now c.args.cursor.now) c.args.source.now c.read_clause.new.cursor c.in_err-filter.field-0.0
    (seq_skip grouped ordering 100 (budget_of c.args.cursor.now) (left c.args.source.now c.args.cursor.now) c.args.source.now c.read_clause.new.cursor c.in_err-filter.field-0.0
    (seq_skip filtered grouping 100 (budget_of c.args.cursor.now) (left c.args.source.now c.args.cursor.now) c.args.source.now c.read_clause.new.cursor c.in_err-filter.field-0.0
    (seq_halt asked (clause (word.Where ∷ [])) 100 (budget_of c.args.cursor.now) (budget_of c.read_rows.new.cursor) (left c.args.source.now c.args.cursor.now) (left c.args.source.now c.read_rows.new.cursor) (select_of c.read_distinct-distinct.result (c.in_ok-items.items, c.in_ok-items.tables)) c.args.source.now c.read_clause.new.cursor c.in_err-filter.field-0.0
    (seq_all distinct rows 100 (budget_of c.args.cursor.now) (budget_of c.read_distinct-distinct.new.cursor) (budget_of c.read_rows.new.cursor)
    (left c.args.source.now c.args.cursor.now) (left c.args.source.now c.read_distinct-distinct.new.cursor) (left c.args.source.now c.read_rows.new.cursor)
    (select_of c.read_distinct-distinct.result) (c.in_ok-items.items, c.in_ok-items.tables)
    (ap (made select_of) c.read_distinct-distinct.ensures) c.in_ok-items.ensures) c.in_err-filter.ensures)))) in
    search rules

pub returns-in_err-groups : goal.returns-in_err-groups
returns-in_err-groups c =
    let s : Gives {A = Select} c.args.source.now (Err c.in_err-groups.field-0.0) c.read_grouping.new.cursor (from c.args.source.now query c.args.cursor.now) =
    (seq_skip ordered limiting 100 (budget_of c.args.cursor.now) (left c.args.source.now c.args.cursor.now) c.args.source.now c.read_grouping.new.cursor c.in_err-groups.field-0.0
    (seq_skip grouped ordering 100 (budget_of c.args.cursor.now) (left c.args.source.now c.args.cursor.now) c.args.source.now c.read_grouping.new.cursor c.in_err-groups.field-0.0
    (seq_halt filtered grouping 100 (budget_of c.args.cursor.now) (budget_of c.read_clause.new.cursor) (left c.args.source.now c.args.cursor.now) (left c.args.source.now c.read_clause.new.cursor) (select_of c.read_distinct-distinct.result (c.in_ok-items.items, c.in_ok-items.tables) c.in_ok-filter.filter) c.args.source.now c.read_grouping.new.cursor c.in_err-groups.field-0.0
    (seq_all asked (clause (word.Where ∷ [])) 100 (budget_of c.args.cursor.now) (budget_of c.read_rows.new.cursor) (budget_of c.read_clause.new.cursor)
    (left c.args.source.now c.args.cursor.now) (left c.args.source.now c.read_rows.new.cursor) (left c.args.source.now c.read_clause.new.cursor)
    (select_of c.read_distinct-distinct.result (c.in_ok-items.items, c.in_ok-items.tables)) c.in_ok-filter.filter
    (seq_all distinct rows 100 (budget_of c.args.cursor.now) (budget_of c.read_distinct-distinct.new.cursor) (budget_of c.read_rows.new.cursor)
    (left c.args.source.now c.args.cursor.now) (left c.args.source.now c.read_distinct-distinct.new.cursor) (left c.args.source.now c.read_rows.new.cursor)
    (select_of c.read_distinct-distinct.result) (c.in_ok-items.items, c.in_ok-items.tables)
    (ap (made select_of) c.read_distinct-distinct.ensures) c.in_ok-items.ensures) c.in_ok-filter.ensures) c.in_err-groups.ensures))) in
    search rules

pub returns-in_err-order : goal.returns-in_err-order
returns-in_err-order c =
    let s : Gives {A = Select} c.args.source.now (Err c.in_err-order.field-0.0) c.read_ordering.new.cursor (from c.args.source.now query c.args.cursor.now) =
    (seq_skip ordered limiting 100 (budget_of c.args.cursor.now) (left c.args.source.now c.args.cursor.now) c.args.source.now c.read_ordering.new.cursor c.in_err-order.field-0.0
    (seq_halt grouped ordering 100 (budget_of c.args.cursor.now) (budget_of c.read_grouping.new.cursor) (left c.args.source.now c.args.cursor.now) (left c.args.source.now c.read_grouping.new.cursor) (select_of c.read_distinct-distinct.result (c.in_ok-items.items, c.in_ok-items.tables) c.in_ok-filter.filter (c.in_ok-groups.groups, c.in_ok-groups.having)) c.args.source.now c.read_ordering.new.cursor c.in_err-order.field-0.0
    (seq_all filtered grouping 100 (budget_of c.args.cursor.now) (budget_of c.read_clause.new.cursor) (budget_of c.read_grouping.new.cursor)
    (left c.args.source.now c.args.cursor.now) (left c.args.source.now c.read_clause.new.cursor) (left c.args.source.now c.read_grouping.new.cursor)
    (select_of c.read_distinct-distinct.result (c.in_ok-items.items, c.in_ok-items.tables) c.in_ok-filter.filter) (c.in_ok-groups.groups, c.in_ok-groups.having)
    (seq_all asked (clause (word.Where ∷ [])) 100 (budget_of c.args.cursor.now) (budget_of c.read_rows.new.cursor) (budget_of c.read_clause.new.cursor)
    (left c.args.source.now c.args.cursor.now) (left c.args.source.now c.read_rows.new.cursor) (left c.args.source.now c.read_clause.new.cursor)
    (select_of c.read_distinct-distinct.result (c.in_ok-items.items, c.in_ok-items.tables)) c.in_ok-filter.filter
    (seq_all distinct rows 100 (budget_of c.args.cursor.now) (budget_of c.read_distinct-distinct.new.cursor) (budget_of c.read_rows.new.cursor)
    (left c.args.source.now c.args.cursor.now) (left c.args.source.now c.read_distinct-distinct.new.cursor) (left c.args.source.now c.read_rows.new.cursor)
    (select_of c.read_distinct-distinct.result) (c.in_ok-items.items, c.in_ok-items.tables)
    (ap (made select_of) c.read_distinct-distinct.ensures) c.in_ok-items.ensures) c.in_ok-filter.ensures) c.in_ok-groups.ensures) c.in_err-order.ensures)) in
    search rules

pub returns-in_err-limit : goal.returns-in_err-limit
returns-in_err-limit c =
    let s : Gives {A = Select} c.args.source.now (Err c.in_err-limit.field-0.0) c.read_limiting.new.cursor (from c.args.source.now query c.args.cursor.now) =
    (seq_halt ordered limiting 100 (budget_of c.args.cursor.now) (budget_of c.read_ordering.new.cursor) (left c.args.source.now c.args.cursor.now) (left c.args.source.now c.read_ordering.new.cursor) (select_of c.read_distinct-distinct.result (c.in_ok-items.items, c.in_ok-items.tables) c.in_ok-filter.filter (c.in_ok-groups.groups, c.in_ok-groups.having) c.in_ok-order.order) c.args.source.now c.read_limiting.new.cursor c.in_err-limit.field-0.0
    (seq_all grouped ordering 100 (budget_of c.args.cursor.now) (budget_of c.read_grouping.new.cursor) (budget_of c.read_ordering.new.cursor)
    (left c.args.source.now c.args.cursor.now) (left c.args.source.now c.read_grouping.new.cursor) (left c.args.source.now c.read_ordering.new.cursor)
    (select_of c.read_distinct-distinct.result (c.in_ok-items.items, c.in_ok-items.tables) c.in_ok-filter.filter (c.in_ok-groups.groups, c.in_ok-groups.having)) c.in_ok-order.order
    (seq_all filtered grouping 100 (budget_of c.args.cursor.now) (budget_of c.read_clause.new.cursor) (budget_of c.read_grouping.new.cursor)
    (left c.args.source.now c.args.cursor.now) (left c.args.source.now c.read_clause.new.cursor) (left c.args.source.now c.read_grouping.new.cursor)
    (select_of c.read_distinct-distinct.result (c.in_ok-items.items, c.in_ok-items.tables) c.in_ok-filter.filter) (c.in_ok-groups.groups, c.in_ok-groups.having)
    (seq_all asked (clause (word.Where ∷ [])) 100 (budget_of c.args.cursor.now) (budget_of c.read_rows.new.cursor) (budget_of c.read_clause.new.cursor)
    (left c.args.source.now c.args.cursor.now) (left c.args.source.now c.read_rows.new.cursor) (left c.args.source.now c.read_clause.new.cursor)
    (select_of c.read_distinct-distinct.result (c.in_ok-items.items, c.in_ok-items.tables)) c.in_ok-filter.filter
    (seq_all distinct rows 100 (budget_of c.args.cursor.now) (budget_of c.read_distinct-distinct.new.cursor) (budget_of c.read_rows.new.cursor)
    (left c.args.source.now c.args.cursor.now) (left c.args.source.now c.read_distinct-distinct.new.cursor) (left c.args.source.now c.read_rows.new.cursor)
    (select_of c.read_distinct-distinct.result) (c.in_ok-items.items, c.in_ok-items.tables)
    (ap (made select_of) c.read_distinct-distinct.ensures) c.in_ok-items.ensures) c.in_ok-filter.ensures) c.in_ok-groups.ensures) c.in_ok-order.ensures) c.in_err-limit.ensures) in
    search rules

pub returns : goal.returns
returns c =
    (seq_all ordered limiting 100 (budget_of c.args.cursor.now) (budget_of c.read_ordering.new.cursor) (budget_of c.read_limiting.new.cursor)
    (left c.args.source.now c.args.cursor.now) (left c.args.source.now c.read_ordering.new.cursor) (left c.args.source.now c.read_limiting.new.cursor)
    (select_of c.read_distinct-distinct.result (c.in_ok-items.items, c.in_ok-items.tables) c.in_ok-filter.filter (c.in_ok-groups.groups, c.in_ok-groups.having) c.in_ok-order.order) (c.in_ok-limit.limit, c.in_ok-limit.offset)
    (seq_all grouped ordering 100 (budget_of c.args.cursor.now) (budget_of c.read_grouping.new.cursor) (budget_of c.read_ordering.new.cursor)
    (left c.args.source.now c.args.cursor.now) (left c.args.source.now c.read_grouping.new.cursor) (left c.args.source.now c.read_ordering.new.cursor)
    (select_of c.read_distinct-distinct.result (c.in_ok-items.items, c.in_ok-items.tables) c.in_ok-filter.filter (c.in_ok-groups.groups, c.in_ok-groups.having)) c.in_ok-order.order
    (seq_all filtered grouping 100 (budget_of c.args.cursor.now) (budget_of c.read_clause.new.cursor) (budget_of c.read_grouping.new.cursor)
    (left c.args.source.now c.args.cursor.now) (left c.args.source.now c.read_clause.new.cursor) (left c.args.source.now c.read_grouping.new.cursor)
    (select_of c.read_distinct-distinct.result (c.in_ok-items.items, c.in_ok-items.tables) c.in_ok-filter.filter) (c.in_ok-groups.groups, c.in_ok-groups.having)
    (seq_all asked (clause (word.Where ∷ [])) 100 (budget_of c.args.cursor.now) (budget_of c.read_rows.new.cursor) (budget_of c.read_clause.new.cursor)
    (left c.args.source.now c.args.cursor.now) (left c.args.source.now c.read_rows.new.cursor) (left c.args.source.now c.read_clause.new.cursor)
    (select_of c.read_distinct-distinct.result (c.in_ok-items.items, c.in_ok-items.tables)) c.in_ok-filter.filter
    (seq_all distinct rows 100 (budget_of c.args.cursor.now) (budget_of c.read_distinct-distinct.new.cursor) (budget_of c.read_rows.new.cursor)
    (left c.args.source.now c.args.cursor.now) (left c.args.source.now c.read_distinct-distinct.new.cursor) (left c.args.source.now c.read_rows.new.cursor)
    (select_of c.read_distinct-distinct.result) (c.in_ok-items.items, c.in_ok-items.tables)
    (ap (made select_of) c.read_distinct-distinct.ensures) c.in_ok-items.ensures) c.in_ok-filter.ensures) c.in_ok-groups.ensures) c.in_ok-order.ensures) c.in_ok-limit.ensures)
