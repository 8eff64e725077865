use Rattle.std.proofs.Common.{◌≡◌, ◌∙◌, ◌∷◌, [], rules, ap, List, Option, Err, Ok}
use Rattle.hc_lex.specs.declared.token.TokenKind.TheVariants as kind
use Rattle.hc_lex.specs.declared.keyword.Keyword.TheVariants as word
use Rattle.hc_ast.specs.declared.expression.Expr.{Expr}
use Rattle.hc_ast.specs.declared.statement.Assign.{Assign}
use Rattle.hc_ast.specs.declared.statement.Stmt.{Stmt}
use Rattle.hc_ast.specs.declared.statement.Stmt.TheVariants as stmt
use Rattle.hc_grammar.specs.Grammar.{Grammar, Made}
use Rattle.hc_grammar.specs.Phrases.{◌⊛◌, after_words, listed, name}
use Rattle.hc_grammar.specs.Places.{run_of}
use Rattle.hc_grammar.specs.Queries.{clause}
use Rattle.hc_grammar.specs.Runs.{made}
use Rattle.hc_grammar.specs.Statements.{assign, update}
use Rattle.hc_parse.specs.Coded.{Gives, from}
use Rattle.hc_parse.specs.Seen.{left, budget_of}
use Rattle.hc_parse.proofs.Sequences.{word_is, seq_all, seq_halt, seq_skip, same_halt}
use Rattle.hc_parse.proofs.changes.read_update.Goals as goal

-- what is updated, and what is set
abbrev start : Grammar (List Assign → Option Expr → Stmt)
start = Made (λ table sets filter. stmt.Update table sets filter) name

abbrev setting : Grammar (List Assign)
setting = after_words (word.Set ∷ []) (listed assign)

pub returns-in_err-sets : goal.returns-in_err-sets
returns-in_err-sets c =
    let s : Gives {A = Stmt} c.args.source.now (Err c.in_err-sets.field-0.0) c.read_list.new.cursor (from c.args.source.now update c.args.cursor.now) =
    same_halt c.args.source.now c.read_list.new.cursor c.in_err-sets.field-0.0
    (word_is (kind.Keyword word.Update) (start ⊛ setting ⊛ clause (word.Where ∷ [])) 100 c.args.source.now c.args.cursor.now c.expect_word.new.cursor c.in_ok-expect_word.ensures)
    (seq_skip (start ⊛ setting) (clause (word.Where ∷ [])) 100 (budget_of c.expect_word.new.cursor) (left c.args.source.now c.expect_word.new.cursor)
    c.args.source.now c.read_list.new.cursor c.in_err-sets.field-0.0
    (seq_halt start setting 100 (budget_of c.expect_word.new.cursor) (budget_of c.read_name.new.cursor) (left c.args.source.now c.expect_word.new.cursor)
    (left c.args.source.now c.read_name.new.cursor) (λ sets filter. stmt.Update c.in_ok-table.table sets filter) c.args.source.now c.read_list.new.cursor c.in_err-sets.field-0.0
    (ap (made (λ table sets filter. stmt.Update table sets filter)) c.in_ok-table.ensures)
    (same_halt c.args.source.now c.read_list.new.cursor c.in_err-sets.field-0.0
    (word_is (kind.Keyword word.Set) (listed assign) 100 c.args.source.now c.read_name.new.cursor c.expect_word-2.new.cursor c.in_ok-expect_word-2.ensures)
    c.in_err-sets.ensures))) in
    search rules

pub returns-in_err-filter : goal.returns-in_err-filter
returns-in_err-filter c =
    let s : Gives {A = Stmt} c.args.source.now (Err c.in_err-filter.field-0.0) c.read_clause.new.cursor (from c.args.source.now update c.args.cursor.now) =
    same_halt c.args.source.now c.read_clause.new.cursor c.in_err-filter.field-0.0
    (word_is (kind.Keyword word.Update) (start ⊛ setting ⊛ clause (word.Where ∷ [])) 100 c.args.source.now c.args.cursor.now c.expect_word.new.cursor c.in_ok-expect_word.ensures)
    (seq_halt (start ⊛ setting) (clause (word.Where ∷ [])) 100 (budget_of c.expect_word.new.cursor) (budget_of c.read_list.new.cursor)
    (left c.args.source.now c.expect_word.new.cursor) (left c.args.source.now c.read_list.new.cursor) (λ filter. stmt.Update c.in_ok-table.table c.in_ok-sets.sets filter)
    c.args.source.now c.read_clause.new.cursor c.in_err-filter.field-0.0
    (seq_all start setting 100 (budget_of c.expect_word.new.cursor) (budget_of c.read_name.new.cursor) (budget_of c.read_list.new.cursor)
    (left c.args.source.now c.expect_word.new.cursor) (left c.args.source.now c.read_name.new.cursor) (left c.args.source.now c.read_list.new.cursor)
    (λ sets filter. stmt.Update c.in_ok-table.table sets filter) c.in_ok-sets.sets
    (ap (made (λ table sets filter. stmt.Update table sets filter)) c.in_ok-table.ensures)
    (word_is (kind.Keyword word.Set) (listed assign) 100 c.args.source.now c.read_name.new.cursor c.expect_word-2.new.cursor c.in_ok-expect_word-2.ensures ∙ c.in_ok-sets.ensures))
    c.in_err-filter.ensures) in
    search rules

pub returns : goal.returns
returns c =
    word_is (kind.Keyword word.Update) (start ⊛ setting ⊛ clause (word.Where ∷ [])) 100 c.args.source.now c.args.cursor.now c.expect_word.new.cursor c.in_ok-expect_word.ensures
    ∙ seq_all (start ⊛ setting) (clause (word.Where ∷ [])) 100 (budget_of c.expect_word.new.cursor) (budget_of c.read_list.new.cursor) (budget_of c.read_clause.new.cursor)
    (left c.args.source.now c.expect_word.new.cursor) (left c.args.source.now c.read_list.new.cursor) (left c.args.source.now c.read_clause.new.cursor)
    (λ filter. stmt.Update c.in_ok-table.table c.in_ok-sets.sets filter) c.in_ok-filter.filter
    (seq_all start setting 100 (budget_of c.expect_word.new.cursor) (budget_of c.read_name.new.cursor) (budget_of c.read_list.new.cursor)
    (left c.args.source.now c.expect_word.new.cursor) (left c.args.source.now c.read_name.new.cursor) (left c.args.source.now c.read_list.new.cursor)
    (λ sets filter. stmt.Update c.in_ok-table.table sets filter) c.in_ok-sets.sets
    (ap (made (λ table sets filter. stmt.Update table sets filter)) c.in_ok-table.ensures)
    (word_is (kind.Keyword word.Set) (listed assign) 100 c.args.source.now c.read_name.new.cursor c.expect_word-2.new.cursor c.in_ok-expect_word-2.ensures ∙ c.in_ok-sets.ensures))
    c.in_ok-filter.ensures
