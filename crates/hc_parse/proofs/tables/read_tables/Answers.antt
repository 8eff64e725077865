use Rattle.std.proofs.Common.{◌≡◌, ◌∙◌, ◌∷◌, [], ◌-◌, ℕ, false, ap, refl, rules, sym, length, List, None, Err, Ok}
use Rattle.hc_ast.specs.declared.query.FromTable.{FromTable}
use Rattle.hc_grammar.specs.First.{first}
use Rattle.hc_grammar.specs.Places.{run_of}
use Rattle.hc_grammar.specs.Queries.{alias, joined, source as table_source, table_of, tables}
use Rattle.hc_lex.specs.declared.token.TokenKind.TheVariants as kind
use Rattle.hc_lex.specs.declared.keyword.Keyword.TheVariants as word
use Rattle.hc_grammar.specs.Grammar.{Chain, Made}
use Rattle.hc_grammar.specs.Lexemes.{Lexeme}
use Rattle.hc_grammar.specs.Phrases.{maybe, pushed}
use Rattle.hc_grammar.specs.Runs.{Budget, Run, and_then, gather, made}
use Rattle.hc_parse.specs.Seen.{left, budget_of}
use Rattle.hc_parse.proofs.Left.{length_left}
use Rattle.hc_parse.proofs.Sequences.{word_is}
use Rattle.hc_parse.specs.Coded.{Gives, from}
use Rattle.hc_parse.proofs.Gathers.{gathers_all, gathers_end}
use Rattle.hc_parse.proofs.Lists.{pushed_on, pushed_halt, same_answer}
use Rattle.hc_parse.proofs.tables.read_tables.Goals as goal
use Rattle.hc_parse.proofs.tables.read_tables.Goals.{else-tables-test, then-tables-test+then-not-begins_joint}

pub tables-preserved : goal.tables-preserved
tables-preserved c =
    pushed_on (first joined) (λ value. run_of 100 joined) c.args.source.now c.tables.cursor c.read_next.new.cursor
    c.tables.invariant c.tables-test.true (sym c.begins_joint-in-tables.ensures ∙ c.if-not-begins_joint.false) c.in_ok-read_next.ensures c.in_ok-push.ensures.items

pub returns-in_err-read_next : goal.returns-in_err-read_next
returns-in_err-read_next c =
    let s : Gives {A = List FromTable} c.args.source.now (Err c.in_err-read_next.field-0.0) c.read_next.new.cursor (from c.args.source.now tables c.args.cursor.now) =
    pushed_halt (first joined) (λ value. run_of 100 joined) c.args.source.now c.tables.cursor c.read_next.new.cursor c.in_err-read_next.field-0.0
    c.tables.invariant c.tables-test.true (sym c.begins_joint-in-tables.ensures ∙ c.if-not-begins_joint.false) c.in_err-read_next.ensures in
    search rules

pub returns : goal.returns
returns c = elim c.tables-test.branch [
  | else-tables-test w ↦ same_answer c.args.source.now c.tables.cursor c.tables.cursor (gathers_all c.tables.invariant w.tables-test.false) c.finished.ensures refl
  | then-tables-test+then-not-begins_joint w ↦ same_answer c.args.source.now c.tables.cursor c.tables.cursor
      (gathers_end c.tables.invariant (sym w.begins_joint-in-tables.ensures ∙ w.if-not-begins_joint.true)) c.finished.ensures refl
]

pub tables-init : goal.tables-init
tables-init c =
    let parts : Budget → List Lexeme → ℕ → List FromTable → Run (List FromTable) = λ b t n xs. gather (first joined) (λ value. run_of 100 joined) pushed n xs b t in
    let named : made (λ table. table None ∷ []) (run_of 100 (table_source false) (budget_of c.expect_word.new.cursor) (left c.args.source.now c.expect_word.new.cursor))
    ≡ Ok (table_of false c.in_ok-name.name c.in_ok-alias.alias None ∷ [], budget_of c.read_alias.new.cursor, left c.args.source.now c.read_alias.new.cursor) =
    ap (λ r. made (λ table. table None ∷ []) (and_then r (λ x b t. made (table_of false x) (run_of 100 (maybe alias) b t)))) c.in_ok-name.ensures
    ∙ ap (λ r. made (λ table. table None ∷ []) (made (table_of false c.in_ok-name.name) r)) c.in_ok-alias.ensures in
    record {
      is =
          word_is (kind.Keyword word.From) (Chain (Made (λ table. table None ∷ []) (table_source false)) joined pushed) 100 c.args.source.now c.args.cursor.now c.expect_word.new.cursor
          c.in_ok-expect_word.ensures
          ∙ ap (λ r. and_then r (λ value b t. parts b t (length t) value)) named
          ∙ ap (λ n. parts (budget_of c.read_alias.new.cursor) (left c.args.source.now c.read_alias.new.cursor) n (table_of false c.in_ok-name.name c.in_ok-alias.alias None ∷ []))
          (length_left c.args.source.now.text.now c.read_alias.new.cursor.at c.args.source.now.tokens.now)
          ∙ ap (λ xs. parts (budget_of c.read_alias.new.cursor) (left c.args.source.now c.read_alias.new.cursor) (length c.args.source.now.tokens.now - c.read_alias.new.cursor.at) xs)
          (sym c.in_ok-tables.ensures);
    }
