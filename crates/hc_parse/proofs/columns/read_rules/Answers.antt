use Rattle.std.proofs.Common.{◌≡◌, ◌∙◌, refl, rules, sym, List, [], Err}
use Rattle.hc_ast.specs.declared.table.ColumnRule.{ColumnRule}
use Rattle.hc_grammar.specs.First.{first}
use Rattle.hc_grammar.specs.Grammar.{Chain, Nothing}
use Rattle.hc_grammar.specs.Phrases.{pushed}
use Rattle.hc_grammar.specs.Places.{run_of}
use Rattle.hc_grammar.specs.Statements.{column_rule}
use Rattle.hc_parse.specs.Coded.{Gives, from}
use Rattle.hc_parse.proofs.Gathers.{gathers_all, gathers_end}
use Rattle.hc_parse.proofs.Lists.{pushed_on, pushed_halt, same_answer}
use Rattle.hc_parse.proofs.columns.read_rules.Goals as goal
use Rattle.hc_parse.proofs.columns.read_rules.Goals.{else-rules-test, then-rules-test+then-not-begins_rule}

pub rules-preserved : goal.rules-preserved
rules-preserved c =
    pushed_on (first column_rule) (λ value. run_of 100 column_rule) c.args.source.now c.rules.cursor c.read_rule.new.cursor
    c.rules.invariant c.rules-test.true (sym c.begins_rule.ensures ∙ c.if-not-begins_rule.false) c.in_ok-read_rule.ensures c.in_ok-push.ensures.items

pub returns-in_err-read_rule : goal.returns-in_err-read_rule
returns-in_err-read_rule c =
    let s : Gives {A = List ColumnRule} c.args.source.now (Err c.in_err-read_rule.field-0.0) c.read_rule.new.cursor (from c.args.source.now (Chain (Nothing []) column_rule pushed) c.args.cursor.now) =
    pushed_halt (first column_rule) (λ value. run_of 100 column_rule) c.args.source.now c.rules.cursor c.read_rule.new.cursor c.in_err-read_rule.field-0.0
    c.rules.invariant c.rules-test.true (sym c.begins_rule.ensures ∙ c.if-not-begins_rule.false) c.in_err-read_rule.ensures in
    search rules

pub returns : goal.returns
returns c = elim c.rules-test.branch [
  | else-rules-test w ↦ same_answer c.args.source.now c.rules.cursor c.rules.cursor (gathers_all c.rules.invariant w.rules-test.false) c.finished.ensures refl
  | then-rules-test+then-not-begins_rule w ↦ same_answer c.args.source.now c.rules.cursor c.rules.cursor
      (gathers_end c.rules.invariant (sym w.begins_rule.ensures ∙ w.if-not-begins_rule.true)) c.finished.ensures refl
]
