use Rattle.std.proofs.Common.{◌∙◌, ap, refl, subst, sym}
use Rattle.hc_grammar.proofs.Faults.Texts.{statement_of_answer}
use Rattle.hc_parse.specs.Coded.{fault_of}
use Rattle.hc_parse.specs.Laws.{IsCauseOf}
use Rattle.hc_parse.proofs.Answered.{answer_ok, answer_err, stop_cause}
use Rattle.hc_parse.proofs.Texts.SoundTokens.{tokens_sound}
use Rattle.hc_parse.proofs.parser.read.Goals as goal

pub invariant_of-source : goal.invariant_of-source
invariant_of-source c = record {
  sound =
      tokens_sound c.args.text.now c.args.tokens.now (c.tokens_lie_in_order.ensures c.args.text.now c.args.tokens.now c.requires.tokens)
      (c.tokens_lie_at_characters.ensures c.args.text.now c.args.tokens.now c.utf8.text c.requires.tokens) c.requires.tokens;
}

pub returns-in-Ok : goal.returns-in-Ok
returns-in-Ok c =
    statement_of_answer c.args.text.now c.args.tokens.now c.in-Ok.statement
    (answer_ok c.read_statement-found.result c.in-Ok.statement (record {
      text = c.args.text;
      tokens = c.args.tokens;
      sound = tokens_sound c.args.text.now c.args.tokens.now (c.tokens_lie_in_order.ensures c.args.text.now c.args.tokens.now c.requires.tokens)
          (c.tokens_lie_at_characters.ensures c.args.text.now c.args.tokens.now c.utf8.text c.requires.tokens) c.requires.tokens;
    }) c.read_statement-found.new.cursor _
    c.read_statement-found.ensures c.in-Ok.ensures)

pub returns-in-Err : goal.returns-in-Err
returns-in-Err c =
    subst (λ f. IsCauseOf c.args.text.now c.args.tokens.now f) (sym (c.fault_of.ensures ∙ ap (λ n. fault_of c.in-Err.stop n) c.place_of.ensures))
    (stop_cause c.args.text.now c.args.tokens.now (record {
      text = c.args.text;
      tokens = c.args.tokens;
      sound = tokens_sound c.args.text.now c.args.tokens.now (c.tokens_lie_in_order.ensures c.args.text.now c.args.tokens.now c.requires.tokens)
          (c.tokens_lie_at_characters.ensures c.args.text.now c.args.tokens.now c.utf8.text c.requires.tokens) c.requires.tokens;
    }) c.read_statement-found.new.cursor c.in-Err.stop refl refl _ refl
    (answer_err c.read_statement-found.result c.in-Err.stop (record {
      text = c.args.text;
      tokens = c.args.tokens;
      sound = tokens_sound c.args.text.now c.args.tokens.now (c.tokens_lie_in_order.ensures c.args.text.now c.args.tokens.now c.requires.tokens)
          (c.tokens_lie_at_characters.ensures c.args.text.now c.args.tokens.now c.utf8.text c.requires.tokens) c.requires.tokens;
    }) c.read_statement-found.new.cursor _
    c.read_statement-found.ensures c.in-Err.ensures))
