use Rattle.hc_lex.proofs.Runs.{no_quote_is_no_blob, odd_is_no_blob}
use Rattle.hc_lex.proofs.words.skip_blob.Goals as goal

pub returns-then-digits-ne0-clause-none : goal.returns-then-digits-ne0-clause-none
returns-then-digits-ne0-clause-none c = odd_is_no_blob c.args.bytes.now _ _ c.split_run.ensures c.if-digits-ne0.true

pub returns-clause-none : goal.returns-clause-none
returns-clause-none c = no_quote_is_no_blob c.skip_byte.result _ c.args.bytes.now _ c.split_run.result.1.now c.split_run.ensures c.skip_byte.ensures
