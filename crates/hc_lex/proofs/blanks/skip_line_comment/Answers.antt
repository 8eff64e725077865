use Rattle.hc_lex.proofs.BlankLemmas.{line_comment}
use Rattle.hc_lex.proofs.blanks.skip_line_comment.Goals as goal

pub returns-clause-some : goal.returns-clause-some
returns-clause-some c = line_comment c.args.bytes.now c.in-Some.inner.now _ _ c.in-Some.ensures c.split_run.ensures
