use Rattle.std.proofs.Common.{◌∙◌, string_bytes}
use Rattle.hc_ast.specs.Canonical.{first_word, other_words}
use Rattle.hc_ast.proofs.Lists.{print_written}
use Rattle.hc_ast.proofs.statement_text.print.Goals as goal

pub returns : goal.returns
returns c =
    c.from_string.ensures
    ∙ print_written (first_word c.args.stmt.now) c.first_of.result.now (string_bytes c.in_ok-out.out) (string_bytes c.push_rest.new.out) (other_words c.args.stmt.now) c.in_ok-out.ensures.ok c.first_of.ensures c.in_ok-push_rest.ensures
