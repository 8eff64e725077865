use Rattle.std.proofs.Common.{Some, arith, ap, ◌∙◌}
use Rattle.hc_schema.proofs.CatalogKeys.{key_long, tree_read}
use Rattle.hc_schema.proofs.reading.read_tree.Goals as goal

pub returns-in_err-last : goal.returns-in_err-last
returns-in_err-last c name tree fits key = absurd (omega (arith, key_long name tree c.args.key.now key, c.in_err-last.ensures.cases))

pub returns : goal.returns
returns c name tree fits key =
    ap Some (c.from_be_bytes.ensures ∙ tree_read name tree c.args.key.now c.in_ok-last.last.now fits key c.in_ok-last.ensures.cases.1)
