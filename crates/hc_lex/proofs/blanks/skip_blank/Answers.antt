use Rattle.std.proofs.Common.{◌∙◌, ◌∷◌, ap, sym}
use Rattle.hc_lex.proofs.BlankLemmas.{no_block_comment, no_line_comment, one_space}
use Rattle.hc_lex.proofs.blanks.skip_blank.Goals as goal

pub returns-in-45-clause-none : goal.returns-in-45-clause-none
returns-in-45-clause-none c =
    no_line_comment _ c.args.bytes.now c.in-Some.tail.now (c.in-Some.ensures.cases.0 ∙ ap (λ b. b ∷ c.in-Some.tail.now) c.in-45.is) c.skip_line_comment.ensures.none

pub returns-in-47-clause-none : goal.returns-in-47-clause-none
returns-in-47-clause-none c =
    no_block_comment _ c.args.bytes.now c.in-Some.tail.now (c.in-Some.ensures.cases.0 ∙ ap (λ b. b ∷ c.in-Some.tail.now) c.in-47.is) c.skip_block_comment.ensures.none

pub returns-in-Space-clause-some : goal.returns-in-Space-clause-some
returns-in-Space-clause-some c = one_space c.args.bytes.now _ c.in-Some.tail.now c.in-Some.ensures.cases.0 (sym c.class_of.ensures ∙ c.in-Space.is)
