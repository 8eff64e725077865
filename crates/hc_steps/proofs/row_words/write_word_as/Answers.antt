-- A word that is as it is to be needs no store.
use Rattle.std.proofs.Common.{◌≡◌, ◌∙◌, sym, ap, subst, arith}
use Rattle.hc_rule.specs.Views.{bare}
use Rattle.hc_rule.specs.Kinds.Rows.{FindsWord}
use Rattle.hc_rule.proofs.Rewriting.{word_same}
use Rattle.hc_steps.proofs.row_words.write_word_as.Goals as goal

pub returns-else-load_row_as-w-clause-stored : goal.returns-else-load_row_as-w-clause-stored
returns-else-load_row_as-w-clause-stored c =
    let v = c.args.seat.now.me.0 in
    let same : c.load_row_as.result ≡ c.args.w = omega (arith, c.if-load_row_as-w.false) in
    c.load_row_as.ensures.told.1 ∙ sym (ap bare (word_same c.args.p.0 c.args.word c.args.w v (subst (λ n. FindsWord c.args.p.0 c.args.word v n) same c.load_row_as.ensures.told.0)))
