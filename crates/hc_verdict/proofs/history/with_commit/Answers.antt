use Rattle.std.proofs.Common.{◌≡◌, ◌∙◌, ap, sym, subst}
use Rattle.std.proofs.lemmas.Bool.{true≢false}
use Rattle.hc_base.specs.Lookup.{Among}
use Rattle.hc_transcript.specs.declared.reply.Ending.TheVariants.{Commit}
use Rattle.hc_meaning.specs.Runs.Cut.{Transaction}
use Rattle.hc_verdict.proofs.OneMore.{each_of_all, is_there, one_more}
use Rattle.hc_verdict.proofs.history.with_commit.Goals as goal

pub returns-then-is_commit : goal.returns-then-is_commit
returns-then-is_commit c = (
  subst (λ (t : Transaction). Among t c.args.transactions.now) (sym c.new.ensures) (is_there c.args.transactions.now c.loop-transaction.transaction-index c.transaction-item.result c.loop-transaction-test.true c.transaction-item.is),
  ap (λ (t : Transaction). t.ending) c.new.ensures ∙ c.is_commit.ensures.0 c.if-is_commit.true,
)

pub loop-transaction-preserved : goal.loop-transaction-preserved
loop-transaction-preserved c =
    one_more (λ (t : Transaction). t.ending ≡ Commit c.args.k → ⊥) c.args.transactions.now c.loop-transaction.transaction-index c.transaction-item.result c.loop-transaction-test.true c.transaction-item.is c.loop-transaction.invariant
    (λ is. true≢false (sym (c.is_commit.ensures.1 is) ∙ c.if-is_commit.false))

pub returns : goal.returns
returns c = each_of_all (λ (t : Transaction). t.ending ≡ Commit c.args.k → ⊥) c.args.transactions.now c.loop-transaction.transaction-index c.loop-transaction-test.false c.loop-transaction.invariant
