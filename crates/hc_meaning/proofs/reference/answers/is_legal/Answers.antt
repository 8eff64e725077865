use Rattle.std.proofs.Common.{◌∙◌, subst, refl, arith}
use Rattle.std.proofs.lemmas.Option.{slice_get_within}
use Rattle.hc_meaning.specs.Database.{Db}
use Rattle.hc_meaning.specs.History.{state, IsLegalAt}
use Rattle.hc_meaning.specs.declared.transaction.Transaction.{Transaction}
use Rattle.hc_meaning.proofs.Loops.OneMore.{one_more_place}
use Rattle.hc_meaning.proofs.reference.answers.is_legal.Goals as goal

pub loop-k-preserved : goal.loop-k-preserved
loop-k-preserved c =
    one_more_place (λ i (t : Transaction). IsLegalAt (state c.args.history.now i) t) c.args.history.now c.loop-k.k c.index-history-k.result c.loop-k-test.true c.index-history-k.is c.loop-k.invariant
    (subst (λ (db : Db). IsLegalAt db c.index-history-k.result) (c.as_slice.ensures ∙ c.in_ok-before.ensures) (c.in_ok-is_legal_at.ensures.0 c.if-not-branch.false))

pub returns : goal.returns
returns c = (
  λ yes k t at. c.loop-k.invariant k t (omega (arith, slice_get_within c.args.history.now k t at, c.loop-k-test.false)) at,
  λ legal. refl,
)
