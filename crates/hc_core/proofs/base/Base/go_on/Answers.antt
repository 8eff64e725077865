use Rattle.std.proofs.Common.{◌∙◌, ap, refl, sym, arith}
use Rattle.hc_core.specs.Base.{with_all}
use Rattle.hc_core.specs.declared.commit.Commit.{Commit}
use Rattle.hc_core.proofs.BaseCells.{based_more}
use Rattle.hc_core.proofs.base.Base.go_on.Goals as goal

-- one more entry is gone over
pub loop-self-preserved : goal.loop-self-preserved
loop-self-preserved c =
    based_more c.loop-self.self _ c.args.log.now c.index-log-self.result c.loop-self.invariant (omega (arith, c.loop-self-test.true, c.requires.upto)) c.index-log-self.is
    (c.in_default.ensures ∙ ap (with_all c.loop-self.self.cells) (c.as_slice.ensures.value ∙ ap (λ (entry : Commit). entry.writes.items) (sym c.index-log-self.is))) refl
