use Rattle.std.proofs.Common.{◌∙◌, sym, subst}
use Rattle.std.proofs.lemmas.Bool.{false≢true}
use Rattle.hc_base.specs.Lookup.{Among}
use Rattle.hc_meaning.specs.Runs.Cut.{Transaction}
use Rattle.hc_verdict.specs.Orders.{CountsSetup, IsSetupFirst}
use Rattle.hc_verdict.proofs.Setups.{setup_once}
use Rattle.hc_verdict.proofs.order.is_in_order.Goals as goal

pub returns-then-not-numbers_rise : goal.returns-then-not-numbers_rise
returns-then-not-numbers_rise c = (λ no. absurd (false≢true no), λ order. sym c.if-not-numbers_rise.true ∙ c.numbers_rise.ensures.1 order.rising)

pub returns-then-not-is_setup_first : goal.returns-then-not-is_setup_first
returns-then-not-is_setup_first c = (
  λ no. absurd (false≢true no),
  λ order.
      let same = setup_once c.args.history.now c.setup_of-setup.result order.setup c.setup_of-setup.ensures.within c.setup_of-setup.ensures.first c.setup_of-setup.ensures.end order.setup_within order.setup_first in
      sym c.if-not-is_setup_first.true ∙ c.is_setup_first.ensures.1 (subst (IsSetupFirst c.args.history.now) same order.setup_first),
)

pub returns : goal.returns
returns c = (
  λ yes. record {
    rising = c.numbers_rise.ensures.0 c.if-not-numbers_rise.false;
    setup = c.setup_of-setup.result;
    setup_within = c.setup_of-setup.ensures.within;
    setup_first = c.is_setup_first.ensures.0 c.if-not-is_setup_first.false;
    after_setup = c.others_count_setup.ensures.0 yes;
  },
  λ order.
      let same = setup_once c.args.history.now c.setup_of-setup.result order.setup c.setup_of-setup.ensures.within c.setup_of-setup.ensures.first c.setup_of-setup.ensures.end order.setup_within order.setup_first in
      c.others_count_setup.ensures.1 (subst (λ n. (t : Transaction) → Among t c.args.transactions.now → CountsSetup n t) same order.after_setup),
)
