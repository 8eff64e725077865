-- What was found is in the view.
use Rattle.std.proofs.Common.{sym, subst, ap}
use Rattle.atomic_table.specs.Table.{Me}
use Rattle.hc_base.specs.Words.{page_word}
use Rattle.hc_rows.specs.Places.{page_at}
use Rattle.hc_rule.specs.Holders.{IsRegistered}
use Rattle.hc_rule.specs.declared.view.View.{View}
use Rattle.hc_rule.specs.Kinds.TakePage.{TookPage}
use Rattle.hc_pool.proofs.Finds.{tried_take, tried_load, free_form}
use Rattle.hc_pool.proofs.claims.try_claim.Goals as goal

pub returns-in-Free-clause-tried : goal.returns-in-Free-clause-tried
returns-in-Free-clause-tried c =
    let took = subst (λ y. TookPage (page_at y c.args.p.0) c.args.p.0 0 c.load_page.new.self.seat.me.0 c.take_page.result c.take_page.new.self.seat.me) c.load_page.ensures.same.0.0 c.take_page.ensures.taken in
    tried_take c.args.grip.now.layout c.args.p.0 (page_word c.load_page.result) c.args.grip.now.seat.me.0 c.load_page.new.self.seat.me c.take_page.result c.take_page.new.self.seat.me (ap page_word c.in-Free.is) c.load_page.ensures.seat took

pub returns-in_default : goal.returns-in_default
returns-in_default c = record {
  tried = tried_load c.args.grip.now.layout c.args.p.0 (page_word c.load_page.result) c.args.grip.now.seat.me.0 c.load_page.new.self.seat.me c.load_page.ensures.seat (λ none. c.in_default.not-Free (free_form c.load_page.result none));
  same = c.load_page.ensures.same;
}

pub take_page-requires-clause-registered : goal.take_page-requires-clause-registered
take_page-requires-clause-registered c = subst (λ (m : Me Unit View). IsRegistered m.0.stage) (sym c.load_page.ensures.seat) c.requires.registered
