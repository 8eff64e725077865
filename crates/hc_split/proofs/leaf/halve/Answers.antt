-- The halves at the cut are what the plan has to make.
use Rattle.std.proofs.Common.{sym, subst}
use Rattle.hc_base.specs.Content.{Ascends, keys}
use Rattle.hc_base.specs.Words.{IsNumber}
use Rattle.hc_page.specs.Drafts.{entry_of}
use Rattle.hc_page.specs.Puts.{put_entry}
use Rattle.hc_split.specs.declared.joined.Added.TheVariants.{Version}
use Rattle.hc_split.specs.Joined.{entry_added}
use Rattle.hc_split.proofs.Made.{can_part, leaf_made, parts_here, will_join}
use Rattle.hc_split.proofs.Parting.{ascends_all}
use Rattle.hc_split.proofs.leaf.halve.Goals as goal

pub write_halves-requires : goal.write_halves-requires
write_halves-requires c =
    let h = c.requires.full in
    let own_is = c.own.ensures.own h.0 h.1.page in
    let is = c.of-joined.ensures.joined h.0 (will_join c.args.page.now.words (entry_of c.args.new.now) h.0 h.1) in
    record { part = (h.0, can_part c.of-joined.result (Version c.args.new.now) c.own.result c.args.fresh h.0 is c.of-joined.ensures.added (subst (λ o. IsNumber o.0) (sym own_is) h.1.page.content.own) c.requires.fresh h.1.over) }

pub returns : goal.returns
returns c = record {
  halved = λ d full.
      let own_is = c.own.ensures.own d full.page in
      let is = c.of-joined.ensures.joined d (will_join c.args.page.now.words (entry_of c.args.new.now) d full) in
      let can = can_part c.of-joined.result (Version c.args.new.now) c.own.result c.args.fresh d is c.of-joined.ensures.added (subst (λ o. IsNumber o.0) (sym own_is) full.page.content.own) c.requires.fresh full.over in
      leaf_made d (entry_of c.args.new.now) c.args.fresh c.write_halves.new.left.words c.write_halves.new.right.words full.leaf
      (subst (λ a. Ascends (keys (put_entry (entry_added a) d.entries))) c.of-joined.ensures.added (ascends_all c.of-joined.result c.own.result c.args.fresh d can))
      (parts_here d c.own.result c.args.fresh c.of-joined.result.added (Version c.args.new.now) c.write_halves.new.left.words c.write_halves.new.right.words own_is c.of-joined.ensures.added
      (c.write_halves.ensures.parts d can));
}
