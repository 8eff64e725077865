-- The halves at the cut are what the plan has to make.
use Rattle.std.proofs.Common.{sym, subst}
use Rattle.hc_base.specs.Words.{IsNumber}
use Rattle.hc_split.specs.declared.joined.Added.TheVariants.{Child}
use Rattle.hc_split.proofs.Made.{can_part, child_joins, inner_made, parts_here}
use Rattle.hc_split.proofs.inner.halve_inner.Goals as goal

pub write_halves-requires : goal.write_halves-requires
write_halves-requires c =
    let h = c.requires.full in
    let page = h.1.parent.page in
    let own_is = c.own.ensures.own h.0 page in
    let is = c.of-joined.ensures.joined h.0 (child_joins c.args.parent.now.words c.args.key.now c.args.child h.0 h.1.parent) in
    record { part = (h.0, can_part c.of-joined.result (Child c.args.key c.args.child) c.own.result c.args.fresh h.0 is c.of-joined.ensures.added (subst (λ o. IsNumber o.0) (sym own_is) page.content.own) c.requires.fresh h.1.over) }

pub returns : goal.returns
returns c = record {
  halved = λ d full.
      let page = full.parent.page in
      let own_is = c.own.ensures.own d page in
      let is = c.of-joined.ensures.joined d (child_joins c.args.parent.now.words c.args.key.now c.args.child d full.parent) in
      let can = can_part c.of-joined.result (Child c.args.key c.args.child) c.own.result c.args.fresh d is c.of-joined.ensures.added (subst (λ o. IsNumber o.0) (sym own_is) page.content.own) c.requires.fresh full.over in
      inner_made d c.args.key.now c.args.child c.args.fresh c.write_halves.new.left.words c.write_halves.new.right.words full.parent.inner
      (parts_here d c.own.result c.args.fresh c.of-joined.result.added (Child c.args.key c.args.child) c.write_halves.new.left.words c.write_halves.new.right.words own_is c.of-joined.ensures.added
      (c.write_halves.ensures.parts d can));
}
