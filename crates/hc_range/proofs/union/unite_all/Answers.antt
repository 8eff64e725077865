use Rattle.std.proofs.Common.{◌≡◌, ◌∙◌, sym, ap, subst, List, [], length, ◌⊎◌, arith}
use Rattle.hc_range.specs.Ranges.{InAny, IsNormal}
use Rattle.hc_range.specs.declared.range.Range.{Range}
use Rattle.hc_range.proofs.Merged.{none_taken, one_less, united_more}
use Rattle.std.proofs.lemmas.List.{length-reverse}
use Rattle.hc_range.proofs.union.unite_all.Goals as goal

pub loop-range-init : goal.loop-range-init
loop-range-init c =
    let none : c.reserve.new.self.items ≡ [] = c.in_ok-reserve.ensures.items ∙ c.new-out.ensures.items in
    record {
      normal = subst IsNormal (sym none) tt;
      added = none_taken c.reserve.new.self.items c.args.ranges.now.items c.args.others.items c.reverse.new.self.items c.reverse-2.new.self.items none c.reverse.ensures.items c.reverse-2.ensures.items;
      room =
          let long = ap (λ (rs : List Range). length rs) c.reverse.ensures.items ∙ length-reverse c.args.ranges.now.items in
          let other = ap (λ (rs : List Range). length rs) c.reverse-2.ensures.items ∙ length-reverse c.args.others.items in
          let a = c.args.ranges.now.ok in
          let b = c.args.others.ok in
          let sa = c.args.ranges.now.small in
          let sb = c.args.others.small in
          let sat = c.saturating_add.ensures in
          let l1 = c.len.ensures in
          let l2 = c.len-2.ensures in
          omega (arith, long, other, a, b, sa, sb, sat, l1, l2, c.in_ok-reserve.ensures.ok, c.in_ok-reserve.ensures.len, c.new-out.ensures.len);
    }

pub loop-range-preserved : goal.loop-range-preserved
loop-range-preserved c =
    let less = one_less c.in-Some.range c.loop-range.ranges.items c.take_lower.new.ranges.items c.loop-range.others.items c.take_lower.new.others.items c.in-Some.ensures.some in
    record {
      normal = c.add_with_room.ensures.normal;
      added = united_more c.in-Some.range c.loop-range.ranges.items c.take_lower.new.ranges.items c.loop-range.others.items c.take_lower.new.others.items c.loop-range.out.items c.add_with_room.new.ranges.items
          (λ key. InAny c.args.ranges.now.items key ⊎ InAny c.args.others.items key) c.in-Some.ensures.some c.add_with_room.ensures.added c.loop-range.invariant.added;
      room = omega (arith, less, c.loop-range.invariant.room, c.add_with_room.ensures.len, c.add_with_room.ensures.capacity);
    }
