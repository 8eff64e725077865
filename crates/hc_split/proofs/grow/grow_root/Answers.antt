-- The halves at the cut, and the higher top over them.
use Rattle.std.proofs.Common.{subst, ◌∙◌}
use Rattle.hc_page.specs.Drafts.{child_of}
use Rattle.hc_page.specs.Puts.{put_entry}
use Rattle.hc_shape.specs.Halves.{right_half}
use Rattle.hc_split.specs.declared.joined.Added.TheVariants.{Child}
use Rattle.hc_split.specs.Joined.{entry_added}
use Rattle.hc_split.specs.Parts.{AreParts, owned}
use Rattle.hc_split.proofs.Growing.{inner, is_content, made}
use Rattle.hc_split.proofs.Made.{can_part, child_joins}
use Rattle.hc_split.proofs.grow.grow_root.Goals as goal

pub write_halves-requires : goal.write_halves-requires
write_halves-requires c =
    let h = c.requires.full in
    let is = c.of-joined.ensures.joined h.0 (child_joins c.args.top.now.words c.args.key.now c.args.child h.0 h.1.full.parent) in
    record { part = (h.0, can_part c.of-joined.result (Child c.args.key c.args.child) c.args.a c.args.b h.0 is c.of-joined.ensures.added c.requires.first c.requires.second h.1.full.over) }

pub low-cut-requires : goal.low-cut-requires
low-cut-requires c =
    let h = c.requires.full in
    let is = c.of-joined.ensures.joined h.0 (child_joins c.args.top.now.words c.args.key.now c.args.child h.0 h.1.full.parent) in
    let can = can_part c.of-joined.result (Child c.args.key c.args.child) c.args.a c.args.b h.0 is c.of-joined.ensures.added c.requires.first c.requires.second h.1.full.over in
    let p = c.write_halves.ensures.parts h.0 can in
    record { valid = (right_half (owned h.0 c.args.a) c.args.b (put_entry (entry_added c.of-joined.result.added) h.0.entries) p.at, p.right_page) }

pub higher_head-requires : goal.higher_head-requires
higher_head-requires c = let h = c.requires.full in record { level = (h.0, h.1.full.parent.page, h.1.level) }

pub write_pair-requires-clause-content : goal.write_pair-requires-clause-content
write_pair-requires-clause-content c =
    let h = c.requires.full in
    let page = h.1.full.parent.page in
    let is = c.of-joined.ensures.joined h.0 (child_joins c.args.top.now.words c.args.key.now c.args.child h.0 h.1.full.parent) in
    let can = can_part c.of-joined.result (Child c.args.key c.args.child) c.args.a c.args.b h.0 is c.of-joined.ensures.added c.requires.first c.requires.second h.1.full.over in
    let p : AreParts (owned h.0 c.args.a) (child_of c.args.key.now c.args.child) c.args.b c.write_halves.new.left.words c.write_halves.new.right.words =
    subst (λ x. AreParts (owned h.0 c.args.a) (entry_added x) c.args.b c.write_halves.new.left.words c.write_halves.new.right.words) c.of-joined.ensures.added (c.write_halves.ensures.parts h.0 can) in
    is_content c.args.top.now.words c.args.key.now c.args.child c.args.a c.args.b h.0 h.1 c.requires.first c.requires.second c.write_halves.new.left.words c.write_halves.new.right.words p
    c.higher_head.result c.as_slice.result.now (c.higher_head.ensures.head h.0 page (c.low-fence.ensures.low h.0 page) (c.high-high.ensures.high h.0 page))
    (c.as_slice.ensures.bytes ∙ c.low-cut.ensures.low (right_half (owned h.0 c.args.a) c.args.b (put_entry (child_of c.args.key.now c.args.child) h.0.entries) p.at) p.right_page)

pub write_pair-requires-clause-inner : goal.write_pair-requires-clause-inner
write_pair-requires-clause-inner c =
    let h = c.requires.full in
    let page = h.1.full.parent.page in
    let is = c.of-joined.ensures.joined h.0 (child_joins c.args.top.now.words c.args.key.now c.args.child h.0 h.1.full.parent) in
    let can = can_part c.of-joined.result (Child c.args.key c.args.child) c.args.a c.args.b h.0 is c.of-joined.ensures.added c.requires.first c.requires.second h.1.full.over in
    let p : AreParts (owned h.0 c.args.a) (child_of c.args.key.now c.args.child) c.args.b c.write_halves.new.left.words c.write_halves.new.right.words =
    subst (λ x. AreParts (owned h.0 c.args.a) (entry_added x) c.args.b c.write_halves.new.left.words c.write_halves.new.right.words) c.of-joined.ensures.added (c.write_halves.ensures.parts h.0 can) in
    inner c.args.top.now.words c.args.key.now c.args.child c.args.a c.args.b h.0 h.1 c.requires.first c.requires.second c.write_halves.new.left.words c.write_halves.new.right.words p
    c.higher_head.result c.as_slice.result.now (c.higher_head.ensures.head h.0 page (c.low-fence.ensures.low h.0 page) (c.high-high.ensures.high h.0 page))
    (c.as_slice.ensures.bytes ∙ c.low-cut.ensures.low (right_half (owned h.0 c.args.a) c.args.b (put_entry (child_of c.args.key.now c.args.child) h.0.entries) p.at) p.right_page)

pub returns : goal.returns
returns c = record {
  grown = λ d full.
      let page = full.full.parent.page in
      let is = c.of-joined.ensures.joined d (child_joins c.args.top.now.words c.args.key.now c.args.child d full.full.parent) in
      let can = can_part c.of-joined.result (Child c.args.key c.args.child) c.args.a c.args.b d is c.of-joined.ensures.added c.requires.first c.requires.second full.full.over in
      let p : AreParts (owned d c.args.a) (child_of c.args.key.now c.args.child) c.args.b c.write_halves.new.left.words c.write_halves.new.right.words =
      subst (λ x. AreParts (owned d c.args.a) (entry_added x) c.args.b c.write_halves.new.left.words c.write_halves.new.right.words) c.of-joined.ensures.added (c.write_halves.ensures.parts d can) in
      made c.args.top.now.words c.args.key.now c.args.child c.args.a c.args.b d full c.requires.first c.requires.second c.write_halves.new.left.words c.write_halves.new.right.words p
      c.higher_head.result c.as_slice.result.now (c.higher_head.ensures.head d page (c.low-fence.ensures.low d page) (c.high-high.ensures.high d page))
      (c.as_slice.ensures.bytes ∙ c.low-cut.ensures.low (right_half (owned d c.args.a) c.args.b (put_entry (child_of c.args.key.now c.args.child) d.entries) p.at) p.right_page)
      c.write_pair.new.out.words c.write_pair.ensures.page;
}
