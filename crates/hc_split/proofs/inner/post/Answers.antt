-- The words of all entries tell whether they fit.
use Rattle.std.proofs.Common.{◌≤◌, refl, sym, ap, subst, ◌∙◌, arith}
use Rattle.std.proofs.lemmas.Bool.{true≢false}
use Rattle.hc_base.specs.Layout.{IsPage, used_words}
use Rattle.hc_page.specs.Drafts.{child_of}
use Rattle.hc_page.specs.Puts.{with_entries, with_entry}
use Rattle.hc_split.specs.declared.joined.Added.TheVariants.{Child}
use Rattle.hc_split.specs.Joined.{joined_entries}
use Rattle.hc_split.proofs.Made.{child_joins}
use Rattle.hc_split.proofs.Parting.{frame_is}
use Rattle.hc_split.proofs.Whole.{can_write_whole, part_whole, whole_is}
use Rattle.hc_split.proofs.inner.post.Goals as goal

pub all_used-requires : goal.all_used-requires
all_used-requires c =
    let h = c.requires.parent in
    let page = h.1.page in
    record {
      joined = (
        h.0,
        c.of-joined.ensures.joined h.0 (child_joins c.args.parent.now.words c.args.key.now c.args.child h.0 h.1),
        frame_is c.frame_of.result h.0 c.level.result c.low-low.result c.high-high.result page.content (c.level.ensures.level h.0 page) (c.low-low.ensures.low h.0 page)
            (c.high-high.ensures.high h.0 page) c.frame_of.ensures.level c.frame_of.ensures.low c.frame_of.ensures.high,
      );
    }

pub returns-then-all_used-gt256-clause-fits : goal.returns-then-all_used-gt256-clause-fits
returns-then-all_used-gt256-clause-fits c = λ d parent.
    let page = parent.page in
    let is = c.of-joined.ensures.joined d (child_joins c.args.parent.now.words c.args.key.now c.args.child d parent) in
    let frame =
    frame_is c.frame_of.result d c.level.result c.low-low.result c.high-high.result page.content (c.level.ensures.level d page) (c.low-low.ensures.low d page) (c.high-high.ensures.high d page)
    c.frame_of.ensures.level c.frame_of.ensures.low c.frame_of.ensures.high in
    let used = c.all_used.ensures.used d is frame ∙ ap (λ x. used_words x) (whole_is c.of-joined.result d is (Child c.args.key c.args.child) c.of-joined.ensures.added) in
    (λ told. absurd (true≢false (sym told)), λ fits. absurd (omega (arith, used, fits, c.if-all_used-gt256.true)))

pub count-requires : goal.count-requires
count-requires c =
    let h = c.requires.parent in
    record { joined = (h.0, c.of-joined.ensures.joined h.0 (child_joins c.args.parent.now.words c.args.key.now c.args.child h.0 h.1)) }

pub write-requires : goal.write-requires
write-requires c =
    let h = c.requires.parent in
    let page = h.1.page in
    let is = c.of-joined.ensures.joined h.0 (child_joins c.args.parent.now.words c.args.key.now c.args.child h.0 h.1) in
    let frame =
    frame_is c.frame_of.result h.0 c.level.result c.low-low.result c.high-high.result page.content (c.level.ensures.level h.0 page) (c.low-low.ensures.low h.0 page) (c.high-high.ensures.high h.0 page)
    c.frame_of.ensures.level c.frame_of.ensures.low c.frame_of.ensures.high in
    record {
      write = (
        h.0,
        can_write_whole c.of-joined.result h.0 is c.head_of.result c.count.result (c.count.ensures.count h.0 is)
            (c.head_of.ensures.head h.0 page (c.low-low.ensures.low h.0 page) (c.high-high.ensures.high h.0 page)) (omega (arith, c.all_used.ensures.used h.0 is frame, c.if-all_used-gt256.false)),
      );
    }

pub returns-clause-fits : goal.returns-clause-fits
returns-clause-fits c = λ d parent.
    let page = parent.page in
    let is = c.of-joined.ensures.joined d (child_joins c.args.parent.now.words c.args.key.now c.args.child d parent) in
    let frame =
    frame_is c.frame_of.result d c.level.result c.low-low.result c.high-high.result page.content (c.level.ensures.level d page) (c.low-low.ensures.low d page) (c.high-high.ensures.high d page)
    c.frame_of.ensures.level c.frame_of.ensures.low c.frame_of.ensures.high in
    let used = c.all_used.ensures.used d is frame ∙ ap (λ x. used_words x) (whole_is c.of-joined.result d is (Child c.args.key c.args.child) c.of-joined.ensures.added) in
    (λ told. omega (arith, used, c.if-all_used-gt256.false), λ fits. refl)

pub returns-clause-posted : goal.returns-clause-posted
returns-clause-posted c = λ d parent told.
    let page = parent.page in
    let is = c.of-joined.ensures.joined d (child_joins c.args.parent.now.words c.args.key.now c.args.child d parent) in
    let frame =
    frame_is c.frame_of.result d c.level.result c.low-low.result c.high-high.result page.content (c.level.ensures.level d page) (c.low-low.ensures.low d page) (c.high-high.ensures.high d page)
    c.frame_of.ensures.level c.frame_of.ensures.low c.frame_of.ensures.high in
    let head_is = c.head_of.ensures.head d page (c.low-low.ensures.low d page) (c.high-high.ensures.high d page) in
    let all = c.count.ensures.count d is in
    let fits : used_words (with_entries d (joined_entries c.of-joined.result d)) ≤ 256 = omega (arith, c.all_used.ensures.used d is frame, c.if-all_used-gt256.false) in (
      with_entry d (child_of c.args.key.now c.args.child),
      subst (λ x. IsPage c.write.new.out.words x)
          (part_whole c.of-joined.result d is c.head_of.result c.count.result all head_is ∙ whole_is c.of-joined.result d is (Child c.args.key c.args.child) c.of-joined.ensures.added)
          (c.write.ensures.page d (can_write_whole c.of-joined.result d is c.head_of.result c.count.result all head_is fits)),
      record { inner = parent.inner; is = refl },
    )
