-- Each entry comes after those before it, and then all are there.
use Rattle.std.proofs.Common.{◌-◌, take, ◌∙◌, arith}
use Rattle.hc_page.specs.Drafts.{started}
use Rattle.hc_page.specs.Puts.{with_entries}
use Rattle.hc_page.proofs.Entries.{entry_there}
use Rattle.hc_page.proofs.Ranges.{range}
use Rattle.hc_split.specs.Joined.{joined_entries, part_of}
use Rattle.hc_split.proofs.Writing.{can_begin, can_push, none_written, one_more, whole}
use Rattle.hc_split.proofs.joined.Joined.write.Goals as goal

pub begin-draft-requires : goal.begin-draft-requires
begin-draft-requires c =
    let h = c.requires.write in
    let r = can_begin c.args.self.now c.args.head.now c.args.from c.args.to h.0 h.1 in
    record { room = r.0; low = r.1; high = r.2 }

pub entries-init : goal.entries-init
entries-init c = record {
  total = c.begin-draft.ensures.total;
  drafted = λ d can. none_written c.args.self.now c.args.head.now c.args.from c.args.to d c.begin-draft.result c.begin-draft.new.out.words (c.args.from - c.args.from) (omega arith) c.begin-draft.ensures.draft;
}

pub push-draft-requires : goal.push-draft-requires
push-draft-requires c =
    let h = c.requires.write in
    let l = c.entries in
    let there = entry_there (joined_entries c.args.self.now h.0) l.slot (omega (arith, h.1.in_list)) in
    record {
      room = (
        h.0,
        there.0,
        can_push c.args.self.now c.args.head.now c.args.from c.args.to l.slot h.0 there.0 l.draft l.out.words h.1 (omega arith) (omega arith) l.invariant.total there.1 (l.invariant.drafted h.0 h.1),
      );
    }

pub entries-preserved : goal.entries-preserved
entries-preserved c =
    let l = c.entries in
    record {
      total = c.push-draft.ensures.total ∙ l.invariant.total;
      drafted = λ d can.
          let there = entry_there (joined_entries c.args.self.now d) l.slot (omega (arith, can.in_list)) in
          one_more c.args.self.now c.args.head.now c.args.from c.args.to l.slot d there.0 c.push-draft.result c.push-draft.new.out.words can (omega arith) (omega arith) there.1
          (c.push-draft.ensures.draft d (with_entries (started c.args.head.now) (take (l.slot - c.args.from) (range (joined_entries c.args.self.now d) c.args.from c.args.to))) there.0
          (can_push c.args.self.now c.args.head.now c.args.from c.args.to l.slot d there.0 l.draft l.out.words can (omega arith) (omega arith) l.invariant.total there.1 (l.invariant.drafted d can))
          (l.invariant.drafted d can));
    }

pub finish-requires : goal.finish-requires
finish-requires c =
    let h = c.requires.write in
    let l = c.entries in
    record { whole = (part_of c.args.self.now c.args.head.now c.args.from c.args.to h.0, whole c.args.self.now c.args.head.now c.args.from c.args.to l.slot h.0 l.draft l.out.words h.1 (omega arith) l.invariant.total (l.invariant.drafted h.0 h.1)) }

pub returns : goal.returns
returns c =
    let l = c.entries in
    record {
      page = λ d can.
          c.finish.ensures.page (part_of c.args.self.now c.args.head.now c.args.from c.args.to d)
          (whole c.args.self.now c.args.head.now c.args.from c.args.to l.slot d l.draft l.out.words can (omega arith) l.invariant.total (l.invariant.drafted d can));
    }
