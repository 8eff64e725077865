-- Each entry comes after those before it.
use Rattle.std.proofs.Common.{◌+◌, ◌-◌, take, refl, ◌∙◌, arith}
use Rattle.hc_page.specs.Drafts.{with_last}
use Rattle.hc_page.proofs.Entries.{entry_there}
use Rattle.hc_page.proofs.Ranges.{range, next_taken, next_room, next_content, range_none, range_all}
use Rattle.hc_page.proofs.rewrite.copy_range.Goals as goal

pub entries-init : goal.entries-init
entries-init c = record {
  total = refl;
  drafted = λ d e can. range_none d c.args.draft c.args.out.now.words (c.args.from - c.args.from) (range e.entries c.args.from c.args.to) (omega arith) can.drafted;
}

pub push_copied-longer-requires : goal.push_copied-longer-requires
push_copied-longer-requires c =
    let h = c.requires.room in
    let l = c.entries in
    let can = h.2 in
    let there = entry_there h.1.entries l.slot (omega (arith, can.in_list)) in
    record {
      room = (
        h.1,
        there.0,
        can.page,
        there.1,
        next_room c.args.page.now.words c.args.from c.args.to l.slot c.args.draft l.longer c.args.out.now.words l.out.words h.0 h.1 there.0 can (omega arith) (omega arith) l.invariant.total (l.invariant.drafted h.0 h.1 can) there.1,
      );
    }

pub entries-preserved : goal.entries-preserved
entries-preserved c =
    let l = c.entries in
    record {
      total = c.push_copied-longer.ensures.total ∙ l.invariant.total;
      drafted = λ d e can.
          let there = entry_there e.entries l.slot (omega (arith, can.in_list)) in
          let r = range e.entries c.args.from c.args.to in
          next_content d (take (l.slot - c.args.from) r) (take (l.slot + 1 - c.args.from) r) there.0 c.push_copied-longer.result c.push_copied-longer.new.out.words
          (next_taken c.args.page.now.words c.args.from c.args.to l.slot c.args.draft l.longer c.args.out.now.words l.out.words d e there.0 can (omega arith) (omega arith) l.invariant.total (l.invariant.drafted d e can) there.1)
          (c.push_copied-longer.ensures.draft (with_last d (take (l.slot - c.args.from) r)) e there.0 (l.invariant.drafted d e can) can.page there.1);
    }

pub returns : goal.returns
returns c =
    let l = c.entries in
    record {
      draft = λ d e can. range_all d l.longer l.out.words (l.slot - c.args.from) c.args.from c.args.to e.entries (omega arith) (l.invariant.drafted d e can);
      total = l.invariant.total;
    }
