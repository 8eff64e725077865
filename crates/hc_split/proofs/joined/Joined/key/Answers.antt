-- The page's key, or the new one.
use Rattle.std.proofs.Common.{length, ap, sym, ◌∙◌, arith}
use Rattle.hc_page.proofs.Entries.{entry_there, key_at}
use Rattle.hc_split.specs.Joined.{entry_added, joined_entries}
use Rattle.hc_split.proofs.Joining.{is_short}
use Rattle.hc_split.proofs.joined.Joined.key.Goals as goal

pub copy_key-requires : goal.copy_key-requires
copy_key-requires c =
    let h = c.requires.there in
    let from = c.in-Page.ensures.source h.0 h.1 h.2 in
    let there = entry_there h.0.entries c.in-Page.of from.1 in
    record { there = (h.0, there.0, is_short c.args.self.now h.0 c.in-Page.of there.0 h.1 there.1) }

pub from_slice-requires : goal.from_slice-requires
from_slice-requires c = let h = c.requires.there in omega (arith, h.1.will.new_small.1, ap (λ k. length k) c.key.ensures)

pub returns-in-Page : goal.returns-in-Page
returns-in-Page c = record {
  key = λ d is inside.
      let from = c.in-Page.ensures.source d is inside in
      let there = entry_there d.entries c.in-Page.of from.1 in
      c.copy_key.ensures.key d there.0 (is_short c.args.self.now d c.in-Page.of there.0 is there.1) ∙ sym (key_at (joined_entries c.args.self.now d) c.args.slot there.0 (from.0 ∙ there.1));
}

pub returns-in-New : goal.returns-in-New
returns-in-New c = record {
  key = λ d is inside.
      c.from_slice.ensures ∙ (c.key.ensures ∙ sym (key_at (joined_entries c.args.self.now d) c.args.slot (entry_added c.args.self.now.added) (c.in-New.ensures.source d is inside)));
}
