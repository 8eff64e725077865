-- The page's key, or the new one.
use Rattle.std.proofs.Common.{length, ap, sym, ◌∙◌}
use Rattle.hc_page.proofs.Entries.{entry_there, key_at}
use Rattle.hc_split.specs.Joined.{entry_added, joined_entries}
use Rattle.hc_split.proofs.joined.Joined.key_len.Goals as goal

pub key_len-requires : goal.key_len-requires
key_len-requires c =
    let h = c.requires.there in
    let from = c.in-Page.ensures.source h.0 h.1 h.2 in
    let there = entry_there h.0.entries c.in-Page.of from.1 in
    record { entry = (h.0, there.0, h.1.will.page, there.1) }

pub returns-in-Page : goal.returns-in-Page
returns-in-Page c = record {
  len = λ d is inside.
      let from = c.in-Page.ensures.source d is inside in
      let there = entry_there d.entries c.in-Page.of from.1 in
      c.key_len.ensures.len d there.0 is.will.page there.1 ∙ sym (ap (λ k. length k) (key_at (joined_entries c.args.self.now d) c.args.slot there.0 (from.0 ∙ there.1)));
}

pub returns-in-New : goal.returns-in-New
returns-in-New c = record {
  len = λ d is inside.
      ap (λ k. length k) (c.key.ensures ∙ sym (key_at (joined_entries c.args.self.now d) c.args.slot (entry_added c.args.self.now.added) (c.in-New.ensures.source d is inside)));
}
