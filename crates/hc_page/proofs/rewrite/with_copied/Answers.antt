-- The entries with lesser keys, the other page's one, and the entries with greater keys.
use Rattle.std.proofs.Common.{◌+◌, ◌-◌, ◌++◌, [], ◌∷◌, take, drop, sym, subst, ◌∙◌, arith, append_assoc}
use Rattle.hc_base.specs.Layout.{IsPage}
use Rattle.hc_page.specs.Puts.{IsAround, with_entries}
use Rattle.hc_page.proofs.Entries.{count_is}
use Rattle.hc_page.proofs.Putting.{put_is}
use Rattle.hc_page.proofs.Changed.{can_begin_put, has_room_put, can_end_put}
use Rattle.hc_page.proofs.rewrite.with_copied.Goals as goal

pub begin_with-draft-requires : goal.begin_with-draft-requires
begin_with-draft-requires c =
    let h = c.requires.put in
    let can = h.4 in
    let e = h.2 in
    let words = c.args.page.now.words in
    let b = c.around-around.result.before in
    let a = c.around-around.result.after in
    let around = subst (λ k. IsAround h.0.entries k b a) (c.as_slice.ensures.bytes ∙ c.entry_key-key.ensures.key h.1 e h.3) (c.around-around.ensures.around h.0 can.page) in
    record { begin = (h.0, can_begin_put words e h.0 b a c.count.result (b + 1 + (c.count.result - a)) can around (c.count.ensures ∙ count_is words h.0 can.page) (omega arith)) }

pub push_copied-draft-requires : goal.push_copied-draft-requires
push_copied-draft-requires c =
    let h = c.requires.put in
    let can = h.4 in
    let e = h.2 in
    let words = c.args.page.now.words in
    let b = c.around-around.result.before in
    let a = c.around-around.result.after in
    let around = subst (λ k. IsAround h.0.entries k b a) (c.as_slice.ensures.bytes ∙ c.entry_key-key.ensures.key h.1 e h.3) (c.around-around.ensures.around h.0 can.page) in
    let n = c.count.ensures ∙ count_is words h.0 can.page in
    record {
      room = (
        h.1,
        e,
        h.3.page,
        h.3.there,
        has_room_put words e h.0 b a c.count.result c.begin_with-draft.result c.begin_with-draft.new.out.words can around n c.begin_with-draft.ensures.total
            (c.begin_with-draft.ensures.draft h.0 (can_begin_put words e h.0 b a c.count.result (b + 1 + (c.count.result - a)) can around n (omega arith))),
      );
    }

pub end_with-requires : goal.end_with-requires
end_with-requires c =
    let h = c.requires.put in
    let can = h.4 in
    let e = h.2 in
    let words = c.args.page.now.words in
    let b = c.around-around.result.before in
    let a = c.around-around.result.after in
    let around = subst (λ k. IsAround h.0.entries k b a) (c.as_slice.ensures.bytes ∙ c.entry_key-key.ensures.key h.1 e h.3) (c.around-around.ensures.around h.0 can.page) in
    let n = c.count.ensures ∙ count_is words h.0 can.page in
    let begun = c.begin_with-draft.ensures.draft h.0 (can_begin_put words e h.0 b a c.count.result (b + 1 + (c.count.result - a)) can around n (omega arith)) in
    record {
      end = (
        h.0,
        take b h.0.entries ++ (e ∷ []),
        can_end_put words e h.0 b a c.count.result c.push_copied-draft.result c.push_copied-draft.new.out.words can around n (c.push_copied-draft.ensures.total ∙ c.begin_with-draft.ensures.total)
            (c.push_copied-draft.ensures.draft (with_entries h.0 (take b h.0.entries)) h.1 e begun h.3.page h.3.there),
      );
    }

pub returns : goal.returns
returns c = record {
  page = λ d other e has can.
      let words = c.args.page.now.words in
      let b = c.around-around.result.before in
      let a = c.around-around.result.after in
      let around = subst (λ k. IsAround d.entries k b a) (c.as_slice.ensures.bytes ∙ c.entry_key-key.ensures.key other e has) (c.around-around.ensures.around d can.page) in
      let n = c.count.ensures ∙ count_is words d can.page in
      let begun = c.begin_with-draft.ensures.draft d (can_begin_put words e d b a c.count.result (b + 1 + (c.count.result - a)) can around n (omega arith)) in
      subst (λ zs. IsPage c.end_with.new.out.words (with_entries d zs)) (append_assoc (take b d.entries) (e ∷ []) (drop a d.entries) ∙ sym (put_is d.entries e b a around))
      (c.end_with.ensures.page d (take b d.entries ++ (e ∷ []))
      (can_end_put words e d b a c.count.result c.push_copied-draft.result c.push_copied-draft.new.out.words can around n (c.push_copied-draft.ensures.total ∙ c.begin_with-draft.ensures.total)
      (c.push_copied-draft.ensures.draft (with_entries d (take b d.entries)) other e begun has.page has.there)));
}
