-- The entries with lesser keys, the new one, and the entries with greater keys.
use Rattle.std.proofs.Common.{◌+◌, ◌-◌, ◌++◌, [], ◌∷◌, take, drop, sym, subst, ◌∙◌, arith, append_assoc}
use Rattle.hc_base.specs.Layout.{IsPage}
use Rattle.hc_page.specs.Drafts.{entry_of}
use Rattle.hc_page.specs.Puts.{with_entries}
use Rattle.hc_page.proofs.Entries.{count_is}
use Rattle.hc_page.proofs.Putting.{put_is}
use Rattle.hc_page.proofs.Changed.{can_begin_put, has_room_put, can_end_put}
use Rattle.hc_page.proofs.rewrite.with_put.Goals as goal

pub begin_with-draft-requires : goal.begin_with-draft-requires
begin_with-draft-requires c =
    let h = c.requires.put in
    let words = c.args.page.now.words in
    let b = c.around-around.result.before in
    let a = c.around-around.result.after in
    record { begin = (h.0, can_begin_put words (entry_of c.args.new.now) h.0 b a c.count.result (b + 1 + (c.count.result - a)) h.1 (c.around-around.ensures.around h.0 h.1.page) (c.count.ensures ∙ count_is words h.0 h.1.page) (omega arith)) }

pub push_version-draft-requires-clause-room : goal.push_version-draft-requires-clause-room
push_version-draft-requires-clause-room c =
    let h = c.requires.put in
    let words = c.args.page.now.words in
    let b = c.around-around.result.before in
    let a = c.around-around.result.after in
    let e = entry_of c.args.new.now in
    let around = c.around-around.ensures.around h.0 h.1.page in
    let n = c.count.ensures ∙ count_is words h.0 h.1.page in
    has_room_put words e h.0 b a c.count.result c.begin_with-draft.result c.begin_with-draft.new.out.words h.1 around n c.begin_with-draft.ensures.total
    (c.begin_with-draft.ensures.draft h.0 (can_begin_put words e h.0 b a c.count.result (b + 1 + (c.count.result - a)) h.1 around n (omega arith)))

pub end_with-requires : goal.end_with-requires
end_with-requires c =
    let h = c.requires.put in
    let words = c.args.page.now.words in
    let b = c.around-around.result.before in
    let a = c.around-around.result.after in
    let e = entry_of c.args.new.now in
    let around = c.around-around.ensures.around h.0 h.1.page in
    let n = c.count.ensures ∙ count_is words h.0 h.1.page in
    record {
      end = (
        h.0,
        take b h.0.entries ++ (e ∷ []),
        can_end_put words e h.0 b a c.count.result c.push_version-draft.result c.push_version-draft.new.out.words h.1 around n (c.push_version-draft.ensures.total ∙ c.begin_with-draft.ensures.total)
            (c.push_version-draft.ensures.draft (with_entries h.0 (take b h.0.entries))
            (c.begin_with-draft.ensures.draft h.0 (can_begin_put words e h.0 b a c.count.result (b + 1 + (c.count.result - a)) h.1 around n (omega arith)))),
      );
    }

pub returns : goal.returns
returns c = record {
  page = λ d can.
      let words = c.args.page.now.words in
      let b = c.around-around.result.before in
      let a = c.around-around.result.after in
      let e = entry_of c.args.new.now in
      let around = c.around-around.ensures.around d can.page in
      let n = c.count.ensures ∙ count_is words d can.page in
      subst (λ zs. IsPage c.end_with.new.out.words (with_entries d zs)) (append_assoc (take b d.entries) (e ∷ []) (drop a d.entries) ∙ sym (put_is d.entries e b a around))
      (c.end_with.ensures.page d (take b d.entries ++ (e ∷ []))
      (can_end_put words e d b a c.count.result c.push_version-draft.result c.push_version-draft.new.out.words can around n (c.push_version-draft.ensures.total ∙ c.begin_with-draft.ensures.total)
      (c.push_version-draft.ensures.draft (with_entries d (take b d.entries))
      (c.begin_with-draft.ensures.draft d (can_begin_put words e d b a c.count.result (b + 1 + (c.count.result - a)) can around n (omega arith))))));
}
