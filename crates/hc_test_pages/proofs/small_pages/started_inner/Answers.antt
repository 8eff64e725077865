use Rattle.std.proofs.Common.{[], ◌∷◌, ◌∙◌}
use Rattle.hc_page.specs.Drafts.{child_of, started}
use Rattle.hc_page.specs.Puts.{with_entries}
use Rattle.hc_test_pages.proofs.SmallPages.{entry, entry_room, room, whole}
use Rattle.hc_test_pages.proofs.small_pages.started_inner.Goals as goal

pub begin-draft-requires-clause-room : goal.begin-draft-requires-clause-room
begin-draft-requires-clause-room c = room c.args.head.now c.args.first c.requires.inner c.requires.content

pub push_child-draft-requires-clause-entry : goal.push_child-draft-requires-clause-entry
push_child-draft-requires-clause-entry c = entry c.args.head.now c.args.first c.requires.inner c.requires.content

pub push_child-draft-requires-clause-room : goal.push_child-draft-requires-clause-room
push_child-draft-requires-clause-room c =
    entry_room c.args.head.now c.args.first c.requires.inner c.requires.content c.begin-draft.result c.begin-draft.new.out.words c.begin-draft.ensures.total c.begin-draft.ensures.draft

pub finish-requires : goal.finish-requires
finish-requires c =
    let head = c.args.head.now in
    record {
      whole = (
        with_entries (started head) (child_of head.low.now c.args.first ∷ []),
        whole head c.args.first c.requires.inner c.requires.content c.push_child-draft.result c.push_child-draft.new.out.words (c.push_child-draft.ensures.total ∙ c.begin-draft.ensures.total)
            (c.push_child-draft.ensures.draft (started head) c.begin-draft.ensures.draft),
      );
    }

pub returns : goal.returns
returns c =
    let head = c.args.head.now in (
      with_entries (started head) (child_of head.low.now c.args.first ∷ []),
      record {
        page = c.finish.ensures.page (with_entries (started head) (child_of head.low.now c.args.first ∷ []))
            (whole head c.args.first c.requires.inner c.requires.content c.push_child-draft.result c.push_child-draft.new.out.words (c.push_child-draft.ensures.total ∙ c.begin-draft.ensures.total)
            (c.push_child-draft.ensures.draft (started head) c.begin-draft.ensures.draft));
        inner = c.requires.inner;
      },
    )
