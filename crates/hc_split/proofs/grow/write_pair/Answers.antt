-- The first child and the second one.
use Rattle.std.proofs.Common.{[], ◌∷◌, ◌∙◌}
use Rattle.hc_page.specs.Drafts.{child_of, started, with_last}
use Rattle.hc_page.specs.Puts.{with_entries}
use Rattle.hc_split.proofs.Pair.{entry_1, entry_2, room, room_1, room_2, whole}
use Rattle.hc_split.proofs.grow.write_pair.Goals as goal

pub begin-draft-requires-clause-room : goal.begin-draft-requires-clause-room
begin-draft-requires-clause-room c = (room c.args.head.now c.args.first c.args.second c.args.key.now c.requires.inner c.requires.content).0

pub begin-draft-requires-clause-high : goal.begin-draft-requires-clause-high
begin-draft-requires-clause-high c = (room c.args.head.now c.args.first c.args.second c.args.key.now c.requires.inner c.requires.content).2

pub push_child-draft-requires-clause-entry : goal.push_child-draft-requires-clause-entry
push_child-draft-requires-clause-entry c = entry_1 c.args.head.now c.args.first c.args.second c.args.key.now c.requires.inner c.requires.content

pub push_child-draft-requires-clause-room : goal.push_child-draft-requires-clause-room
push_child-draft-requires-clause-room c =
    room_1 c.args.head.now c.args.first c.args.second c.args.key.now c.requires.inner c.requires.content c.begin-draft.result c.begin-draft.new.out.words c.begin-draft.ensures.total c.begin-draft.ensures.draft

pub push_child-draft-requires-2-clause-entry : goal.push_child-draft-requires-2-clause-entry
push_child-draft-requires-2-clause-entry c = entry_2 c.args.head.now c.args.first c.args.second c.args.key.now c.requires.inner c.requires.content

pub push_child-draft-requires-2-clause-room : goal.push_child-draft-requires-2-clause-room
push_child-draft-requires-2-clause-room c =
    room_2 c.args.head.now c.args.first c.args.second c.args.key.now c.requires.inner c.requires.content c.push_child-draft.result c.push_child-draft.new.out.words
    (c.push_child-draft.ensures.total ∙ c.begin-draft.ensures.total) (c.push_child-draft.ensures.draft (started c.args.head.now) c.begin-draft.ensures.draft)

pub finish-requires : goal.finish-requires
finish-requires c =
    let head = c.args.head.now in
    record {
      whole = (
        with_entries (started head) (child_of head.low.now c.args.first ∷ child_of c.args.key.now c.args.second ∷ []),
        whole head c.args.first c.args.second c.args.key.now c.requires.inner c.requires.content c.push_child-draft-2.result c.push_child-draft-2.new.out.words
            (c.push_child-draft-2.ensures.total ∙ (c.push_child-draft.ensures.total ∙ c.begin-draft.ensures.total))
            (c.push_child-draft-2.ensures.draft (with_last (started head) (child_of head.low.now c.args.first ∷ [])) (c.push_child-draft.ensures.draft (started head) c.begin-draft.ensures.draft)),
      );
    }

pub returns : goal.returns
returns c =
    let head = c.args.head.now in
    record {
      page =
          c.finish.ensures.page (with_entries (started head) (child_of head.low.now c.args.first ∷ child_of c.args.key.now c.args.second ∷ []))
          (whole head c.args.first c.args.second c.args.key.now c.requires.inner c.requires.content c.push_child-draft-2.result c.push_child-draft-2.new.out.words
          (c.push_child-draft-2.ensures.total ∙ (c.push_child-draft.ensures.total ∙ c.begin-draft.ensures.total))
          (c.push_child-draft-2.ensures.draft (with_last (started head) (child_of head.low.now c.args.first ∷ [])) (c.push_child-draft.ensures.draft (started head) c.begin-draft.ensures.draft)));
    }
