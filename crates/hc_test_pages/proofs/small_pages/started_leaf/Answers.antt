use Rattle.hc_page.specs.Drafts.{started}
use Rattle.hc_test_pages.proofs.SmallPages.{leaf_room}
use Rattle.hc_test_pages.proofs.small_pages.started_leaf.Goals as goal

pub begin-draft-requires-clause-room : goal.begin-draft-requires-clause-room
begin-draft-requires-clause-room c = leaf_room (started c.args.head.now) c.requires.content
