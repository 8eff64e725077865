use Rattle.std.proofs.Common.{ap, ◌∙◌, None}
use Rattle.hc_txn.specs.Kept.{with_known}
use Rattle.hc_txn.proofs.KeptEntries.{add_entry, seen}
use Rattle.hc_txn.proofs.kept.KeptKeys.add.Goals as goal

pub returns-clause-added : goal.returns-clause-added
returns-clause-added c =
    ap (seen (λ k. k.items)) c.in_ok-insert.ensures.entries
    ∙ add_entry (λ k. k.items) c.self.inside.tree.entries c.args.key (record { before = c.args.before; now = None })
    ∙ ap (with_known (record { key = c.args.key.items; before = c.args.before; now = None })) c.self.view_is
