use Rattle.std.proofs.Common.{◌≡◌, sym, ap, ◌∙◌, Option, Some, None, MatchOption, ℕ, List, Bor}
use Rattle.std.specs.Option.{option_map, option_copied}
use Rattle.hc_txn.specs.Kept.{Known, find_known}
use Rattle.hc_txn.specs.declared.kept.Kept.{Kept}
use Rattle.hc_txn.proofs.KeptEntries.{find_lookup}
use Rattle.hc_txn.proofs.kept.KeptKeys.find.Goals as goal

found_as : (q : List ℕ) (ks : List Known) (r : Option (Bor Kept)) → find_known q ks ≡ option_map (λ kept. record { key = q; before = kept.before; now = kept.now }) (option_copied r)
    → MatchOption r (find_known q ks ≡ None) (λ kept. find_known q ks ≡ Some (record { key = q; before = kept.now.before; now = kept.now.now }))
found_as q ks None h = h
found_as q ks (Some kept) h = h

pub returns : goal.returns
returns c =
    found_as c.args.key.now c.args.self.now c.get.result
    (ap (find_known c.args.key.now) (sym c.self.view_is)
    ∙ find_lookup (λ k. k.items) c.args.key.now c.self.inside.tree.entries
    ∙ ap (option_map (λ kept. record { key = c.args.key.now; before = kept.before; now = kept.now })) (sym c.get.ensures.value))
