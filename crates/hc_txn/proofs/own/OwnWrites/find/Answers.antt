use Rattle.std.proofs.Common.{◌≡◌, ◌∙◌, ap, ℕ, List, Option, Some, None, MatchOption, Bor, reverse}
use Rattle.hc_core.specs.Account.{HoldsKey}
use Rattle.hc_base.specs.Lookup.{Among}
use Rattle.hc_txn.specs.Kept.{Known, find_known, now_at, own_of, records_before}
use Rattle.hc_txn.specs.declared.kept.Kept.{Kept}
use Rattle.hc_txn.proofs.KnownKeys.{found_record, found_not}
use Rattle.hc_txn.proofs.Histories.{latest_stands}
use Rattle.hc_txn.proofs.own.OwnWrites.find.Goals as goal

kept_as : (q : List ℕ) (ks : List Known) (r : Option (Bor Kept))
    → MatchOption r (find_known q ks ≡ None) (λ kept. find_known q ks ≡ Some (record { key = q; before = kept.now.before; now = kept.now.now }))
    → MatchOption r (HoldsKey (records_before ks) q → ⊥) (λ kept. Among (record { key = q; rec = kept.now.before }) (records_before ks))
kept_as q ks None h = found_not ks q h
kept_as q ks (Some kept) h = found_record ks q _ h

now_as : (q : List ℕ) (ks : List Known) (last : Option (Option (List ℕ))) (r : Option (Bor Kept)) → last ≡ now_at ks q
    → MatchOption r (find_known q ks ≡ None) (λ kept. find_known q ks ≡ Some (record { key = q; before = kept.now.before; now = kept.now.now }))
    → MatchOption r (last ≡ None) (λ kept. last ≡ kept.now.now)
now_as q ks last None e h = e ∙ ap own_of h
now_as q ks last (Some kept) e h = e ∙ ap own_of h

pub returns-clause-kept : goal.returns-clause-kept
returns-clause-kept c = rw (← c.self.view_is) (kept_as c.args.key.now c.self.inside.keys c.find.result c.find.ensures)

pub returns-clause-now : goal.returns-clause-now
returns-clause-now c =
    rw (← c.self.view_is)
    (now_as c.args.key.now c.self.inside.keys _ c.find.result
    (latest_stands (now_at c.self.inside.keys) (reverse c.self.inside.history.items) c.args.key.now c.self.invariant.rooted) c.find.ensures)
