use Rattle.std.proofs.Common.{◌≡◌, sym, ap, ◌∙◌, None, Some, Option, subst, IsSome, refl, ℕ, List}
use Rattle.std.specs.Option.{option_map}
use Rattle.std.proofs.lemmas.Bool.{false≢true}
use Rattle.hc_txn.specs.Kept.{Known, find_known, with_now, now_at, own_of}
use Rattle.hc_txn.proofs.KeptEntries.{find_lookup, set_entry, known_as, seen}
use Rattle.hc_txn.specs.declared.kept.Kept.{Kept}
use Rattle.hc_txn.proofs.kept.KeptKeys.set.Goals as goal

not_found : (q : List ℕ) (ks : List Known) (found : Option Kept) → find_known q ks ≡ option_map (known_as q) found → None ≡ found → IsSome (find_known q ks) → ⊥
not_found q ks None h e some = false≢true (subst (λ (k : Option Known). IsSome k) h some)
not_found q ks (Some k) h e some = cc

found_now : (q : List ℕ) (ks : List Known) (k : Kept) (found : Option Kept) → find_known q ks ≡ option_map (known_as q) found → Some k ≡ found → k.now ≡ now_at ks q
found_now q ks k found h e = sym (ap own_of (h ∙ ap (option_map (known_as q)) (sym e)))

pub unreachable-requires : goal.unreachable-requires
unreachable-requires c =
    not_found c.args.key.now c.args.self.now _
    (ap (find_known c.args.key.now) (sym c.self.view_is) ∙ find_lookup (λ k. k.items) c.args.key.now c.self.inside.tree.entries)
    c.in-None.ensures.value c.requires

pub returns-clause-was : goal.returns-clause-was
returns-clause-was c =
    c.replace.ensures.value
    ∙ found_now c.args.key.now c.args.self.now c.in-Some.kept.now _
    (ap (find_known c.args.key.now) (sym c.self.view_is) ∙ find_lookup (λ k. k.items) c.args.key.now c.self.inside.tree.entries)
    c.in-Some.ensures.value

pub returns-clause-set : goal.returns-clause-set
returns-clause-set c =
    let h = c.get_mut.follows.holds (record { before = c.in-Some.kept.now.before; now = c.replace.new.dest }) in
    ap (seen (λ k. k.items)) h.0
    ∙ set_entry (λ k. k.items) c.args.key.now c.self.inside.tree.entries c.in-Some.kept.now (record { before = c.in-Some.kept.now.before; now = c.replace.new.dest }) refl (sym c.in-Some.ensures.value)
    ∙ ap (λ ks. with_now c.args.key.now c.replace.new.dest ks) c.self.view_is
    ∙ ap (λ now. with_now c.args.key.now now c.args.self.now) c.replace.ensures.after
