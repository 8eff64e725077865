use Rattle.std.proofs.Common.{◌∙◌, sym, subst, refl, ℕ, List}
use Rattle.std.proofs.lemmas.Bool.{true≢false}
use Rattle.hc_range.specs.Ranges.{InRange}
use Rattle.hc_txn.proofs.Logging.{empty_logged, empty_range}
use Rattle.hc_txn.proofs.txn.Txn.last.Goals as goal

pub returns-then-not-contains-clause-last : goal.returns-then-not-contains-clause-last
returns-then-not-contains-clause-last g c =
    let empty = empty_range c.args.range.now
    (λ inside. true≢false (sym (c.contains.ensures.1 (subst (λ (lo : List ℕ). InRange c.args.range.now lo) (sym c.as_slice.ensures) inside)) ∙ c.if-not-contains.true)) in
    (refl, λ store agrees key inside. absurd (empty key inside), empty_logged c.args.range.now c.args.self.now.log empty)
