use Rattle.std.proofs.Common.{◌≡◌, ◌∙◌, sym, true}
use Rattle.hc_core.specs.Running.{holds_key}
use Rattle.hc_core.proofs.Steps.{held_of, not_both_ways, written_of, when_map, when_never}
use Rattle.hc_core.proofs.writers.writer_in.Goals as goal

-- what is kept does not have the key
pub returns-then-not-has : goal.returns-then-not-has
returns-then-not-has c = λ h.
    when_never _ _ _ (λ t k q. not_both_ways _ (held_of c.in-Some.running.now t c.args.key.now k q.0 q.1)
    (sym c.has.ensures ∙ c.if-not-has.true)) c.in-Some.ensures h

-- and here it does
pub returns : goal.returns
returns c =
    let held : holds_key c.args.key.now c.in-Some.running.now.writes.put ≡ true =
    sym c.has.ensures ∙ c.if-not-has.false in
    when_map _ _ _ (λ t k. let s = written_of c.in-Some.running.now t c.args.key.now k c.if-running-ne0.false held in (s.1, s.0, k.id, k.ord)) c.in-Some.ensures
