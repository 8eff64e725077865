-- What is after a draw, where room for writes is made next.
use Rattle.std.proofs.Common.{◌≡◌, ◌≢◌, ◌∙◌, sym, ap, subst, ℕ, ◌+◌, [], None, arith}
use Rattle.hc_core.specs.Account.{WhenOpen, after_draw, newest_changed}
use Rattle.hc_core.specs.Calls.{HasDrawn}
use Rattle.hc_core.specs.Diary.{entry_of}
use Rattle.hc_core.specs.Machine.{Answers, IsEnabled, Machine, after, txns_of}
use Rattle.hc_core.specs.Sound.{IsSound}
use Rattle.hc_core.specs.declared.event.Event.TheVariants.{Draw}
use Rattle.hc_core.specs.declared.outcome.Outcome.{Outcome}
use Rattle.hc_core.specs.declared.outcome.Outcome.TheVariants.{Drew}
use Rattle.hc_core.proofs.Entered.{opened}
use Rattle.hc_core.proofs.Ordered.{newest_sound}
use Rattle.hc_core.proofs.Steps.{answer_of, txns_here}
use Rattle.hc_core.proofs.Entered.{in_range}

-- a transaction that may draw has drawn the next id
pub has_drawn : (m now : Machine) (i ord : ℕ) (outcome : Outcome) → IsSound m → IsEnabled m (Draw i ord) → WhenOpen (txns_of m i) (λ t. (t.id ≡ 0) × (t.weight ≡ None))
    → Answers m (Draw i ord) outcome → now ≡ after m (Draw i ord) outcome → HasDrawn i ord m now
has_drawn m now i ord outcome sound enabled fresh answers is =
    let drew : Outcome = Drew (record { 0 = m.drawn + 1 }) in
    let named = answer_of m (Draw i ord) outcome enabled answers in
    let now_is : now ≡ after m (Draw i ord) drew = is ∙ ap (after m (Draw i ord)) named in
    let o = opened (txns_of m i) (λ t. (t.id ≡ 0) × (t.weight ≡ None)) fresh in
    let written = ((newest_sound sound.sound i o.t o.rest o.is).writes.undrawn (o.holds).0).0 in
    let here = txns_here m i (entry_of (Draw i ord) drew) (in_range m i o.t o.rest o.is) ∙ ap (newest_changed (after_draw ord drew)) o.is in
    record {
      answers = subst (Answers m (Draw i ord)) named answers;
      after = now_is;
      open_now = subst (λ (n : Machine). WhenOpen (txns_of n i) (λ t. (t.id ≢ 0) × (t.weight ≡ None) × (t.write_set ≡ []))) (sym now_is)
          (subst (λ ts. WhenOpen ts (λ t. (t.id ≢ 0) × (t.weight ≡ None) × (t.write_set ≡ []))) (sym here)
          (o.running, ((λ none. omega (arith, none)), (o.holds).1, written)));
    }
