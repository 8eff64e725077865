-- What the rule says of the seat of a connection, by its view.
use Rattle.std.proofs.Common.{◌≡◌, ◌≢◌, ◌∙◌, sym, ap, subst, inl, inr, ℕ, ◌+◌, ◌-◌, ◌<◌, ◌≤◌, arith}
use Rattle.std.proofs.lemmas.Bool.{cases_lt}
use Rattle.hc_base.specs.Lookup.{Among}
use Rattle.hc_core.specs.Account.{txns}
use Rattle.hc_rule.specs.declared.view.View.{View}
use Rattle.hc_rule.specs.declared.view.Role.{Role}
use Rattle.hc_rule.specs.declared.view.Role.TheVariants.{Connection}
use Rattle.hc_rule.specs.declared.view.SeenWord.{SeenWord}
use Rattle.hc_rule.specs.declared.view.SeenPlace.{SeenPlace}
use Rattle.hc_rule.specs.Views.{Knowledge, knowledge_of}
use Rattle.hc_rule.specs.Seats.{IsDealt}
use Rattle.hc_rule.specs.Stages.{IsStage}
use Rattle.hc_rule.specs.Recorded.{IsRecorded, txns_of}
use Rattle.hc_rule.proofs.LogSteps.{size_within}
use Rattle.hc_rule.proofs.Recording.{IsSameOwn}

module _ (last seats : ℕ) (seat_at tid_at log : ℕ → ℕ) (role : ℕ → Role) (know : ℕ → Knowledge) (h : IsRecorded last seat_at tid_at log role know) (d : IsDealt seats role)
    (i conn : ℕ) (mine : role i ≡ Connection conn) (v : View) (is : know i ≡ knowledge_of v) where
  pub field_is : {A : Type 0} (f : Knowledge → A) → f (know i) ≡ f (knowledge_of v)
  field_is f = ap f is

  pub account_is : h.account conn ≡ v.account.entries
  account_is = sym (h.accounts.own i conn mine) ∙ field_is (λ k. k.account)

  pub seen_within : v.seen.0 ≤ h.size
  seen_within = subst (λ (k : Knowledge). k.seen ≤ h.size) is (h.seen.within i)

  -- a place that is taken is not past the end
  pub not_past : (c : ℕ) → log c ≢ 0 → c ≤ h.size
  not_past c taken =
      elim (cases_lt h.size c) [
        | inl past ↦ absurd (taken (h.logged.empty c past))
        | inr within ↦ within
      ]

  -- up to the end each place is taken
  pub taken_within : (c : ℕ) → 0 < c → c ≤ h.size → log c ≢ 0
  taken_within c positive within none =
      let place : c ≡ (c - 1) + 1 = omega (arith, positive) in
      let e = h.logged.sound.entries (c - 1) (omega (arith, positive, within)) in
      let id : e.1.id ≡ 0 = sym (h.logged.sound.decided e.0 e.1 (c - 1) e.2 e.3) ∙ (ap log (sym place) ∙ none) in
      let undecided = ((h.logged.sound.each e.0 e.1 e.2).numbers.undrawn id).0 in
      omega (arith, e.3, undecided)

  -- the id at a taken place was drawn
  pub id_within : (c : ℕ) → 0 < c → log c ≢ 0 → log c ≤ last
  id_within c positive taken =
      let within = not_past c taken in
      let place : c ≡ (c - 1) + 1 = omega (arith, positive) in
      let e = h.logged.sound.entries (c - 1) (omega (arith, positive, within)) in
      let id : log c ≡ e.1.id = ap log place ∙ h.logged.sound.decided e.0 e.1 (c - 1) e.2 e.3 in
      let drawn = h.logged.drawn_within e.0 e.1 e.2 in
      let room = h.logged.room in
      omega (arith, id, drawn, room)

  -- it is one of those that there are ids for
  pub place_within : (c : ℕ) → log c ≢ 0 → c ≤ last
  place_within c taken =
      let within = not_past c taken in
      let few = size_within last log h.size h.drawn (txns_of h.account) h.logged in
      let room = h.logged.room in
      omega (arith, within, few, room)

  -- an empty place is past all that the seat has seen
  pub before_end : (c : ℕ) → 0 < c → log c ≡ 0 → v.seen.0 < c
  before_end c positive none =
      elim (cases_lt v.seen.0 c) [
        | inl less ↦ less
        | inr more ↦ absurd (taken_within c positive (omega (arith, more, seen_within)) none)
      ]

  -- where the next place is empty, all that are committed are seen
  pub at_size : log (v.seen.0 + 1) ≡ 0 → h.size ≡ v.seen.0
  at_size none =
      elim (cases_lt v.seen.0 h.size) [
        | inl more ↦ absurd (taken_within (v.seen.0 + 1) (omega arith) (omega (arith, more)) none)
        | inr all ↦ omega (arith, all, seen_within)
      ]

  -- what the seat saw of words and places it has seen still
  pub words_old : (x : SeenWord) → Among x v.words → Among x (know i).words
  words_old x there = subst (λ (k : Knowledge). Among x k.words) (sym is) there

  pub places_old : (x : SeenPlace) → Among x v.places → Among x (know i).places
  places_old x there = subst (λ (k : Knowledge). Among x k.places) (sym is) there

  -- its own as it was
  pub own_same : (k : Knowledge) → k.account ≡ v.account.entries → k.stage ≡ v.stage → k.own ≡ v.own → k.word ≡ v.word → IsSameOwn k (know i)
  own_same k account stage own word = record { account = account ∙ sym (field_is (λ x. x.account)); stage = stage ∙ sym (field_is (λ x. x.stage)); own = own ∙ sym (field_is (λ x. x.own)); word = word ∙ sym (field_is (λ x. x.word)) }

  -- the stage of its connection
  pub stage_is : IsStage v.stage (txns (h.account conn))
  stage_is = subst (λ s. IsStage s (txns (h.account conn))) (field_is (λ x. x.stage)) (h.staged.stage i conn mine)
