-- What a seat has noted is true of the transactions, and stays noted.
use Rattle.std.proofs.Common.{◌≡◌, ◌≢◌, ◌∙◌, sym, ap, subst, ⊎_elim, inl, inr, ◌⊎◌, ℕ, ◌+◌, ◌-◌, ◌<◌, ◌≤◌, arith}
use Rattle.std.proofs.lemmas.Bool.{cases_lt}
use Rattle.hc_base.specs.Lookup.{Among}
use Rattle.hc_base.specs.declared.tid_word.TidWord.{TidWord}
use Rattle.hc_base.specs.declared.tid_word.TidWord.TheVariants as tid
use Rattle.hc_core.specs.Account.{Txn}
use Rattle.hc_core.proofs.Ordered.{one_id}
use Rattle.hc_rule.specs.declared.view.View.{View}
use Rattle.hc_rule.specs.declared.view.Role.{Role}
use Rattle.hc_rule.specs.Views.{Knowledge, knowledge_of}
use Rattle.hc_rule.specs.Recorded.{IsRecorded, txns_of}
use Rattle.hc_rule.specs.Seen.{IsAbove, IsTxn, Stays}
use Rattle.hc_tidlog.specs.Noted.{HasNoted, HasFound, ShowsCommitted, ShowsRolledBack, IsNotBelow, ShowsUndecided, IsTrueOf, AreTrue, KeepsNotes}
use Rattle.hc_rule.specs.Kinds.TidWord.{saw}
use Rattle.hc_rule.specs.Kinds.LoadLog.{Looking, Looks, Begins, Proposes, at_end}
use Rattle.hc_rule.specs.Kinds.LoadPage.{with_found}
use Rattle.hc_rule.specs.Kinds.StorePage.{stored}
use Rattle.hc_rule.specs.Kinds.StoreSeat.{stood}
use Rattle.hc_base.specs.declared.page_word.PageWord.{PageWord}
use Rattle.hc_base.specs.declared.page_word.PageWord.TheVariants as page
use Rattle.hc_base.specs.declared.seat_word.SeatWord.{SeatWord}
use Rattle.hc_base.specs.declared.seat_word.SeatWord.TheVariants as seat

module _ (last : ℕ) (seat_at tid_at log : ℕ → ℕ) (role : ℕ → Role) (know : ℕ → Knowledge) (h : IsRecorded last seat_at tid_at log role know) where
  -- what holds of one transaction with an id holds of each
  each_of : (id conn ord : ℕ) (P : Txn → Type 0) → id ≢ 0 → IsTxn (txns_of h.account) id conn ord P → IsTrueOf (txns_of h.account) id P
  each_of id conn ord P some is j t there same =
      let one = one_id h.logged.sound conn j is.0 t is.1 there (λ none. some (sym is.2 ∙ none)) (is.2 ∙ sym same) in
      subst P one.1 is.4

  -- the id at a place of the log is that of the transaction which has the commit number
  at_place : (c id : ℕ) → 0 < c → log c ≡ id → id ≢ 0 → IsTrueOf (txns_of h.account) id (λ t. t.place ≡ c)
  at_place c id positive at some j t there same =
      let place : c ≡ (c - 1) + 1 = omega (arith, positive) in
      let within : c ≤ h.size =
      elim (cases_lt h.size c) [
        | inl past ↦ absurd (some (sym at ∙ h.logged.empty c past))
        | inr is ↦ is
      ] in
      let e = h.logged.sound.entries (c - 1) (omega (arith, positive, within)) in
      let id_is : e.1.id ≡ id = sym (h.logged.sound.decided e.0 e.1 (c - 1) e.2 e.3) ∙ (ap log (sym place) ∙ at) in
      let one = one_id h.logged.sound e.0 j e.1 t e.2 there (λ none. some (sym id_is ∙ none)) (id_is ∙ sym same) in
      subst (λ (u : Txn). u.place ≡ c) one.1 (e.3 ∙ sym place)

  module _ (i : ℕ) (v : View) (is : know i ≡ knowledge_of v) where
    word_is : (id : ℕ) (form : TidWord) (seen : ℕ) → HasNoted v id form seen → (id ≢ 0) × Stays h.form (txns_of h.account) id seen form
    word_is id form seen there =
        let x = h.seen.words i (record { tid = record { 0 = id }; word = form; seen = record { 0 = seen } }) (subst (λ (k : Knowledge). Among (record { tid = record { 0 = id }; word = form; seen = record { 0 = seen } }) k.words) (sym is) there) in
        (x.0, x.2)

    place_is : (c id : ℕ) → HasFound v c id → (log c ≡ id) × (id ≢ 0)
    place_is c id there = h.seen.places i (record { cid = record { 0 = c }; tid = record { 0 = id } }) (subst (λ (k : Knowledge). Among (record { cid = record { 0 = c }; tid = record { 0 = id } }) k.places) (sym is) there)

    committed_is : (id c : ℕ) → ShowsCommitted v id c → IsTrueOf (txns_of h.account) id (λ t. t.place ≡ c)
    committed_is id c shown =
        ⊎_elim
        (λ (said : (conn : ℕ) × (ord : ℕ) × (seen : ℕ) × HasNoted v id (tid.Committed conn ord (record { 0 = c })) seen).
        let w = word_is id (tid.Committed said.0 said.1 (record { 0 = c })) said.2 said.3 in
        each_of id said.0 said.1 (λ t. t.place ≡ c) w.0 (w.1.0, w.1.1, w.1.2, w.1.3, w.1.4.0))
        (λ (found : HasFound v c id). let p = place_is c id found in at_place c id shown.0 p.0 p.1)
        shown.1

    rolled_back_is : (id : ℕ) → ShowsRolledBack v id → IsTrueOf (txns_of h.account) id (λ t. t.place ≡ 0)
    rolled_back_is id shown =
        let w = word_is id (tid.RolledBack shown.0 shown.1) shown.2 shown.3 in
        each_of id shown.0 shown.1 (λ t. t.place ≡ 0) w.0 w.1.0

    -- where it validates a number, it is not committed at that or below the bound
    not_below : (id bound c conn ord : ℕ) → id ≢ 0 → IsNotBelow v id bound c → IsTxn (txns_of h.account) id conn ord (λ t. IsAbove bound t ⊎ (t.place ≡ c)) → IsTxn (txns_of h.account) id conn ord (λ t. IsAbove bound t)
    not_below id bound c conn ord some not is = (
      is.0,
      is.1,
      is.2,
      is.3,
      ⊎_elim
          (λ (above : IsAbove bound is.0). above)
          (λ (at : is.0.place ≡ c). ⊎_elim
          (λ (more : bound < c). λ placed. omega (arith, more, at))
          (λ (another : (other : ℕ) × (other ≢ id) × (0 < c) × HasFound v c other).
          let place : c ≡ (c - 1) + 1 = omega (arith, another.2) in
          absurd (another.1 (sym (place_is c another.0 another.3).0 ∙ (ap log place ∙ (h.logged.sound.decided conn is.0 (c - 1) is.1 (at ∙ place) ∙ is.2)))))
          not)
          is.4,
    )

    undecided_is : (id bound : ℕ) → ShowsUndecided v id bound → IsTrueOf (txns_of h.account) id (λ t. IsAbove bound t)
    undecided_is id bound shown =
        ⊎_elim
        (λ (live : HasNoted v id (tid.Live shown.0 shown.1) bound).
        let w = word_is id (tid.Live shown.0 shown.1) bound live in
        each_of id shown.0 shown.1 (λ t. IsAbove bound t) w.0 w.1)
        (λ (validating : (c : ℕ) × HasNoted v id (tid.Validating shown.0 shown.1 (record { 0 = c })) bound × IsNotBelow v id bound c).
        let w = word_is id (tid.Validating shown.0 shown.1 (record { 0 = validating.0 })) bound validating.1 in
        each_of id shown.0 shown.1 (λ t. IsAbove bound t) w.0 (not_below id bound validating.0 shown.0 shown.1 w.0 validating.2 w.1))
        shown.2

    pub notes_are_true : AreTrue (txns_of h.account) v
    notes_are_true = record { committed = committed_is; rolled_back = rolled_back_is; undecided = undecided_is }

-- all notes are there, and one more of a word, or of a place
pub keeps_all : (v w : View) → w.words ≡ v.words → w.places ≡ v.places → KeepsNotes v w
keeps_all v w words places = (λ x there. subst (Among x) (sym words) there, λ x there. subst (Among x) (sym places) there)

pub keeps_saw : (place id : ℕ) (form : TidWord) (v : View) → KeepsNotes v (saw place id form v)
keeps_saw place id tid.Empty v = (λ x there. there, λ x there. there)
keeps_saw place id (tid.Live conn ord) v = (λ x there. inr there, λ x there. there)
keeps_saw place id (tid.Validating conn ord c) v = (λ x there. inr there, λ x there. there)
keeps_saw place id (tid.Committed conn ord c) v = (λ x there. inr there, λ x there. there)
keeps_saw place id (tid.RolledBack conn ord) v = (λ x there. inr there, λ x there. there)

pub keeps_at_end : (kind : Looking) (conn place : ℕ) (v : View) → KeepsNotes v (at_end kind conn (with_found place 0 v))
keeps_at_end Looks conn place v = (λ x there. there, λ x there. there)
keeps_at_end Begins conn place v = (λ x there. there, λ x there. there)
keeps_at_end Proposes conn place v = (λ x there. there, λ x there. there)

pub keeps_stored : (p : ℕ) (form : PageWord) (v : View) → KeepsNotes v (stored p form v)
keeps_stored p page.Free v = (λ x there. there, λ x there. there)
keeps_stored p (page.Owned at next) v = (λ x there. there, λ x there. there)
keeps_stored p (page.Mapped number) v = (λ x there. there, λ x there. there)
keeps_stored p (page.Pending at next) v = (λ x there. there, λ x there. there)
keeps_stored p (page.Limbo stamp) v = (λ x there. there, λ x there. there)

pub keeps_stood : (form : SeatWord) (conn : ℕ) (v : View) → KeepsNotes v (stood form conn v)
keeps_stood seat.Idle conn v = (λ x there. there, λ x there. there)
keeps_stood seat.Starting conn v = (λ x there. there, λ x there. there)
keeps_stood (seat.Snapshot snapshot) conn v = (λ x there. there, λ x there. there)
