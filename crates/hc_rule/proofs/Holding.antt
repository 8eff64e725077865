-- How holders of pages go on: a step leaves stages and hands, or changes those of one seat.
use Rattle.std.proofs.Common.{◌≡◌, subst, sym, inl, ℕ, List, [], ◌∷◌, refl}
use Rattle.hc_base.specs.Lookup.{Among, but}
use Rattle.hc_base.proofs.Lookups.{each_but}
use Rattle.hc_base.specs.declared.seat_word.SeatWord.{SeatWord}
use Rattle.hc_base.specs.declared.seat_word.SeatWord.TheVariants as seat
use Rattle.hc_rule.specs.declared.view.Row.{Row}
use Rattle.hc_rule.specs.Holders.{IsRegistered, AreHolders}

-- the same stages and hands
pub holders_along : (stage stage_2 : ℕ → SeatWord) (hand hand_2 : ℕ → List Row) → stage_2 ≡ stage → hand_2 ≡ hand → AreHolders stage hand → AreHolders stage_2 hand_2
holders_along stage stage_2 hand hand_2 stages hands h =
    subst (λ f. AreHolders stage_2 f) (sym hands) (subst (λ f. AreHolders f hand) (sym stages) h)

-- a registered seat's hand changes
pub holders_hand : (stage : ℕ → SeatWord) (hand : ℕ → List Row) (i : ℕ) (rows : List Row) → IsRegistered (stage i) → AreHolders stage hand → AreHolders stage (but hand i rows)
holders_hand stage hand i rows registered h = record {
  registered = λ j row. each_but hand i rows (λ k xs. Among row xs → IsRegistered (stage k)) (λ there. registered) (λ k differ there. h.registered k row there) j;
}

-- the stage of a seat changes, which is registered then or owns no page
pub holders_stage : (stage : ℕ → SeatWord) (hand : ℕ → List Row) (i : ℕ) (s : SeatWord) → ((row : Row) → Among row (hand i) → IsRegistered s) → AreHolders stage hand → AreHolders (but stage i s) hand
holders_stage stage hand i s right h = record {
  registered = λ j row. each_but stage i s (λ k x. Among row (hand k) → IsRegistered x) (λ there. right row there) (λ k differ there. h.registered k row there) j;
}

-- who owns no page has an empty hand
no_row : (rows : List Row) → ((row : Row) → Among row rows → ⊥) → rows ≡ []
no_row [] none = refl
no_row (row ∷ rows) none = absurd (none row (inl refl))

-- an idle seat owns none
pub idle_none : (stage : ℕ → SeatWord) (hand : ℕ → List Row) → AreHolders stage hand → (i : ℕ) → stage i ≡ seat.Idle → hand i ≡ []
idle_none stage hand h i idle = no_row (hand i) (λ row there. subst IsRegistered idle (h.registered i row there))
