-- Parts of the rule over equal functions, and the rule after a step of one seat.
use Rattle.std.proofs.Common.{◌≡◌, ◌∙◌, sym, ap, subst, ℕ, List, length, set}
use mathlib.Core.Option.{some}
use lib.ListN.{get_elem?}
use Rattle.hc_base.specs.Lookup.{but}
use Rattle.hc_rows.specs.declared.layout.Layout.{Layout}
use Rattle.hc_rows.specs.Regions.{page_words, map_words, rows}
use Rattle.hc_rule.specs.declared.view.View.{View}
use Rattle.hc_rule.specs.declared.view.Role.{Role}
use Rattle.hc_rule.specs.declared.view.Row.{Row}
use Rattle.hc_rule.specs.declared.view.Claim.{Claim}
use Rattle.hc_rule.specs.States.{State, IsStated}
use Rattle.hc_rule.specs.Reach.{IsReached}
use Rattle.hc_rule.specs.Recorded.{IsRecorded}
use Rattle.hc_rule.specs.Seats.{IsDealt}
use Rattle.hc_rule.specs.Rule.{Holds, Held, Recorded}
use Rattle.hc_rule.specs.Holders.{IsRegistered}
use Rattle.hc_rule.specs.Start.{LeavesOthers}
use Rattle.hc_rule.specs.Views.{Knowledge, knowledge_of, known}
use Rattle.hc_rule.proofs.Holding.{holders_along, holders_hand}
use Rattle.hc_rule.proofs.Views.{known_is, known_set, known_kept}

pub stated_along : (state : ℕ → State) (page page_2 map map_2 : ℕ → ℕ) (role role_2 : ℕ → Role) (hand hand_2 : ℕ → List Row) (claims claims_2 : ℕ → List Claim)
    → page_2 ≡ page → map_2 ≡ map → role_2 ≡ role → hand_2 ≡ hand → claims_2 ≡ claims → IsStated state page map role hand claims → IsStated state page_2 map_2 role_2 hand_2 claims_2
stated_along state page page_2 map map_2 role role_2 hand hand_2 claims claims_2 pages maps roles hands claimed h =
    subst (λ f. IsStated state page_2 map_2 role_2 hand_2 f) (sym claimed)
    (subst (λ f. IsStated state page_2 map_2 role_2 f claims) (sym hands)
    (subst (λ f. IsStated state page_2 map_2 f hand claims) (sym roles)
    (subst (λ f. IsStated state page_2 f role hand claims) (sym maps)
    (subst (λ f. IsStated state f map role hand claims) (sym pages) h))))

pub reached_along : (state : ℕ → State) (row row_2 : ℕ → List ℕ) (loaded loaded_2 hand hand_2 : ℕ → List Row)
    → row_2 ≡ row → loaded_2 ≡ loaded → hand_2 ≡ hand → IsReached state row loaded hand → IsReached state row_2 loaded_2 hand_2
reached_along state row row_2 loaded loaded_2 hand hand_2 rows loads hands h =
    subst (λ f. IsReached state row_2 loaded_2 f) (sym hands)
    (subst (λ f. IsReached state row_2 f hand) (sym loads)
    (subst (λ f. IsReached state f loaded hand) (sym rows) h))

pub recorded_along : (last : ℕ) (seat seat_2 tid tid_2 log log_2 : ℕ → ℕ) (role role_2 : ℕ → Role) (know know_2 : ℕ → Knowledge)
    → seat_2 ≡ seat → tid_2 ≡ tid → log_2 ≡ log → role_2 ≡ role → know_2 ≡ know → IsRecorded last seat tid log role know → IsRecorded last seat_2 tid_2 log_2 role_2 know_2
recorded_along last seat seat_2 tid tid_2 log log_2 role role_2 know know_2 seats tids logs roles knows h =
    subst (λ f. IsRecorded last seat_2 tid_2 log_2 role_2 f) (sym knows)
    (subst (λ f. IsRecorded last seat_2 tid_2 log_2 f know) (sym roles)
    (subst (λ f. IsRecorded last seat_2 tid_2 f role know) (sym logs)
    (subst (λ f. IsRecorded last seat_2 f log role know) (sym tids)
    (subst (λ f. IsRecorded last f tid log role know) (sym seats) h))))

-- The rule holds of other words and views which have the same size, words of pages and numbers, and rows, and in which the
-- seats have the same roles, pages, claims and loaded rows, where the owners of pages, and accounts and the log, are right.
pub holds_with : (y : Layout) (words after : List ℕ) (views views_2 : List View) → Holds y words views → length after ≡ length words → page_words y after ≡ page_words y words → map_words y after ≡ map_words y words → rows y after ≡ rows y words
    → known (λ v. v.role) views_2 ≡ known (λ v. v.role) views → known (λ v. v.pages) views_2 ≡ known (λ v. v.pages) views → known (λ v. v.claimed) views_2 ≡ known (λ v. v.claimed) views → known (λ v. v.loaded) views_2 ≡ known (λ v. v.loaded) views
    → Held views_2 → Recorded y after views_2
    → Holds y after views_2
holds_with y words after views views_2 h sizes pages maps row roles hands claims loads held recorded = record {
  layout = h.layout;
  sized = sizes ∙ h.sized;
  dealt = subst (λ f. IsDealt y.seats f) (sym roles) h.dealt;
  state = h.state;
  stated = stated_along h.state _ _ _ _ _ _ _ _ _ _ pages maps roles hands claims h.stated;
  held = held;
  reached = reached_along h.state _ _ _ _ _ _ row loads hands h.reached;
  recorded = recorded;
}

-- the owners of pages, where stages and hands are the same
pub held_along : (views views_2 : List View) → known (λ v. v.stage) views_2 ≡ known (λ v. v.stage) views → known (λ v. v.pages) views_2 ≡ known (λ v. v.pages) views → Held views → Held views_2
held_along views views_2 stages hands h = holders_along _ _ _ _ stages hands h

-- and so where words of all kinds, and what the seats know of transactions, are the same
pub holds_along : (y : Layout) (words after : List ℕ) (views views_2 : List View) → Holds y words views → length after ≡ length words → page_words y after ≡ page_words y words → map_words y after ≡ map_words y words → rows y after ≡ rows y words
    → known (λ v. v.role) views_2 ≡ known (λ v. v.role) views → known (λ v. v.pages) views_2 ≡ known (λ v. v.pages) views → known (λ v. v.claimed) views_2 ≡ known (λ v. v.claimed) views → known (λ v. v.loaded) views_2 ≡ known (λ v. v.loaded) views
    → LeavesOthers y words after → known (λ v. v.stage) views_2 ≡ known (λ v. v.stage) views → known knowledge_of views_2 ≡ known knowledge_of views
    → Holds y after views_2
holds_along y words after views views_2 h sizes pages maps row roles hands claims loads others stages knows =
    holds_with y words after views views_2 h sizes pages maps row roles hands claims loads (held_along views views_2 stages hands h.held)
    (recorded_along y.transactions _ _ _ _ _ _ _ _ _ _ others.seat others.tid others.log roles knows h.recorded)

-- The rule after a step of a registered seat that changes its hand and its claims: from both parts, of the functions with its answers
-- changed.
pub holds_after : (y : Layout) (words after : List ℕ) (views : List View) (id : ℕ) (v w : View) → Holds y words views → get_elem? views id ≡ some v → length after ≡ length words → w.role ≡ v.role → w.loaded ≡ v.loaded
    → LeavesOthers y words after → IsRegistered v.stage → knowledge_of w ≡ knowledge_of v
    → (state : ℕ → State) (page map : ℕ → ℕ) (row : ℕ → List ℕ) → page_words y after ≡ page → map_words y after ≡ map → rows y after ≡ row
    → (hand : List Row) (claims : ℕ → List Claim) → (known (λ x. x.pages) views id ≡ v.pages → w.pages ≡ hand) → known (λ x. x.claimed) (set views id w) ≡ claims
    → IsStated state page map (known (λ x. x.role) views) (but (known (λ x. x.pages) views) id hand) claims
    → IsReached state row (known (λ x. x.loaded) views) (but (known (λ x. x.pages) views) id hand)
    → Holds y after (set views id w)
holds_after y words after views id v w h at sizes role loaded others registered knows state page map row pages maps rows_are hand claims hand_is claimed stated reached =
    let roles = known_kept (λ x. x.role) views id v w at role in
    let loads = known_kept (λ x. x.loaded) views id v w at loaded in
    let hands : known (λ x. x.pages) (set views id w) ≡ but (known (λ x. x.pages) views) id hand =
    known_set (λ x. x.pages) views id v w at ∙ ap (λ xs. but (known (λ x. x.pages) views) id xs) (hand_is (known_is (λ x. x.pages) views id v at)) in
    record {
      layout = h.layout;
      sized = sizes ∙ h.sized;
      dealt = subst (λ f. IsDealt y.seats f) (sym roles) h.dealt;
      state = state;
      stated = stated_along state _ _ _ _ _ _ _ _ _ _ pages maps roles hands claimed stated;
      held =
          holders_along _ _ _ _ (known_kept (λ x. x.stage) views id v w at (ap (λ (k : Knowledge). k.stage) knows)) hands
          (holders_hand (known (λ x. x.stage) views) (known (λ x. x.pages) views) id hand (subst (λ s. IsRegistered s) (sym (known_is (λ x. x.stage) views id v at)) registered) h.held);
      reached = reached_along state _ _ _ _ _ _ rows_are loads hands reached;
      recorded = recorded_along y.transactions _ _ _ _ _ _ _ _ _ _ others.seat others.tid others.log roles (known_kept knowledge_of views id v w at knows) h.recorded;
    }
