-- What a whole transcript is cut into is what the walk over it finds.
use Rattle.std.proofs.Common.{◌≡◌, ◌∙◌, refl, sym, ap, subst, ℕ, ◌+◌, Option, Some, None, List, [], ◌∷◌, ◌++◌, length, arith}
use Rattle.std.specs.Prelude.{is_some, option_map}
use Rattle.std.specs.List.{AllByRecursion}
use Rattle.std.proofs.lemmas.Option.{none-some, same_Some}
use Rattle.hc_transcript.specs.declared.reply.Reply.{Reply}
use Rattle.hc_meaning.specs.declared.command.Command.{Command}
use Rattle.hc_meaning.specs.Runs.Cut.{Cut, IsRefusedOutside, Stray, Transaction, cut, cut_at_end, is_over, items_of, with_closed, with_stray}
use Rattle.hc_meaning.specs.Runs.Walk.{Item, LeavesOut, Outside, Belongs, Closes, Misses, move}
use Rattle.hc_meaning.proofs.Runs.Closed.{mapped}
use Rattle.hc_judge.specs.Cuts.{Said, WalksTo}

-- A cut with these transactions, whose commands in none are refused as they have to be.
abbrev pub HasCut : ℕ → ℕ → Option (List Item) → List Command → List Reply → List Transaction → Type 0
HasCut conn n now commands replies ts =
    (k : Cut) × (cut conn n now commands replies ≡ Some k) × (k.closed ≡ ts) × AllByRecursion IsRefusedOutside k.strays

pub to_cut : (conn n : ℕ) (now : Option (List Item)) (commands : List Command) (replies : List Reply) (ts : List Transaction)
    → WalksTo conn n now commands replies ts → HasCut conn n now commands replies ts
to_cut conn n now [] [] ts walks = (
  record { closed = []; unfinished = None; strays = [] },
  subst (λ (o : Option (List Item)). cut_at_end o ≡ Some (record { closed = []; unfinished = None; strays = [] })) (sym walks.0) refl,
  sym walks.1,
  tt,
)
to_cut conn n now [] (r ∷ replies) ts walks = absurd walks
to_cut conn n now (k ∷ commands) [] ts walks = absurd walks
to_cut conn n now (k ∷ commands) (r ∷ replies) ts walks =
    elim (move (is_some now) (is_over commands) k r) as (λ m. Said m conn n now k (λ next opened rest. WalksTo conn next opened commands replies rest) ts
    → (c : Cut) × (elim m [
      | LeavesOut ↦ cut conn n now commands replies
      | Outside answer ↦ option_map (with_stray (record { command = k; answer = answer })) (cut conn n now commands replies)
      | Belongs item ↦ cut conn n (Some (items_of now ++ item ∷ [])) commands replies
      | Closes item close ending ↦ option_map
          (with_closed (record { conn = conn; ordinal = n; items = items_of now ++ item ∷ []; close = close; ending = ending }))
          (cut conn (n + 1) None commands replies)
      | Misses ↦ None
    ] ≡ Some c) × (c.closed ≡ ts) × AllByRecursion IsRefusedOutside c.strays) [
      | LeavesOut ↦ λ said. to_cut conn n now commands replies ts said
      | Outside answer ↦ λ said.
          let stray : Stray = record { command = k; answer = answer } in
          let found = to_cut conn n now commands replies ts said.1 in
          (with_stray stray found.0, ap (option_map (with_stray stray)) found.1, found.2, (said.0, found.3))
      | Belongs item ↦ λ said. to_cut conn n (Some (items_of now ++ item ∷ [])) commands replies ts said
      | Closes item close ending ↦ λ said.
          let t : Transaction = record { conn = conn; ordinal = n; items = items_of now ++ item ∷ []; close = close; ending = ending } in
          let found = to_cut conn (n + 1) None commands replies said.0 said.2 in
          (with_closed t found.0, ap (option_map (with_closed t)) found.1, ap (λ (l : List Transaction). t ∷ l) found.2 ∙ sym said.1, found.3)
      | Misses ↦ λ said. absurd said
    ] walks

pub from_cut : (conn n : ℕ) (now : Option (List Item)) (commands : List Command) (replies : List Reply) (c : Cut)
    → length replies ≡ length commands → cut conn n now commands replies ≡ Some c → AllByRecursion IsRefusedOutside c.strays
    → WalksTo conn n now commands replies c.closed
from_cut conn n None [] [] c same is strays =
    (refl, ap (λ (d : Cut). d.closed) (sym (same_Some (record { closed = []; unfinished = None; strays = [] }) c is)))
from_cut conn n (Some items) [] [] c same is strays = absurd (none-some c is)
from_cut conn n now [] (r ∷ replies) c same is strays = absurd (omega (arith, same))
from_cut conn n now (k ∷ commands) [] c same is strays = absurd (omega (arith, same))
from_cut conn n now (k ∷ commands) (r ∷ replies) c same is strays =
    let fewer : length replies ≡ length commands = omega (arith, same) in
    elim (move (is_some now) (is_over commands) k r) as (λ m. elim m [
      | LeavesOut ↦ cut conn n now commands replies
      | Outside answer ↦ option_map (with_stray (record { command = k; answer = answer })) (cut conn n now commands replies)
      | Belongs item ↦ cut conn n (Some (items_of now ++ item ∷ [])) commands replies
      | Closes item close ending ↦ option_map
          (with_closed (record { conn = conn; ordinal = n; items = items_of now ++ item ∷ []; close = close; ending = ending }))
          (cut conn (n + 1) None commands replies)
      | Misses ↦ None
    ] ≡ Some c → Said m conn n now k (λ next opened rest. WalksTo conn next opened commands replies rest) c.closed) [
      | LeavesOut ↦ λ found. from_cut conn n now commands replies c fewer found strays
      | Outside answer ↦ λ found.
          let stray : Stray = record { command = k; answer = answer } in
          let rest = mapped (with_stray stray) (cut conn n now commands replies) c found in
          let refused : AllByRecursion IsRefusedOutside (with_stray stray rest.0).strays = subst (λ (d : Cut). AllByRecursion IsRefusedOutside d.strays) (sym rest.2) strays in
          (refused.0, subst (λ (d : Cut). WalksTo conn n now commands replies d.closed) rest.2 (from_cut conn n now commands replies rest.0 fewer rest.1 refused.1))
      | Belongs item ↦ λ found. from_cut conn n (Some (items_of now ++ item ∷ [])) commands replies c fewer found strays
      | Closes item close ending ↦ λ found.
          let t : Transaction = record { conn = conn; ordinal = n; items = items_of now ++ item ∷ []; close = close; ending = ending } in
          let rest = mapped (with_closed t) (cut conn (n + 1) None commands replies) c found in
          let refused : AllByRecursion IsRefusedOutside rest.0.strays = subst (λ (d : Cut). AllByRecursion IsRefusedOutside d.strays) (sym rest.2) strays in
          (rest.0.closed, ap (λ (d : Cut). d.closed) (sym rest.2), from_cut conn (n + 1) None commands replies rest.0 fewer rest.1 refused)
      | Misses ↦ λ found. absurd (none-some c found)
    ] is
