-- What the calls of a desk tell, where it is a desk of this machine.
use Rattle.std.proofs.Common.{◌≡◌, ◌≢◌, ◌∙◌, ⊎_elim, refl, sym, ap, subst, ℕ, ◌+◌, ◌<◌, ◌≤◌, List, [], ◌∷◌, length, arith, Result, Ok, Err, Option, None, IfErr, Bool, true, false}
use Rattle.std.proofs.lemmas.List.{get_or-set_same, length-append}
use Rattle.hc_range.specs.declared.range.Range.{Range}
use Rattle.hc_range.specs.Ranges.{InRange}
use Rattle.hc_core.specs.Account.{IsEventOf, Txn, WhenOpen, part_of}
use Rattle.hc_core.specs.Calls.{HasLast, HasMadeRoom}
use Rattle.hc_core.specs.Diary.{entry_of}
use Rattle.hc_core.specs.Desk.{AreCellsIn, NamesOther, decide_outcome, put_outcome}
use Rattle.hc_core.specs.ListDesk.{HasRoomOnceDrawn, IsLater}
use Rattle.hc_core.specs.Machine.{Answers, IsCheckAnswer, IsDecideAnswer, IsEnabled, IsPutAnswer, Machine, account_of, after, entered, log_after, txns_of, unless_not_now}
use Rattle.hc_core.specs.Sound.{IsSound}
use Rattle.hc_core.specs.Versions.{AreCellsAfter}
use Rattle.hc_core.specs.declared.account.Entry.TheVariants.{Answered, Reserved}
use Rattle.hc_core.specs.declared.cells.Cell.{Cell}
use Rattle.hc_core.specs.declared.cells.Write.{Write}
use Rattle.hc_core.specs.declared.event.Event.{Event}
use Rattle.hc_core.specs.declared.event.Event.TheVariants.{Begin, Draw, Read, Put, Propose, Check, Decide, Unput, End, Purge}
use Rattle.hc_core.specs.declared.outcome.Lost.{Lost as LostRecord}
use Rattle.hc_core.specs.declared.outcome.Met.{Met as MetRecord}
use Rattle.hc_core.specs.declared.outcome.Outcome.{Outcome}
use Rattle.hc_core.specs.declared.outcome.Outcome.TheVariants.{Done, Began, Drew, Cells, Met, Proposed, Lost, Decided, NotNow}
use Rattle.hc_base.specs.declared.numbers.Cid.{Cid}
use Rattle.hc_core.proofs.Entered.{of_newest, opened}
use Rattle.hc_core.proofs.Named.{names_found, names_in_the_way}
use Rattle.hc_core.proofs.Ordered.{newest_sound}
use Rattle.hc_core.proofs.Steps.{answer_of}

-- the log does not get shorter, whether the event was enabled or not
unless_longer : (outcome : Outcome) (m now : Machine) → length m.log ≤ length now.log → length m.log ≤ length (unless_not_now outcome m now).log
unless_longer Done m now h = h
unless_longer (Began snapshot) m now h = h
unless_longer (Drew id) m now h = h
unless_longer (Cells part) m now h = h
unless_longer (Met met) m now h = h
unless_longer (Proposed number) m now h = h
unless_longer (Lost lost) m now h = h
unless_longer (Decided number) m now h = h
unless_longer NotNow m now h = omega arith

log_longer : (outcome : Outcome) (ts : List Txn) (log : List ℕ) → length log ≤ length (log_after outcome ts log)
log_longer (Decided number) (t ∷ ts) log = rw (length-append log (t.id ∷ [])) (omega arith)
log_longer (Decided number) [] log = omega arith
log_longer Done ts log = omega arith
log_longer (Began snapshot) ts log = omega arith
log_longer (Drew id) ts log = omega arith
log_longer (Cells part) ts log = omega arith
log_longer (Met met) ts log = omega arith
log_longer (Proposed number) ts log = omega arith
log_longer (Lost lost) ts log = omega arith
log_longer NotNow ts log = omega arith

longer : (m : Machine) (event : Event) (outcome : Outcome) → length m.log ≤ length (after m event outcome).log
longer m (Begin i) outcome = unless_longer outcome m _ (omega arith)
longer m (Draw i ord) outcome = unless_longer outcome m _ (omega arith)
longer m (Read i from upto) outcome = unless_longer outcome m _ (omega arith)
longer m (Put i key rec) outcome = unless_longer outcome m _ (omega arith)
longer m (Propose i) outcome = unless_longer outcome m _ (omega arith)
longer m (Check i from upto) outcome = unless_longer outcome m _ (omega arith)
longer m (Decide i) outcome = unless_longer outcome m _ (log_longer outcome (txns_of m i) m.log)
longer m (Unput i key) outcome = unless_longer outcome m _ (omega arith)
longer m (End i) outcome = unless_longer outcome m _ (omega arith)
longer m (Purge key) outcome = omega arith

-- after an event of the connection the machine is a later one
pub went_on : (m now : Machine) (i : ℕ) (event : Event) (outcome : Outcome) → IsEventOf i event → Answers m event outcome → now ≡ after m event outcome
    → (length m.log ≤ length now.log) × IsLater i m now
went_on m now i event outcome own answers is = (
  subst (λ (n : Machine). length m.log ≤ length n.log) (sym is) (longer m event outcome),
  (Answered event outcome ∷ [], (own, tt), (answers, sym is)),
)

-- the cells of an outcome
abbrev cells_of_outcome : Outcome → List Cell
cells_of_outcome (Cells part) = part.cells
cells_of_outcome _ = []

-- cells that were read are in order, and in the part
pub read_in : (m : Machine) (i : ℕ) (from : List ℕ) (upto : Option (List ℕ)) (cells : List Cell) → IsEnabled m (Read i from upto)
    → Answers m (Read i from upto) (Cells (record { cells = cells })) → AreCellsIn (part_of from upto) cells
read_in m i from upto cells enabled answers =
    let is = answer_of m (Read i from upto) (Cells (record { cells = cells })) enabled answers in
    let o = opened (txns_of m i) _ is in
    let are = subst (AreCellsAfter (txns_of m) o.t.snapshot (part_of from upto)) (sym (ap cells_of_outcome (o.holds).2)) (o.holds).1 in
    (are.ascending, λ cell there. ((are.exact cell.key cell.rec).0 there).0)

-- who is met is of an outcome
abbrev met_or : Outcome → MetRecord → MetRecord
met_or (Met met) d = met
met_or _ d = d

-- a put that is refused names another connection, and the key
pub put_names : (m : Machine) (i : ℕ) (key : List ℕ) (rec : Option (List ℕ)) (met : MetRecord) → IsSound m → IsEnabled m (Put i key rec)
    → Answers m (Put i key rec) (Met met) → NamesOther i key met
put_names m i key rec met sound enabled answers =
    let e = opened (txns_of m i) _ enabled in
    let answer = of_newest (txns_of m i) e.t e.rest (λ t. IsPutAnswer m i key t (Met met)) e.is (answer_of m (Put i key rec) (Met met) enabled answers) in
    ⊎_elim
    (λ r. let same : met ≡ r.0 = ap (λ o. met_or o met) r.5 in
    let named = names_in_the_way sound.sound i e.t e.rest e.is (e.holds).1 r.0 key r.1 r.2 r.3 r.4 in
    subst (NamesOther i key) (sym same) ((λ own. named.3 (sym named.4 ∙ own)), named.10))
    (λ free. absurd (let f : Met met ≡ Done = free.1 in cc))
    answer

-- a check that is refused names another connection, and a key of the part
pub check_names : (m : Machine) (i : ℕ) (from : List ℕ) (upto : Option (List ℕ)) (met : MetRecord) → IsSound m → IsEnabled m (Check i from upto)
    → Answers m (Check i from upto) (Met met) → InRange (part_of from upto) met.key × (met.conn ≢ i)
check_names m i from upto met sound enabled answers =
    let e = opened (txns_of m i) _ enabled in
    let answer = of_newest (txns_of m i) e.t e.rest (λ t. IsCheckAnswer m (part_of from upto) t (Met met)) e.is (answer_of m (Check i from upto) (Met met) enabled answers) in
    ⊎_elim
    (λ r. let same : met ≡ r.0 = ap (λ o. met_or o met) r.6 in
    let named = names_found sound.sound i e.t e.rest e.is r.0 (part_of from upto) r.1 r.2 r.3 r.4 r.5 in
    subst (λ (n : MetRecord). InRange (part_of from upto) n.key × (n.conn ≢ i)) (sym same) (named.10, (λ own. named.3 (sym named.4 ∙ own))))
    (λ free. absurd (let f : Met met ≡ Done = free.1 in cc))
    answer

-- the number of an outcome that lost it
abbrev lost_number : Outcome → ℕ
lost_number (Lost lost) = lost.cid.0
lost_number _ = 0

-- a decision that is lost names the number proposed, which is in the log
pub lost_names : (m : Machine) (i : ℕ) (lost : LostRecord) → IsSound m → IsEnabled m (Decide i) → Answers m (Decide i) (Lost lost)
    → WhenOpen (txns_of m i) (λ t. t.proposed ≡ lost.cid.0) × (lost.cid.0 ≤ length m.log)
lost_names m i lost sound enabled answers =
    let e = opened (txns_of m i) _ enabled in
    let answer = of_newest (txns_of m i) e.t e.rest (λ t. IsDecideAnswer m t (Lost lost)) e.is (answer_of m (Decide i) (Lost lost) enabled answers) in
    let within = (newest_sound sound.sound i e.t e.rest e.is).numbers.proposed_within in
    ⊎_elim
    (λ won. absurd (let f : Lost lost ≡ Decided (record { 0 = e.t.proposed }) = won.1 in cc))
    (λ r. let same : lost.cid.0 ≡ e.t.proposed = ap lost_number r.1 in (
      subst (λ ts. WhenOpen ts (λ t. t.proposed ≡ lost.cid.0)) (sym e.is) (e.running, sym same),
      omega (arith, same, within, r.0),
    ))
    answer

-- who proposes has drawn an id, so there is room for its writes
pub weighed : (m : Machine) (i : ℕ) → IsSound m → HasRoomOnceDrawn (txns_of m i) → WhenOpen (txns_of m i) (λ t. t.proposed ≢ 0)
    → WhenOpen (txns_of m i) (λ t. (t.proposed ≢ 0) × (t.weight ≢ None))
weighed m i sound room proposing =
    let o = opened (txns_of m i) _ proposing in
    let drew : o.t.id ≢ 0 = λ none. o.holds (((newest_sound sound.sound i o.t o.rest o.is).numbers.undrawn none).1) in
    subst (λ ts. WhenOpen ts (λ t. (t.proposed ≢ 0) × (t.weight ≢ None))) (sym o.is) (o.running, (o.holds, room o.t o.rest o.is o.running drew))

-- the account has the entry
pub account_after : (m now : Machine) (i : ℕ) (event : Event) (outcome : Outcome) → i < length m.accounts → now ≡ entered m i event outcome
    → account_of now i ≡ entry_of event outcome ∷ account_of m i
account_after m now i event outcome within is =
    ap (λ (n : Machine). account_of n i) is ∙ get_or-set_same m.accounts i (entry_of event outcome ∷ account_of m i) [] within

-- after a read of the last cell, or of none
pub last_on : (i : ℕ) (range : Range) (some : Bool) (m now : Machine) (before after : List Cell) → HasLast i range some m now before after
    → (length m.log ≤ length now.log) × IsLater i m now
last_on i range true m now before after h = went_on m now i (Read i (h.0).key range.hi) _ refl h.1 h.2
last_on i range false m now before after h = went_on m now i (Read i range.lo range.hi) _ refl h.0 h.1

-- after room was made
pub room_on : (i ord : ℕ) (writes : List Write) (m now : Machine) → HasMadeRoom i ord writes m now → (length m.log ≤ length now.log) × IsLater i m now
room_on i ord writes m now h =
    let drew : Outcome = Drew (record { 0 = m.drawn + 1 }) in (
      subst (λ (n : Machine). length m.log ≤ length n.log) (sym h.2) (longer m (Draw i ord) drew),
      (Answered (Draw i ord) drew ∷ Reserved i writes ∷ [], (refl, (refl, tt)), (h.0, (h.1, sym h.2))),
    )

-- a put that is refused, whatever it is answered
pub put_met : (m : Machine) (i : ℕ) (key : List ℕ) (rec : Option (List ℕ)) (r : Result (Unit {0}) MetRecord) → IsSound m → IsEnabled m (Put i key rec)
    → Answers m (Put i key rec) (put_outcome r) → IfErr r (λ met. NamesOther i key met)
put_met m i key rec (Ok done) sound enabled answers = tt
put_met m i key rec (Err met) sound enabled answers = put_names m i key rec met sound enabled answers

-- and a decision that is lost
pub decide_lost : (m : Machine) (i : ℕ) (r : Result Cid LostRecord) → IsSound m → IsEnabled m (Decide i) → Answers m (Decide i) (decide_outcome r)
    → IfErr r (λ lost. WhenOpen (txns_of m i) (λ t. t.proposed ≡ lost.cid.0) × (lost.cid.0 ≤ length m.log))
decide_lost m i (Ok number) sound enabled answers = tt
decide_lost m i (Err lost) sound enabled answers = lost_names m i lost sound enabled answers

-- what an error says, turned into something else that it says
pub err_map : {A E : Type 0} (r : Result A E) (P Q : E → Type 0) → IfErr r P → ((x : E) → P x → Q x) → IfErr r Q
err_map (Ok x) P Q h k = tt
err_map (Err e) P Q h k = k e h
