-- The walk over a transcript: where each step leads, and what it has found so far.
use Rattle.std.proofs.Common.{◌≡◌, ◌∙◌, ◌↔◌, refl, sym, ap, subst, ℕ, ◌+◌, ◌<◌, ◌≤◌, Bool, true, false, IsTrue, Option, Some, None, List, [], ◌∷◌, ◌++◌, length, drop, get_or, append_assoc}
use Rattle.std.specs.Prelude.{is_some, IsSome, MatchOption}
use Rattle.std.proofs.lemmas.Bool.{false≢true}
use Rattle.std.proofs.lemmas.List.{append-nil, at_drop_all, at_drop_more, length_push}
use Rattle.hc_transcript.specs.declared.reply.Ending.{Ending}
use Rattle.hc_transcript.specs.declared.reply.Reply.{Reply}
use Rattle.hc_meaning.specs.declared.answer.Answer.{Answer}
use Rattle.hc_meaning.specs.declared.command.Command.{Command}
use Rattle.hc_meaning.specs.Runs.Cut.{Transaction, is_over, items_of, stray_answer}
use Rattle.hc_meaning.specs.Runs.Walk.{Item, Close, Move, LeavesOut, Outside, Belongs, Closes, move}
use Rattle.hc_judge.specs.Cuts.{Leads, LeadsNowhere, LeadsTo, Place, WalksFrom, WalksOver, WalksTo}

-- ---- one step

pub leads_left_out : (place : Place) (c : Command) → LeadsTo place c LeavesOut place
leads_left_out place c = record {
  same = refl;
  added = [];
  grown = sym (append-nil place.closed);
  cuts = λ commands replies rest walks. walks;
  only = λ commands replies ts walks. (ts, walks);
}

pub leads_outside : (b : Bool) (place : Place) (c : Command) (answer : Answer) → IsTrue b ↔ (answer ≡ stray_answer c) → Leads b place c (Outside answer) place
leads_outside true place c answer says = record {
  same = refl;
  added = [];
  grown = sym (append-nil place.closed);
  cuts = λ commands replies rest walks. (says.0 refl, walks);
  only = λ commands replies ts walks. (ts, walks.1);
}
leads_outside false place c answer says = λ commands replies ts walks. false≢true (says.1 walks.0)

pub leads_belongs : (place later : Place) (c : Command) (item : Item) → later ≡ record { conn = place.conn; closed = place.closed; opened = Some (items_of place.opened ++ item ∷ []) }
    → LeadsTo place c (Belongs item) later
leads_belongs place later c item is = subst (LeadsTo place c (Belongs item)) (sym is) (record {
  same = refl;
  added = [];
  grown = sym (append-nil place.closed);
  cuts = λ commands replies rest walks. walks;
  only = λ commands replies ts walks. (ts, walks);
})

-- the transaction that is closed
abbrev pub closed_as : Place → Item → Close → Ending → Transaction
closed_as place item close ending = record {
  conn = place.conn;
  ordinal = length place.closed + 1;
  items = items_of place.opened ++ item ∷ [];
  close = close;
  ending = ending;
}

pub leads_closes : (place later : Place) (c : Command) (item : Item) (close : Close) (ending : Ending)
    → later ≡ record { conn = place.conn; closed = place.closed ++ closed_as place item close ending ∷ []; opened = None }
    → LeadsTo place c (Closes item close ending) later
leads_closes place later c item close ending is =
    let longer : length (place.closed ++ closed_as place item close ending ∷ []) ≡ length place.closed + 1 = length_push place.closed (closed_as place item close ending) in
    subst (LeadsTo place c (Closes item close ending)) (sym is) (record {
      same = refl;
      added = closed_as place item close ending ∷ [];
      grown = refl;
      cuts = λ commands replies rest walks. (rest, refl, subst (λ (n : ℕ). WalksTo place.conn (n + 1) None commands replies rest) longer walks);
      only = λ commands replies ts walks. (walks.0, subst (λ (n : ℕ). WalksTo place.conn (n + 1) None commands replies walks.0) (sym longer) walks.2);
    })

-- the same, of what the code has: `self` is where the walk is, `taken` the items that were taken out, and `new` the new one
pub steps_belongs : (self place later : Place) (c : Command) (m : Move) (item new : Item) (parts : List Item) (taken : Option (List Item))
    → place ≡ self → m ≡ Belongs item → parts ≡ items_of taken ++ new ∷ [] → taken ≡ place.opened → new ≡ item
    → later ≡ record { conn = place.conn; closed = place.closed; opened = Some parts } → LeadsTo self c m later
steps_belongs self place later c m item new parts taken place_is m_is parts_are taken_is new_is later_is =
    let all : parts ≡ items_of place.opened ++ item ∷ [] =
    parts_are ∙ ap (λ (t : Option (List Item)). items_of t ++ new ∷ []) taken_is ∙ ap (λ (n : Item). items_of place.opened ++ n ∷ []) new_is in
    subst (λ (s : Place). LeadsTo s c m later) place_is
    (subst (λ (n : Move). LeadsTo place c n later) (sym m_is)
    (leads_belongs place later c item (later_is ∙ ap (λ (l : List Item). record { conn = place.conn; closed = place.closed; opened = Some l }) all)))

pub steps_closes : (self place later : Place) (c : Command) (m : Move) (item new : Item) (close : Close) (ending : Ending) (parts : List Item) (taken : Option (List Item)) (before : ℕ) (t : Transaction) (closed : List Transaction)
    → place ≡ self → m ≡ Closes item close ending → parts ≡ items_of taken ++ new ∷ [] → taken ≡ place.opened → new ≡ item → before ≡ length place.closed
    → t ≡ record { conn = place.conn; ordinal = before + 1; items = parts; close = close; ending = ending } → closed ≡ place.closed ++ t ∷ []
    → later ≡ record { conn = place.conn; closed = closed; opened = None } → LeadsTo self c m later
steps_closes self place later c m item new close ending parts taken before t closed place_is m_is parts_are taken_is new_is before_is t_is closed_are later_is =
    let all : parts ≡ items_of place.opened ++ item ∷ [] =
    parts_are ∙ ap (λ (u : Option (List Item)). items_of u ++ new ∷ []) taken_is ∙ ap (λ (n : Item). items_of place.opened ++ n ∷ []) new_is in
    let t_as : t ≡ closed_as place item close ending =
    t_is ∙ ap (λ (n : ℕ). record { conn = place.conn; ordinal = n + 1; items = parts; close = close; ending = ending }) before_is
    ∙ ap (λ (l : List Item). record { conn = place.conn; ordinal = length place.closed + 1; items = l; close = close; ending = ending }) all in
    let closed_as_is : closed ≡ place.closed ++ closed_as place item close ending ∷ [] = closed_are ∙ ap (λ (u : Transaction). place.closed ++ u ∷ []) t_as in
    subst (λ (s : Place). LeadsTo s c m later) place_is
    (subst (λ (n : Move). LeadsTo place c n later) (sym m_is)
    (leads_closes place later c item close ending (later_is ∙ ap (λ (l : List Transaction). record { conn = place.conn; closed = l; opened = None }) closed_as_is)))

-- ---- the loop

-- So far the walk has come to this place: what is cut from there on says what the whole is cut into.
pub record HasCome (conn : ℕ) (commands : List Command) (replies : List Reply) (i : ℕ) (place : Place) : Type 0 where
  pub same : place.conn ≡ conn
  pub forth : (rest : List Transaction) → WalksFrom place (drop i commands) (drop i replies) rest → WalksTo conn 1 None commands replies (place.closed ++ rest)
  pub back : (ts : List Transaction) → WalksTo conn 1 None commands replies ts → (rest : List Transaction) × WalksFrom place (drop i commands) (drop i replies) rest

pub has_begun : (conn : ℕ) (commands : List Command) (replies : List Reply) → HasCome conn commands replies 0 (record { conn = conn; closed = []; opened = None })
has_begun conn commands replies = record {
  same = refl;
  forth = λ rest walks. walks;
  back = λ ts walks. (ts, walks);
}

-- what a next command and reply are, of what is left
module _ (place : Place) (commands : List Command) (replies : List Reply) (i : ℕ) (c : Command) (r : Reply)
    (more : i < length commands) (c_is : c ≡ get_or commands i c) (r_more : i < length replies) (r_is : r ≡ get_or replies i r) where
  abbrev said : Move
  said = move (is_some place.opened) (is_over (drop (i + 1) commands)) c r

  commands_left : drop i commands ≡ c ∷ drop (i + 1) commands
  commands_left = at_drop_more (λ (l : List Command). l) commands i c more ∙ ap (λ (k : Command). k ∷ drop (i + 1) commands) (sym c_is)

  replies_left : drop i replies ≡ r ∷ drop (i + 1) replies
  replies_left = at_drop_more (λ (l : List Reply). l) replies i r r_more ∙ ap (λ (k : Reply). k ∷ drop (i + 1) replies) (sym r_is)

  from_over : (ts : List Transaction) → WalksOver place c said (drop (i + 1) commands) (drop (i + 1) replies) ts → WalksFrom place (drop i commands) (drop i replies) ts
  from_over ts walks = subst (λ (l : List Command). WalksFrom place l (drop i replies) ts) (sym commands_left)
      (subst (λ (l : List Reply). WalksFrom place (c ∷ drop (i + 1) commands) l ts) (sym replies_left) walks)

  to_over : (ts : List Transaction) → WalksFrom place (drop i commands) (drop i replies) ts → WalksOver place c said (drop (i + 1) commands) (drop (i + 1) replies) ts
  to_over ts walks = subst (λ (l : List Reply). WalksFrom place (c ∷ drop (i + 1) commands) l ts) replies_left
      (subst (λ (l : List Command). WalksFrom place l (drop i replies) ts) commands_left walks)

  pub comes_on : (conn : ℕ) (m : Move) (later : Place) → m ≡ said → LeadsTo place c m later → HasCome conn commands replies i place → HasCome conn commands replies (i + 1) later
  comes_on conn m later m_is leads so_far =
      let step : LeadsTo place c said later = subst (λ (n : Move). LeadsTo place c n later) m_is leads in
      record {
        same = step.same ∙ so_far.same;
        forth = λ rest walks. subst (λ (l : List Transaction). WalksTo conn 1 None commands replies l)
            (sym (append_assoc place.closed step.added rest) ∙ ap (λ (l : List Transaction). l ++ rest) (sym step.grown))
            (so_far.forth (step.added ++ rest) (from_over (step.added ++ rest) (step.cuts (drop (i + 1) commands) (drop (i + 1) replies) rest walks)));
        back = λ ts walks.
            let found = so_far.back ts walks in
            step.only (drop (i + 1) commands) (drop (i + 1) replies) found.0 (to_over found.0 found.1);
      }

  pub comes_nowhere : (conn : ℕ) (m : Move) → m ≡ said → LeadsNowhere place c m → HasCome conn commands replies i place → (ts : List Transaction) → WalksTo conn 1 None commands replies ts → ⊥
  comes_nowhere conn m m_is nowhere so_far ts walks =
      let found = so_far.back ts walks in
      subst (λ (n : Move). LeadsNowhere place c n) m_is nowhere (drop (i + 1) commands) (drop (i + 1) replies) found.0 (to_over found.0 found.1)

-- whether no command is left
pub is_not_over : (commands : List Command) (n : ℕ) (d : Command) → n < length commands → false ≡ is_over (drop n commands)
is_not_over commands n d more = sym (at_drop_more is_over commands n d more)

pub is_over_there : (commands : List Command) (n : ℕ) → length commands ≤ n → true ≡ is_over (drop n commands)
is_over_there commands n past = sym (at_drop_all is_over commands n past)

-- where no command is left
pub came_to_end : (conn : ℕ) (commands : List Command) (replies : List Reply) (i : ℕ) (place : Place) → HasCome conn commands replies i place
    → length commands ≤ i → length replies ≤ i
    → (IsSome place.opened → (ts : List Transaction) → WalksTo conn 1 None commands replies ts → ⊥)
    × (place.opened ≡ None → WalksTo conn 1 None commands replies place.closed)
came_to_end conn commands replies i place so_far past r_past =
    let none_left : drop i commands ≡ [] = at_drop_all (λ (l : List Command). l) commands i past in
    let no_reply : drop i replies ≡ [] = at_drop_all (λ (l : List Reply). l) replies i r_past in
    let at_end : (ts : List Transaction) → WalksFrom place (drop i commands) (drop i replies) ts ≡ WalksFrom place [] [] ts =
    λ ts. ap (λ (l : List Command). WalksFrom place l (drop i replies) ts) none_left ∙ ap (λ (l : List Reply). WalksFrom place [] l ts) no_reply in (
      λ some ts walks.
          let found = so_far.back ts walks in
          absurd (false≢true (subst IsSome (subst (λ (X : Type 0). X) (at_end found.0) found.1).0 some)),
      λ closed. subst (λ (l : List Transaction). WalksTo conn 1 None commands replies l) (append-nil place.closed)
          (so_far.forth [] (subst (λ (X : Type 0). X) (sym (at_end [])) (closed, refl))),
    )

-- what holds of an answer, where each of its cases says more
pub answered_so : {A : Type 0} (P Q : Type 0) (R S : A → Type 0) → (P → Q) → ((x : A) → R x → S x) → (o : Option A) → MatchOption o P R → MatchOption o Q S
answered_so P Q R S none some None holds = none holds
answered_so P Q R S none some (Some x) holds = some x holds
