-- A load of the word of a transaction id, the exchange that draws one, and a store of the word of the own id.
use Rattle.std.specs.Prelude.{◌≡◌, ◌≢◌, ◌⊎◌, ℕ, ◌+◌, ◌<◌, ◌^◌, Bool, true, false, Some, List, [], ◌∷◌}
use Rattle.hc_base.specs.Lookup.{Among}
use Rattle.hc_base.specs.Words.{IsTidWord, tid_word}
use Rattle.hc_base.specs.declared.numbers.Cid.{Cid}
use Rattle.hc_base.specs.declared.seat_word.SeatWord.TheVariants as seat
use Rattle.hc_base.specs.declared.tid_word.TidWord.{TidWord}
use Rattle.hc_base.specs.declared.tid_word.TidWord.TheVariants as tid
use Rattle.atomic_table.specs.Table.{Me}
use Rattle.hc_core.specs.Account.{Txn, WhenOpen}
use Rattle.hc_core.specs.Diary.{entry_of}
use Rattle.hc_core.specs.declared.event.Event.TheVariants.{Draw}
use Rattle.hc_core.specs.declared.outcome.Outcome.TheVariants.{Drew}
use Rattle.hc_rule.specs.declared.view.SeenWord.{SeenWord}
use Rattle.hc_rule.specs.declared.view.View.{View}
use Rattle.hc_rule.specs.Views.{bare}
use Rattle.hc_rule.specs.Kinds.LoadPage.{with_found}
use Rattle.hc_rule.specs.Kinds.LoadLog.{own_txns, with_entry}

-- the view with a word of an id that was found
abbrev pub with_seen : ℕ → TidWord → View → View
with_seen id w v = record v { words = record { tid = record { 0 = id }; word = w; seen = v.seen } ∷ v.words }

-- The same where the word may be empty. It may be filled at any time, so that it was found empty at this place is all that is
-- noted then.
abbrev pub saw : ℕ → ℕ → TidWord → View → View
saw place id tid.Empty v = with_found place 0 v
saw place id (tid.Live conn ord) v = with_seen id (tid.Live conn ord) v
saw place id (tid.Validating conn ord c) v = with_seen id (tid.Validating conn ord c) v
saw place id (tid.Committed conn ord c) v = with_seen id (tid.Committed conn ord c) v
saw place id (tid.RolledBack conn ord) v = with_seen id (tid.RolledBack conn ord) v

-- what a load of the word of an id tells, where it is at this place
abbrev pub LoadsTid : ℕ → ℕ → View → ℕ → Me Unit View → Type 0
LoadsTid place id v n after = (w : TidWord) × IsTidWord w × (tid_word w ≡ n) × (after ≡ bare (saw place id w v))

-- an id is the first, or the one before it was seen drawn
abbrev pub FollowsSeen : ℕ → List SeenWord → Type 0
FollowsSeen id words = (id ≡ 1) ⊎ ((x : SeenWord) × Among x words × (x.tid.0 + 1 ≡ id))

-- A draw of this id, with this ordinal, by the seat of a connection.
pub record Drawing : Type 0 where
  pub conn : ℕ
  pub id : ℕ
  pub ord : ℕ

-- what is asked of the seat: its transaction reads a snapshot and has drawn none, and the ordinal is above all before
pub record MayDraw (d : Drawing) (v : View) : Type 0 where
  pub snapshot : Cid
  pub reads : v.stage ≡ seat.Snapshot snapshot
  pub undrawn : WhenOpen (own_txns v) (λ t. t.id ≡ 0)
  pub ord : (0 < d.ord) × (d.ord < 2 ^ 17)
  pub above : (t : Txn) → Among t (own_txns v) → t.ord < d.ord
  pub follows : FollowsSeen d.id v.words

-- the view after it
abbrev pub drew : Drawing → View → View
drew d v = record (with_entry (entry_of (Draw d.conn d.ord) (Drew (record { 0 = d.id }))) v) { own = Some (record { 0 = d.id }); word = tid.Live d.conn d.ord }

-- what the exchange at this place tells: the id was free and is drawn, or what was found there
abbrev pub DrawsTid : ℕ → Drawing → View → ℕ → Me Unit View → Type 0
DrawsTid place d v n after = ((n ≡ 0) × (after ≡ bare (drew d v))) ⊎ ((n ≢ 0) × LoadsTid place d.id v n after)

-- the same by the answer: whether the id was drawn
abbrev pub DrewTid : Drawing → View → Bool → Me Unit View → Type 0
DrewTid d v true after = after ≡ bare (drew d v)
DrewTid d v false after = (w : TidWord) × IsTidWord w × (w ≢ tid.Empty) × (after ≡ bare (with_seen d.id w v))

-- the word says that the transaction was rolled back
abbrev pub IsRolledBack : TidWord → Type 0
IsRolledBack tid.Empty = ⊥
IsRolledBack (tid.Live conn ord) = ⊥
IsRolledBack (tid.Validating conn ord c) = ⊥
IsRolledBack (tid.Committed conn ord c) = ⊥
IsRolledBack (tid.RolledBack conn ord) = Unit {0}

-- The word of its own id that a transaction may store: the number that it proposes, while it is undecided; its commit number;
-- or that it is rolled back, once it is undecided and has nothing in its write set.
abbrev pub MaySay : ℕ → TidWord → Txn → Type 0
MaySay c tid.Empty t = ⊥
MaySay c (tid.Live conn ord) t = ⊥
MaySay c (tid.Validating conn ord number) t = (conn ≡ c) × (ord ≡ t.ord) × (t.place ≡ 0) × (t.proposed ≡ number.0)
MaySay c (tid.Committed conn ord number) t = (conn ≡ c) × (ord ≡ t.ord) × (t.place ≡ number.0)
MaySay c (tid.RolledBack conn ord) t = (conn ≡ c) × (ord ≡ t.ord) × (t.place ≡ 0) × (t.write_set ≡ [])

-- A store of the word of the own id by the seat of a connection. A word that says rolled back stays.
pub record TidStore : Type 0 where
  pub conn : ℕ
  pub id : ℕ
  pub word : TidWord

pub record MayStoreTid (s : TidStore) (v : View) : Type 0 where
  pub own : v.own ≡ Some (record { 0 = s.id })
  pub says : WhenOpen (own_txns v) (MaySay s.conn s.word)
  pub stays : IsRolledBack v.word → ⊥
  pub form : IsTidWord s.word

abbrev pub said : TidWord → View → View
said w v = record v { word = w }

abbrev pub StoresTid : TidStore → View → Me Unit View → Type 0
StoresTid s v after = after ≡ bare (said s.word v)
