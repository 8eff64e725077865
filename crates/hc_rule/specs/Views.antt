-- Views: what each seat knows, as functions of the seat's number.
use Rattle.std.specs.Prelude.{ℕ, Option, None, List, [], map, slice_index_or}
use Rattle.hc_base.specs.declared.numbers.Tid.{Tid}
use Rattle.hc_base.specs.declared.seat_word.SeatWord.{SeatWord}
use Rattle.hc_base.specs.declared.seat_word.SeatWord.TheVariants as word
use Rattle.hc_base.specs.declared.tid_word.TidWord.{TidWord}
use Rattle.hc_base.specs.declared.tid_word.TidWord.TheVariants as tid
use Rattle.hc_core.specs.declared.account.Entry.{Entry}
use Rattle.atomic_table.specs.Table.{Me}
use Rattle.hc_rule.specs.declared.view.View.{View}
use Rattle.hc_rule.specs.declared.view.Told.{Told}
use Rattle.hc_rule.specs.declared.view.SeenWord.{SeenWord}
use Rattle.hc_rule.specs.declared.view.SeenPlace.{SeenPlace}
use Rattle.hc_rule.specs.declared.view.Role.TheVariants.{Dealer, Connection, Nobody}

-- the view of a seat that knows nothing
abbrev pub nobody : View
nobody = record {
  role = Nobody;
  account = record { entries = [] };
  told = [];
  seen = record { 0 = 0 };
  stage = word.Idle;
  own = None;
  word = tid.Empty;
  words = [];
  places = [];
  loaded = [];
  replaced = [];
  pages = [];
  ready = [];
  pending = [];
  numbers = [];
  found = [];
  claimed = [];
}

-- the first seat deals the others
abbrev pub first_view : View
first_view = record nobody { role = Dealer 0 }

-- the seat of a connection, as it is dealt
abbrev pub dealt_view : ℕ → View
dealt_view conn = record nobody { role = Connection conn }

-- what a view says of transactions and of the log
pub record Knowledge : Type 0 where
  pub account : List Entry
  pub told : List Told
  pub seen : ℕ
  pub stage : SeatWord
  pub own : Option Tid
  pub word : TidWord
  pub words : List SeenWord
  pub places : List SeenPlace

abbrev pub knowledge_of : View → Knowledge
knowledge_of v = record {
  account = v.account.entries;
  told = v.told;
  seen = v.seen.0;
  stage = v.stage;
  own = v.own;
  word = v.word;
  words = v.words;
  places = v.places;
}

-- a field of each seat's view, and `nobody`'s past the last seat
unfoldable pub known : {A : Type 0} → (View → A) → List View → ℕ → A
known f views i = slice_index_or (map f views) i (f nobody)

-- the seat has this view and no slot
abbrev pub bare : View → Me Unit View
bare v = (v, [])
