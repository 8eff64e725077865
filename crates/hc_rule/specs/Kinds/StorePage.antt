-- A store of the word of an owned page: the seat names another next page, or gives the page back.
use Rattle.std.specs.Prelude.{◌≡◌, ℕ, ◌<◌, ◌^◌, ⊤}
use Rattle.hc_base.specs.Lookup.{Among}
use Rattle.hc_base.specs.declared.page_word.PageWord.{PageWord}
use Rattle.hc_base.specs.declared.page_word.PageWord.TheVariants as word
use Rattle.atomic_table.specs.Table.{Me}
use Rattle.hc_rule.specs.declared.view.View.{View}
use Rattle.hc_rule.specs.declared.view.Row.{Row}
use Rattle.hc_rule.specs.Hands.{changed, without_page, set_next}
use Rattle.hc_rule.specs.Views.{bare}

-- the seat owns the page
abbrev pub Owns : View → ℕ → Type 0
Owns v p = (row : Row) × Among row v.pages × (row.page.0 ≡ p)

-- the view without a page, and with another next one of it
abbrev pub without : ℕ → View → View
without p v = record v { pages = without_page p v.pages }

abbrev pub with_next : ℕ → ℕ → View → View
with_next p next v = record v { pages = changed p (set_next next) v.pages }

-- what a seat of this connection may store on a page that it owns
abbrev pub MayStore : ℕ → PageWord → Type 0
MayStore conn word.Free = ⊤
MayStore conn (word.Owned seat next) = (seat ≡ conn) × (next < 2 ^ 32)
MayStore conn (word.Mapped number) = ⊥
MayStore conn (word.Pending seat next) = ⊥
MayStore conn (word.Limbo stamp) = ⊥

-- the view after it
abbrev pub stored : ℕ → PageWord → View → View
stored p word.Free v = without p v
stored p (word.Owned seat next) v = with_next p next v
stored p (word.Mapped number) v = v
stored p (word.Pending seat next) v = v
stored p (word.Limbo stamp) v = v

-- what the store tells
abbrev pub StoresPage : ℕ → PageWord → View → Me Unit View → Type 0
StoresPage p form v after = after ≡ bare (stored p form v)
